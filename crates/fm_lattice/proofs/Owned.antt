-- Which block a key goes to, and that the map keeps those alone that it has alone.
use Rattle.std.proofs.Common.{◌≡◌, Bool, true, ℕ, zero, suc, ◌<◌, List, [], ◌∷◌, ◌++◌, length, get_or, set, refl, sym, ◌∙◌, subst, arith}
use Rattle.std.specs.List.{insert}
use Rattle.std.specs.Cmp.{IsTotalOrder}
use Rattle.std.specs.declared.cmp.Ordering.{Ordering}
use Rattle.std.specs.declared.cmp.Ordering.TheVariants.{Less, Equal, Greater}
use Rattle.std.proofs.lemmas.Cmp.{tied_itself}
use Rattle.fm_lattice.specs.Chains.{TellsApart, by_order}
use Rattle.fm_lattice.specs.laws.ChainLaws.{by_cases, less_greater, greater_less}
use Rattle.fm_lattice.specs.Maps.{IsBelow, IsRising, put}
use Rattle.fm_lattice.specs.laws.MapLaws.{below_trans}
use Rattle.fm_lattice.specs.inner.SortedVec.{HasKeyAt, IsInsertionIndex}
use Rattle.fm_lattice.specs.Stocks.{Stock}
use Rattle.fm_lattice.specs.inner.BlockOrder.{BeginsWith, BeginAbove, IsBlockFor, is_owned_home, GoesToOwned, GoToOwned}
use Rattle.fm_lattice.proofs.Places.{below_at}

not_less_equal : Equal ≡ Less → ⊥
not_less_equal e = cc

not_less_greater : Greater ≡ Less → ⊥
not_less_greater e = cc

module _ {K V : Type 0} (cmp : K → K → Ordering) (k : K) where
  -- blocks that begin above the key do not matter
  above_home : (owned : Bool) (bs : List (K × Stock (K × V))) → IsBelow cmp k bs → is_owned_home cmp k owned bs ≡ owned
  above_home owned [] below = refl
  above_home owned (b ∷ bs) below = rw below.0 refl

  -- a block that begins no later is passed
  passed : (owned : Bool) (b : K × Stock (K × V)) (bs : List (K × Stock (K × V))) → (cmp k b.0 ≡ Less → ⊥) → is_owned_home cmp k owned (b ∷ bs) ≡ is_owned_home cmp k b.1.owned bs
  passed owned b bs late =
      by_cases (cmp k b.0) (λ o. (o ≡ Less → ⊥) → by_order o owned (is_owned_home cmp k b.1.owned bs) (is_owned_home cmp k b.1.owned bs) ≡ is_owned_home cmp k b.1.owned bs)
      (λ _ never. absurd (never refl)) (λ _ _. refl) (λ _ _. refl) late

  more_owned : (owned : Bool) (bs : List (K × Stock (K × V))) → is_owned_home cmp k owned bs ≡ true → is_owned_home cmp k true bs ≡ true
  more_owned owned [] h = refl
  more_owned owned (b ∷ bs) h =
      let rest = is_owned_home cmp k b.1.owned bs in
      by_cases (cmp k b.0) (λ o. by_order o owned rest rest ≡ true → by_order o true rest rest ≡ true)
      (λ _ _. refl) (λ _ e. e) (λ _ e. e) h

  -- a block of the map's own in place of another with the same key
  home_set : (owned : Bool) (bs : List (K × Stock (K × V))) (i : ℕ) (d c : K × Stock (K × V)) → c.0 ≡ (get_or bs i d).0 → c.1.owned ≡ true → is_owned_home cmp k owned bs ≡ true → is_owned_home cmp k owned (set bs i c) ≡ true
  home_set owned [] i d c key own h = h
  home_set owned (b ∷ bs) zero d c key own h =
      let old = is_owned_home cmp k b.1.owned bs in
      let new = is_owned_home cmp k c.1.owned bs in
      rw key (by_cases (cmp k b.0) (λ o. by_order o owned old old ≡ true → by_order o owned new new ≡ true)
      (λ _ e. e) (λ _ e. rw own (more_owned b.1.owned bs e)) (λ _ e. rw own (more_owned b.1.owned bs e)) h)
  home_set owned (b ∷ bs) (suc i) d c key own h =
      let old = is_owned_home cmp k b.1.owned bs in
      let new = is_owned_home cmp k b.1.owned (set bs i c) in
      by_cases (cmp k b.0) (λ o. by_order o owned old old ≡ true → by_order o owned new new ≡ true)
      (λ _ e. e) (λ _ e. home_set b.1.owned bs i d c key own e) (λ _ e. home_set b.1.owned bs i d c key own e) h

  pub owned_set : (bs : List (K × Stock (K × V))) (i : ℕ) (d c : K × Stock (K × V)) → c.0 ≡ (get_or bs i d).0 → c.1.owned ≡ true → GoesToOwned cmp bs k → GoesToOwned cmp (set bs i c) k
  owned_set [] i d c key own h = tt
  owned_set (b ∷ bs) zero d c key own h = rw own (more_owned b.1.owned bs h)
  owned_set (b ∷ bs) (suc i) d c key own h = home_set b.1.owned bs i d c key own h

  -- one block of the map's own more
  one_owned : (c : K × Stock (K × V)) (bs : List (K × Stock (K × V))) → c.1.owned ≡ true → is_owned_home cmp k true bs ≡ true → is_owned_home cmp k true (c ∷ bs) ≡ true
  one_owned c bs own h =
      let new = is_owned_home cmp k c.1.owned bs in
      let rest : new ≡ true = rw own h in
      by_cases (cmp k c.0) (λ o. by_order o true new new ≡ true) (λ _. refl) (λ _. rest) (λ _. rest)

  home_cut : (owned : Bool) (bs : List (K × Stock (K × V))) (i : ℕ) (d b c : K × Stock (K × V)) → i < length bs → b.0 ≡ (get_or bs i d).0 → b.1.owned ≡ true → c.1.owned ≡ true → is_owned_home cmp k owned bs ≡ true → is_owned_home cmp k owned (insert (set bs i b) (suc i) c) ≡ true
  home_cut owned [] i d b c lt key lower upper h = absurd (omega arith)
  home_cut owned (a ∷ bs) zero d b c lt key lower upper h =
      let old = is_owned_home cmp k a.1.owned bs in
      let new = is_owned_home cmp k b.1.owned (c ∷ bs) in
      let more : old ≡ true → new ≡ true = λ e. rw lower (one_owned c bs upper (more_owned a.1.owned bs e)) in
      rw key (by_cases (cmp k a.0) (λ o. by_order o owned old old ≡ true → by_order o owned new new ≡ true)
      (λ _ e. e) (λ _ e. more e) (λ _ e. more e) h)
  home_cut owned (a ∷ bs) (suc i) d b c lt key lower upper h =
      let old = is_owned_home cmp k a.1.owned bs in
      let new = is_owned_home cmp k a.1.owned (insert (set bs i b) (suc i) c) in
      let more : old ≡ true → new ≡ true = λ e. home_cut a.1.owned bs i d b c (omega arith) key lower upper e in
      by_cases (cmp k a.0) (λ o. by_order o owned old old ≡ true → by_order o owned new new ≡ true)
      (λ _ e. e) (λ _ e. more e) (λ _ e. more e) h

  pub owned_cut : (bs : List (K × Stock (K × V))) (i : ℕ) (d b c : K × Stock (K × V)) → i < length bs → b.0 ≡ (get_or bs i d).0 → b.1.owned ≡ true → c.1.owned ≡ true → GoesToOwned cmp bs k → GoesToOwned cmp (insert (set bs i b) (suc i) c) k
  owned_cut [] i d b c lt key lower upper h = absurd (omega arith)
  owned_cut (a ∷ bs) zero d b c lt key lower upper h = rw lower (one_owned c bs upper (more_owned a.1.owned bs h))
  owned_cut (a ∷ bs) (suc i) d b c lt key lower upper h = home_cut a.1.owned bs i d b c (omega arith) key lower upper h

  -- where the key goes, the block is the map's own exactly if the key goes to one that is
  pub home_owned : (bs : List (K × Stock (K × V))) (i : ℕ) (d : K × Stock (K × V)) → IsBlockFor cmp k bs i → GoesToOwned cmp bs k → (get_or bs i d).1.owned ≡ true
  home_owned [] i d is h = absurd is
  home_owned (b ∷ bs) zero d is h = sym (above_home b.1.owned bs is) ∙ h
  home_owned (b ∷ []) (suc i) d is h = absurd is.1
  home_owned (b ∷ c ∷ bs) (suc i) d is h = home_owned (c ∷ bs) i d is.1 (sym (passed b.1.owned c bs is.0) ∙ h)

  pub owned_home : (bs : List (K × Stock (K × V))) (i : ℕ) (d c : K × Stock (K × V)) → IsBlockFor cmp k bs i → c.0 ≡ (get_or bs i d).0 → c.1.owned ≡ true → GoesToOwned cmp (set bs i c) k
  owned_home [] i d c is key own = absurd is
  owned_home (b ∷ bs) zero d c is key own = above_home c.1.owned bs is ∙ own
  owned_home (b ∷ []) (suc i) d c is key own = absurd is.1
  owned_home (b ∷ a ∷ bs) (suc zero) d c is key own = passed b.1.owned c bs (λ less. is.0 (rw (sym key) less)) ∙ owned_home (a ∷ bs) zero d c is.1 key own
  owned_home (b ∷ a ∷ bs) (suc (suc i)) d c is key own = passed b.1.owned a (set bs i c) is.0 ∙ owned_home (a ∷ bs) (suc i) d c is.1 key own

-- The block that a search finds is the one that the key goes to.
module _ {K V : Type 0} (cmp : K → K → Ordering) (total : IsTotalOrder cmp) (same : TellsApart cmp) where
  at_begins : (bs : List (K × V)) (k : K) (i : ℕ) → IsRising cmp bs → HasKeyAt cmp bs k i → BeginAbove cmp k bs → ⊥
  at_begins [] k i r at above = absurd (omega (arith, at.in_range))
  at_begins (b ∷ bs) k zero r at less =
      let key : b.0 ≡ k = same b.0 k (at.has_key b) in
      not_less_equal (sym (tied_itself total k) ∙ subst (λ z. cmp k z ≡ Less) key less)
  at_begins (b ∷ bs) k (suc i) r at less =
      let key : (get_or bs i b).0 ≡ k = same (get_or bs i b).0 k (at.has_key b) in
      let below : cmp b.0 k ≡ Less = subst (λ z. cmp b.0 z ≡ Less) key (below_at cmp total same b.0 bs i b r.0 (omega (arith, at.in_range))) in
      not_less_greater (sym (less_greater cmp total b.0 k below) ∙ less)

  below_after : (k : K) (bs : List (K × V)) → ((j : ℕ) (d : K × V) → j < length bs → cmp k (get_or bs j d).0 ≡ Less) → IsBelow cmp k bs
  below_after k [] each = tt
  below_after k (b ∷ bs) each = (each 0 b (omega arith), below_after k bs (λ j d lt. each (suc j) d (omega arith)))

module _ {K V : Type 0} (cmp : K → K → Ordering) (total : IsTotalOrder cmp) (same : TellsApart cmp) where
  pub home_at : (bs : List (K × Stock (K × V))) (k : K) (i : ℕ) → IsRising cmp bs → HasKeyAt cmp bs k i → IsBlockFor cmp k bs i
  home_at [] k i r at = absurd (omega (arith, at.in_range))
  home_at (b ∷ bs) k zero r at = subst (λ z. IsBelow cmp z bs) (same b.0 k (at.has_key b)) r.0
  home_at (b ∷ bs) k (suc i) r at =
      let rest : HasKeyAt cmp bs k i = record { in_range = omega (arith, at.in_range); has_key = λ d. at.has_key d } in
      (at_begins cmp total same bs k i r.1 rest, home_at bs k i r.1 rest)

  pub home_before : (bs : List (K × Stock (K × V))) (k : K) (i : ℕ) → IsInsertionIndex cmp bs k (suc i) → IsBlockFor cmp k bs i
  home_before [] k i gap = absurd (omega (arith, gap.in_range))
  home_before (b ∷ bs) k zero gap = below_after cmp total same k bs (λ j d lt. greater_less cmp total (get_or bs j d).0 k (gap.after (suc j) d (omega arith) (omega arith)))
  home_before (b ∷ []) k (suc i) gap = absurd (omega (arith, gap.in_range))
  home_before (b ∷ c ∷ bs) k (suc i) gap = (
    (λ less. not_less_greater (sym (less_greater cmp total c.0 k (gap.before 1 b (omega arith))) ∙ less)),
    home_before (c ∷ bs) k i (record { in_range = omega (arith, gap.in_range); before = λ j d lt. gap.before (suc j) d (omega arith); after = λ j d le lt. gap.after (suc j) d (omega arith) (omega arith) }),
  )

  pub home_first : (bs : List (K × Stock (K × V))) (k : K) → 0 < length bs → IsInsertionIndex cmp bs k 0 → IsBlockFor cmp k bs 0
  home_first [] k some gap = absurd (omega arith)
  home_first (b ∷ bs) k some gap = below_after cmp total same k bs (λ j d lt. greater_less cmp total (get_or bs j d).0 k (gap.after (suc j) d (omega arith) (omega arith)))

  -- a block of the map's own in place of another, which may begin earlier
  home_earlier : (k : K) (owned : Bool) (bs : List (K × Stock (K × V))) (i : ℕ) (d c : K × Stock (K × V)) → IsRising cmp bs → (cmp k c.0 ≡ Less → cmp k (get_or bs i d).0 ≡ Less) → c.1.owned ≡ true → is_owned_home cmp k owned bs ≡ true → is_owned_home cmp k owned (set bs i c) ≡ true
  home_earlier k owned [] i d c r earlier own h = h
  home_earlier k owned (b ∷ bs) zero d c r earlier own h =
      let new = is_owned_home cmp k c.1.owned bs in
      let old = is_owned_home cmp k b.1.owned bs in
      let late : new ≡ true = rw own (by_cases (cmp k b.0) (λ o. cmp k b.0 ≡ o → by_order o owned old old ≡ true → is_owned_home cmp k true bs ≡ true)
      (λ _ less _. above_home cmp k true bs (below_trans cmp total same k b.0 bs less r.0)) (λ _ _ e. more_owned cmp k b.1.owned bs e) (λ _ _ e. more_owned cmp k b.1.owned bs e) refl h) in
      by_cases (cmp k c.0) (λ o. cmp k c.0 ≡ o → by_order o owned new new ≡ true)
      (λ _ less. rw (earlier less) at h) (λ _ _. late) (λ _ _. late) refl
  home_earlier k owned (b ∷ bs) (suc i) d c r earlier own h =
      let old = is_owned_home cmp k b.1.owned bs in
      let new = is_owned_home cmp k b.1.owned (set bs i c) in
      let more : old ≡ true → new ≡ true = λ e. home_earlier k b.1.owned bs i d c r.1 earlier own e in
      by_cases (cmp k b.0) (λ o. by_order o owned old old ≡ true → by_order o owned new new ≡ true)
      (λ _ e. e) (λ _ e. more e) (λ _ e. more e) h

  owned_earlier : (k : K) (bs : List (K × Stock (K × V))) (i : ℕ) (d c : K × Stock (K × V)) → IsRising cmp bs → (cmp k c.0 ≡ Less → cmp k (get_or bs i d).0 ≡ Less) → c.1.owned ≡ true → GoesToOwned cmp bs k → GoesToOwned cmp (set bs i c) k
  owned_earlier k [] i d c r earlier own h = tt
  owned_earlier k (b ∷ bs) zero d c r earlier own h = rw own (more_owned cmp k b.1.owned bs h)
  owned_earlier k (b ∷ bs) (suc i) d c r earlier own h = home_earlier k b.1.owned bs i d c r.1 earlier own h

  -- a pair more begins no later
  put_begins : (join : V → V → V) (j k : K) (v : V) (x y : K) (es : List (K × V)) → BeginsWith x es → BeginsWith y (put cmp join k v es) → cmp j y ≡ Less → cmp j x ≡ Less
  put_begins join j k v x y [] old new less = absurd old
  put_begins join j k v x y (e ∷ es) old new less =
      subst (λ z. cmp j z ≡ Less) old (by_cases (cmp k e.0) (λ o. cmp k e.0 ≡ o → BeginsWith y (by_order o ((k, v) ∷ e ∷ es) ((e.0, join e.1 v) ∷ es) (e ∷ put cmp join k v es)) → cmp j e.0 ≡ Less)
      (λ _ first new. total.trans j k e.0 (subst (λ z. cmp j z ≡ Less) (sym new) less) first)
      (λ _ _ new. subst (λ z. cmp j z ≡ Less) (sym new) less)
      (λ _ _ new. subst (λ z. cmp j z ≡ Less) (sym new) less) refl new)

  pub owned_put : (join : V → V → V) (bs : List (K × Stock (K × V))) (k : K) (v : V) (i : ℕ) (w c : K × Stock (K × V)) →
      IsRising cmp bs → w ≡ get_or bs i w → BeginsWith w.0 w.1.items → c.1.items ≡ put cmp join k v w.1.items → BeginsWith c.0
      c.1.items → c.1.owned ≡ true → (j : K) → GoesToOwned cmp bs j → GoesToOwned cmp (set bs i c) j
  owned_put join bs k v i w c r read old items new own j goes =
      owned_earlier j bs i w c r (λ less. subst (λ z. cmp j z.0 ≡ Less) read (put_begins join j k v w.0 c.0 w.1.items old (subst (BeginsWith c.0) items new) less)) own goes

-- of each changed key
module _ {K V C : Type 0} (cmp : K → K → Ordering) where
  pub still_owned : (bs new : List (K × Stock (K × V))) (cs : List ((K × V) × C)) → ((k : K) → GoesToOwned cmp bs k → GoesToOwned cmp new k) → GoToOwned cmp bs cs → GoToOwned cmp new cs
  still_owned bs new [] keeps h = tt
  still_owned bs new (c ∷ cs) keeps h = (keeps c.0.0 h.0, still_owned bs new cs keeps h.1)

  pub owned_push : (bs : List (K × Stock (K × V))) (cs : List ((K × V) × C)) (c : (K × V) × C) → GoToOwned cmp bs cs → GoesToOwned cmp bs c.0.0 → GoToOwned cmp bs (cs ++ c ∷ [])
  owned_push bs [] c h goes = (goes, tt)
  owned_push bs (d ∷ cs) c h goes = (h.0, owned_push bs cs c h.1 goes)
