-- Each move keeps the rule of an inbox.
use Rattle.std.proofs.Common.{◌≡◌, ◌≢◌, ℕ, zero, suc, ◌+◌, ◌-◌, ◌<◌, ◌≤◌, List, [], ◌∷◌, ◌++◌, set, sym, refl, ap, ◌∙◌, subst, ⊎_elim, arith}
use mathlib.Core.Option.{some, some-ne-none, some-injective}
use lib.ListN.{get_elem?}
use Rattle.crossbeam_queue.specs.Fifo.{Pushes, Pops, Forks, Merges, Learns}
use Rattle.crossbeam_queue.proofs.Lists.{at_set, at_snoc}
use Rattle.fm_delta.specs.declared.packet.Packet.{Packet}
use Rattle.fm_inbox.specs.declared.conservation.PortAccount.{PortAccount}
use Rattle.fm_inbox.specs.Conservation.{weigh}
use Rattle.fm_inbox.specs.inner.PortAccounts.{account, parts_in_account, put_weight, taken_of, IsProper, IsBalanced}

pub weigh-append : {X : Type 0} (f : X → ℕ) (xs ys : List X) → weigh f (xs ++ ys) ≡ weigh f xs + weigh f ys
weigh-append f [] ys = omega arith
weigh-append f (x ∷ xs) ys = let e = weigh-append f xs ys in omega (arith, e)

-- the total after a change of one view
total_set : (f : PortAccount → ℕ) (views : List PortAccount) (i : ℕ) (v w : PortAccount) → get_elem? views i ≡ some v → weigh f (set views i w) + f v ≡ weigh f views + f w
total_set f [] i v w at = absurd (some-ne-none v (sym at))
total_set f (x ∷ xs) zero v w at = let e = ap f (some-injective x v at) in omega (arith, e)
total_set f (x ∷ xs) (suc i) v w at = let e = total_set f xs i v w at in omega (arith, e)

total_snoc : (f : PortAccount → ℕ) (views : List PortAccount) (w : PortAccount) → weigh f (views ++ w ∷ []) ≡ weigh f views + f w
total_snoc f views w = omega (arith, weigh-append f views (w ∷ []))

-- one view is within the total
within : (f : PortAccount → ℕ) (views : List PortAccount) (i : ℕ) (v : PortAccount) → get_elem? views i ≡ some v → f v ≤ weigh f views
within f [] i v at = absurd (some-ne-none v (sym at))
within f (x ∷ xs) zero v at = let e = ap f (some-injective x v at) in omega (arith, e)
within f (x ∷ xs) (suc i) v at = let e = within f xs i v at in omega (arith, e)

-- if one view has the whole total, another has nothing
others : (f : PortAccount → ℕ) (views : List PortAccount) (i : ℕ) (v : PortAccount) → get_elem? views i ≡ some v → weigh f views ≤ f v → (j : ℕ) (u : PortAccount) → j ≢ i → get_elem? views j ≡ some u → f u ≡ 0
others f [] i v at all j u apart e = absurd (some-ne-none v (sym at))
others f (x ∷ xs) zero v at all zero u apart e = absurd (apart refl)
others f (x ∷ xs) zero v at all (suc j) u apart e = let a = ap f (some-injective x v at) in let b = within f xs j u e in omega (arith, a, b, all)
others f (x ∷ xs) (suc i) v at all zero u apart e = let a = ap f (some-injective x u e) in let b = within f xs i v at in omega (arith, a, b, all)
others f (x ∷ xs) (suc i) v at all (suc j) u apart e = others f xs i v at (omega (arith, all)) j u (λ p. apart (ap suc p)) e

nothing : (f : PortAccount → ℕ) (views : List PortAccount) → ((j : ℕ) (u : PortAccount) → get_elem? views j ≡ some u → f u ≡ 0) → weigh f views ≡ 0
nothing f [] none = refl
nothing f (x ∷ xs) none = let a = none 0 x refl in let b = nothing f xs (λ j u e. none (suc j) u e) in omega (arith, a, b)

-- a total in which one view alone counts
sole : (f : PortAccount → ℕ) (views : List PortAccount) (i : ℕ) (v : PortAccount) → get_elem? views i ≡ some v → ((j : ℕ) (u : PortAccount) → j ≢ i → get_elem? views j ≡ some u → f u ≡ 0) → weigh f views ≡ f v
sole f [] i v at none = absurd (some-ne-none v (sym at))
sole f (x ∷ xs) zero v at none = let a = ap f (some-injective x v at) in let b = nothing f xs (λ j u e. none (suc j) u (λ p. absurd (omega (arith, p))) e) in omega (arith, a, b)
sole f (x ∷ xs) (suc i) v at none = let a = none 0 x (λ p. absurd (omega (arith, p))) refl in let b = sole f xs i v at (λ j u apart e. none (suc j) u (λ p. apart (omega (arith, p))) e) in omega (arith, a, b)

at_all : (F : PortAccount → Type 0) (views : List PortAccount) (i : ℕ) (w : PortAccount) → F w → ((j : ℕ) (u : PortAccount) → j ≢ i → get_elem? views j ≡ some u → F u) → (j : ℕ) (u : PortAccount) → get_elem? (set views i w) j ≡ some u → F u
at_all F views i w mine rest j u e = ⊎_elim (λ (x : (j ≡ i) × (w ≡ u)). subst F x.1 mine) (λ (x : (j ≢ i) × (get_elem? views j ≡ some u)). rest j u x.0 x.1) (at_set views i j w u e)

far : (j : ℕ) (u : PortAccount) → j ≢ 0 → get_elem? (account 1 1 [] [] ∷ []) j ≡ some u → ⊥
far zero u apart e = apart refl
far (suc j) u apart e = some-ne-none u (sym e)

pub begins : IsBalanced [] (account 1 1 [] [] ∷ [])
begins = ((λ h. refl), at_all (IsProper 1) (account 1 1 [] [] ∷ []) 0 (account 1 1 [] []) ((λ p. absurd (omega (arith, p))), λ _. refl) (λ j u apart e. absurd (far j u apart e)))

pub pushes : (n port : ℕ) (v : PortAccount) (x : Packet) → 0 < v.parts → Pushes IsBalanced n port v x (λ w. w ≡ account v.parts v.whole (v.put ++ x ∷ []) v.taken)
pushes n port v x some_part items views room b at =
    let w = account v.parts v.whole (v.put ++ x ∷ []) v.taken in
    let same = total_set parts_in_account views port v w at in
    let mine = b.1 port v at in (
      w,
      (
        (λ h.
            let s = total_set (put_weight h) views port v w at in
            let t = total_set (taken_of h) views port v w at in
            let p = b.0 h in
            omega (arith, s, t, p, weigh-append h v.put (x ∷ []), weigh-append h items (x ∷ []))),
        at_all (IsProper (weigh parts_in_account (set views port w))) views port w
            ((λ p. absurd (omega (arith, p, some_part))), λ p. mine.1 p ∙ omega (arith, same))
            (λ j u apart e. let r = b.1 j u e in (r.0, λ p. r.1 p ∙ omega (arith, same))),
      ),
      refl,
    )

pub pops : (port : ℕ) (v : PortAccount) → 0 < v.parts → Pops IsBalanced port v (λ x w. w ≡ account v.parts v.whole v.put (v.taken ++ x ∷ []))
pops port v some_part x items views b at =
    let w = account v.parts v.whole v.put (v.taken ++ x ∷ []) in
    let same = total_set parts_in_account views port v w at in
    let mine = b.1 port v at in (
      w,
      (
        (λ h.
            let s = total_set (put_weight h) views port v w at in
            let t = total_set (taken_of h) views port v w at in
            let p = b.0 h in
            omega (arith, s, t, p, weigh-append h v.taken (x ∷ []))),
        at_all (IsProper (weigh parts_in_account (set views port w))) views port w
            ((λ p. absurd (omega (arith, p, some_part))), λ p. mine.1 p ∙ omega (arith, same))
            (λ j u apart e. let r = b.1 j u e in (r.0, λ p. r.1 p ∙ omega (arith, same))),
      ),
      refl,
    )

-- a pass made of another, if both have as many parts as that one had
pub cuts : (port : ℕ) (v : PortAccount) → 1 < v.parts → Forks IsBalanced port v (account (v.parts - 1) v.whole v.put v.taken) (account 1 v.whole [] [])
cuts port v some_part items views b at =
    let l = account (v.parts - 1) v.whole v.put v.taken in
    let r = account 1 v.whole [] [] in
    let vs = set views port l in
    let mine = b.1 port v at in
    let same = total_set parts_in_account views port v l at in
    let more = total_snoc parts_in_account vs r in
    let n = weigh parts_in_account (vs ++ r ∷ []) in
    let old = at_all (IsProper n) views port l ((λ p. absurd (omega (arith, p, some_part))), λ p. mine.1 (omega (arith, some_part)) ∙ omega (arith, same, more, some_part))
    (λ j u apart e. let q = b.1 j u e in (q.0, λ p. q.1 p ∙ omega (arith, same, more, some_part))) in (
      (λ h.
          let s = total_set (put_weight h) views port v l at in
          let t = total_set (taken_of h) views port v l at in
          omega (arith, s, t, b.0 h, total_snoc (put_weight h) vs r, total_snoc (taken_of h) vs r)),
      λ j u e. ⊎_elim (λ x. old j u x) (λ (is : r ≡ u). subst (IsProper n) is ((λ p. absurd (omega (arith, p))), λ _. mine.1 (omega (arith, some_part)) ∙ omega (arith, same, more, some_part))) (at_snoc vs r u j e),
    )

-- a part more, if one pass has every part
pub grows : (port : ℕ) (v : PortAccount) → 0 < v.parts → v.whole ≡ v.parts → Forks IsBalanced port v (account (v.parts + 1) (v.whole + 1) v.put v.taken) (account 0 0 [] [])
grows port v some_part all items views b at =
    let l = account (v.parts + 1) (v.whole + 1) v.put v.taken in
    let r = account 0 0 [] [] in
    let vs = set views port l in
    let mine = b.1 port v at in
    let is_whole = mine.1 some_part in
    let same = total_set parts_in_account views port v l at in
    let more = total_snoc parts_in_account vs r in
    let n = weigh parts_in_account (vs ++ r ∷ []) in
    let none = others parts_in_account views port v at (omega (arith, is_whole, all)) in
    let old = at_all (IsProper n) views port l ((λ p. absurd (omega (arith, p))), λ p. omega (arith, same, more, is_whole))
    (λ j u apart e. let q = b.1 j u e in (q.0, λ p. absurd (omega (arith, p, none j u apart e)))) in (
      (λ h.
          let s = total_set (put_weight h) views port v l at in
          let t = total_set (taken_of h) views port v l at in
          omega (arith, s, t, b.0 h, total_snoc (put_weight h) vs r, total_snoc (taken_of h) vs r)),
      λ j u e. ⊎_elim (λ x. old j u x) (λ (is : r ≡ u). subst (IsProper n) is ((λ _. (refl, refl)), λ p. absurd (omega (arith, p)))) (at_snoc vs r u j e),
    )

pub merges : (port : ℕ) (v : PortAccount) (other : ℕ) (u : PortAccount) → 0 < v.parts → Merges IsBalanced port v other u (account (v.parts + u.parts) v.whole (v.put ++ u.put) (v.taken ++ u.taken)) (account 0 0 [] [])
merges port v other u some_part items views b at apart at' =
    let both = account (v.parts + u.parts) v.whole (v.put ++ u.put) (v.taken ++ u.taken) in
    let spent = account 0 0 [] [] in
    let vs = set views port both in
    let mine = b.1 port v at in
    let one = total_set parts_in_account views port v both at in
    let two = total_set parts_in_account vs other u spent at' in
    let n = weigh parts_in_account (set vs other spent) in
    let now = at_all (IsProper n) views port both ((λ p. absurd (omega (arith, p, some_part))), λ p. mine.1 some_part ∙ omega (arith, one, two))
    (λ j y _ e. let q = b.1 j y e in (q.0, λ p. q.1 p ∙ omega (arith, one, two))) in (
      (λ h.
          let s = total_set (put_weight h) views port v both at in
          let s' = total_set (put_weight h) vs other u spent at' in
          let t = total_set (taken_of h) views port v both at in
          let t' = total_set (taken_of h) vs other u spent at' in
          omega (arith, s, s', t, t', b.0 h, weigh-append h v.put u.put, weigh-append h v.taken u.taken)),
      at_all (IsProper n) vs other spent ((λ _. (refl, refl)), λ p. absurd (omega (arith, p))) (λ j y _ e. now j y e),
    )

-- a pass with every part knows what the queue holds
pub learns : (port : ℕ) (v : PortAccount) → 0 < v.parts → Learns IsBalanced port v (λ items. (h : Packet → ℕ) → v.whole ≤ v.parts → weigh h v.put ≡ weigh h v.taken + weigh h items)
learns port v some_part items views b at h all =
    let mine = b.1 port v at in
    let none = others parts_in_account views port v at (omega (arith, mine.1 some_part, all)) in
    let p = sole (put_weight h) views port v at (λ j u apart e. ap (weigh h) ((b.1 j u e).0 (none j u apart e)).0) in
    let t = sole (taken_of h) views port v at (λ j u apart e. ap (weigh h) ((b.1 j u e).0 (none j u apart e)).1) in
    omega (arith, b.0 h, p, t)
