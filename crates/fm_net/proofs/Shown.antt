-- What cells show after one of them is filled, changed or emptied.
use Rattle.std.proofs.Common.{◌≡◌, ◌≢◌, ℕ, true, false, cond, List, [], ◌∷◌, Option, Some, None, is_some, IsSome, length, option_map, refl, sym, ap, ◌∙◌, subst, arith}
use Rattle.std.specs.List.{AllByRecursion}
use Rattle.std.specs.List.Sorted.{IsStrictlySortedBy}
use Rattle.std.specs.Map.{keys_of, remove_entry}
use Rattle.std.specs.BTreeMap.{insert_entry, is_at}
use Rattle.std.specs.Ordering.{is_eq, match_ordering}
use Rattle.std.specs.Cmp.{IsTotalOrder}
use Rattle.std.specs.declared.cmp.Ordering.{Ordering}
use Rattle.std.specs.declared.cmp.Ordering.TheVariants.{Less, Equal, Greater}
use Rattle.std.proofs.lemmas.Cmp.{tied_itself}
use Rattle.fm_lattice.specs.Chains.{TellsApart, by_order}
use Rattle.fm_lattice.specs.laws.ChainLaws.{by_cases}
use Rattle.fm_lattice.specs.Maps.{lookup, put, keep_new, IsBelow, IsRising}
use Rattle.fm_net.specs.Cells.{pairs_in_cells}
use Rattle.fm_net.specs.inner.IndexedCells.{EachHasCell, AreInCells}

module _ {K : Type 0} (cmp : K → K → Ordering) where
  below : (k : K) (es : List (K × ℕ)) → AllByRecursion (λ q. cmp k q ≡ Less) (keys_of es) → IsBelow cmp k es
  below k [] h = tt
  below k (e ∷ es) h = (h.0, below k es h.1)

  pub rising_said : (es : List (K × ℕ)) → IsStrictlySortedBy cmp (keys_of es) → IsRising cmp es
  unfolding IsStrictlySortedBy
  rising_said [] h = tt
  rising_said (e ∷ es) h = (below e.0 es h.0, rising_said es h.1)

pub place_is : (p q : ℕ) → Some p ≡ Some q → p ≡ q
place_is p q e = cc

pub no_place : {P : Type 0} (p : ℕ) → None ≡ Some p → P
no_place p e = absurd (let no : ⊥ = cc in no)

pub same_key : {K V : Type 0} (a : K × V) (k : K) (v : V) → Some a ≡ Some (k, v) → a.0 ≡ k
same_key a k v e = cc

-- the value in the cell at a place, if there are both
abbrev pub value_in : {K V : Type 0} → (ℕ → Option (K × V)) → Option ℕ → Option V
value_in at None = None
value_in at (Some p) = option_map (λ e. e.1) (at p)

-- one cell has this, and the others have what they had
pub record CellIs {K V : Type 0} (at new : ℕ → Option (K × V)) (p : ℕ) (o : Option (K × V)) : Type 0 where
  pub changed : new p ≡ o
  pub others : (q : ℕ) → q ≢ p → new q ≡ at q

pub no_some : {P K V : Type 0} (e : K × V) → Some e ≡ None → P
no_some e is = absurd (let no : ⊥ = cc in no)

-- no key has this place
abbrev pub IsNoPlace : {K : Type 0} → ℕ → List (K × ℕ) → Type 0
IsNoPlace p [] = Unit {0}
IsNoPlace p (e ∷ es) = (e.1 ≢ p) × IsNoPlace p es

module _ {K : Type 0} (cmp : K → K → Ordering) (total : IsTotalOrder cmp) where
  below_less : (k q : K) (es : List (K × ℕ)) → cmp k q ≡ Less → IsBelow cmp q es → IsBelow cmp k es
  below_less k q [] e b = tt
  below_less k q (x ∷ es) e b = (total.trans k q x.0 e b.0, below_less k q es e b.1)

  not_below : (k : K) (es : List (K × ℕ)) → IsBelow cmp k es → lookup cmp k es ≡ None
  not_below k [] b = refl
  not_below k (x ∷ es) b = rw b.0 (not_below k es b.1)

module _ {K V : Type 0} (cmp : K → K → Ordering) (total : IsTotalOrder cmp) where
  some_none : {P : Type 0} (a : K × V) → Some a ≡ None → P
  some_none a e = absurd (let no : ⊥ = cc in no)

  inside : (a b : K × V) → Some a ≡ Some b → a ≡ b
  inside a b e = cc

  -- an empty cell has no key, nor has a cell of a key that is below all
  pub no_key : (at : ℕ → Option (K × V)) (p : ℕ) (es : List (K × ℕ)) → at p ≡ None → EachHasCell at es → IsNoPlace p es
  no_key at p [] e c = tt
  no_key at p (x ∷ es) e c = ((λ is. some_none (x.0, c.0.0) (sym c.0.1 ∙ ap at is ∙ e)), no_key at p es e c.1)

  pub no_other : (at : ℕ → Option (K × V)) (p : ℕ) (k : K) (v : V) (es : List (K × ℕ)) → at p ≡ Some (k, v) → IsBelow cmp k es → EachHasCell at es → IsNoPlace p es
  no_other at p k v [] e b c = tt
  no_other at p k v (x ∷ es) e b c = (
    (λ is.
        let pair : (x.0, c.0.0) ≡ (k, v) = inside (x.0, c.0.0) (k, v) (sym c.0.1 ∙ ap at is ∙ e) in
        let key : x.0 ≡ k = ap (λ (z : K × V). z.0) pair in
        let no : Equal ≡ Less = sym (tied_itself total k) ∙ ap (cmp k) (sym key) ∙ b.0 in
        cc),
    no_other at p k v es e b.1 c.1,
  )

  pub shown_at : (at : ℕ → Option (K × V)) (k : K) (es : List (K × ℕ)) → EachHasCell at es → lookup cmp k (pairs_in_cells at es) ≡ value_in at (lookup cmp k es)
  shown_at at k [] c = refl
  shown_at at k (x ∷ es) c =
      let rest = shown_at at k es c.1 in
      rw c.0.1 (by_cases (cmp k x.0) (λ o. cond (is_eq o) (Some c.0.0) (lookup cmp k (pairs_in_cells at es)) ≡ value_in at (cond (is_eq o) (Some x.1) (lookup cmp k es)))
      (λ _. rest) (λ _. rw c.0.1 refl) (λ _. rest))

  pub is_shown : (at : ℕ → Option (K × V)) (k : K) (es : List (K × ℕ)) → EachHasCell at es → is_some (lookup cmp k es) ≡ is_some (lookup cmp k (pairs_in_cells at es))
  is_shown at k [] c = refl
  is_shown at k (x ∷ es) c =
      let rest = is_shown at k es c.1 in
      rw c.0.1 (elim (is_eq (cmp k x.0)) as (λ b. is_some (cond b (Some x.1) (lookup cmp k es)) ≡ is_some (cond b (Some c.0.0) (lookup cmp k (pairs_in_cells at es)))) [ true ↦ refl | false ↦ rest ])

  -- the cell at the place that is found has the key
  pub record Found (at : ℕ → Option (K × V)) (k : K) (p : ℕ) : Type 0 where
    pub key : K
    pub value : V
    pub cell : at p ≡ Some (key, value)
    pub tied : cmp k key ≡ Equal

  pub found : (at : ℕ → Option (K × V)) (k : K) (p : ℕ) (es : List (K × ℕ)) → EachHasCell at es → lookup cmp k es ≡ Some p → Found at k p
  found at k p [] c e = no_place p e
  found at k p (x ∷ es) c e =
      let rest = found at k p es c.1 in
      by_cases (cmp k x.0) (λ o. cmp k x.0 ≡ o → cond (is_eq o) (Some x.1) (lookup cmp k es) ≡ Some p → Found at k p)
      (λ _ _ h. rest h)
      (λ _ t h. record { key = x.0; value = c.0.0; cell = ap at (sym (place_is x.1 p h)) ∙ c.0.1; tied = t })
      (λ _ _ h. rest h)
      refl e

  pub length_shown : (at : ℕ → Option (K × V)) (es : List (K × ℕ)) → EachHasCell at es → length (pairs_in_cells at es) ≡ length es
  length_shown at [] c = refl
  length_shown at (x ∷ es) c = rw c.0.1 (let rest = length_shown at es c.1 in omega arith)

  below_shown : (at : ℕ → Option (K × V)) (k : K) (es : List (K × ℕ)) → EachHasCell at es → IsBelow cmp k es → IsBelow cmp k (pairs_in_cells at es)
  below_shown at k [] c b = tt
  below_shown at k (x ∷ es) c b = rw c.0.1 (b.0, below_shown at k es c.1 b.1)

  pub rising_shown : (at : ℕ → Option (K × V)) (es : List (K × ℕ)) → EachHasCell at es → IsRising cmp es → IsRising cmp (pairs_in_cells at es)
  rising_shown at [] c r = tt
  rising_shown at (x ∷ es) c r = rw c.0.1 (below_shown at x.0 es c.1 r.0, rising_shown at es c.1 r.1)

  -- if the key is not found there is nothing to remove
  pub shown_absent : (at : ℕ → Option (K × V)) (k : K) (es : List (K × ℕ)) → EachHasCell at es → lookup cmp k es ≡ None → remove_entry (is_at (cmp k)) (pairs_in_cells at es) ≡ pairs_in_cells at es
  shown_absent at k [] c e = refl
  shown_absent at k (x ∷ es) c e =
      let rest = shown_absent at k es c.1 in
      rw c.0.1 (elim (is_eq (cmp k x.0)) as (λ b. cond b (Some x.1) (lookup cmp k es) ≡ None → cond b (pairs_in_cells at es) ((x.0, c.0.0) ∷ remove_entry (is_at (cmp k)) (pairs_in_cells at es)) ≡ (x.0, c.0.0) ∷ pairs_in_cells at es) [
        | true ↦ λ h. no_place x.1 (sym h)
        | false ↦ λ h. ap (λ z. (x.0, c.0.0) ∷ z) (rest h)
      ] e)

  -- cells that are alike except for one that no key has
  module _ (at new : ℕ → Option (K × V)) (p : ℕ) (others : (q : ℕ) → q ≢ p → new q ≡ at q) where
    pub still : (es : List (K × ℕ)) → IsNoPlace p es → EachHasCell at es → EachHasCell new es
    still [] n c = tt
    still (x ∷ es) n c = ((c.0.0, others x.1 n.0 ∙ c.0.1), still es n.1 c.1)

    pub shown_still : (es : List (K × ℕ)) → IsNoPlace p es → pairs_in_cells new es ≡ pairs_in_cells at es
    shown_still [] n = refl
    shown_still (x ∷ es) n = rw (others x.1 n.0, shown_still es n.1) refl

    -- the key's cell is a new one
    module _ (same : TellsApart cmp) (k : K) (v : V) (vacant : at p ≡ None) (filled : new p ≡ Some (k, v)) where
      pub cells_put : (es : List (K × ℕ)) → EachHasCell at es → EachHasCell new (insert_entry cmp es k p)
      cells_put [] c = ((v, filled), tt)
      cells_put (x ∷ es) c =
          let rest = cells_put es c.1 in
          let none = no_key at p (x ∷ es) vacant c in
          let tail : EachHasCell new es = still es none.1 c.1 in
          let here : new x.1 ≡ Some (x.0, c.0.0) = others x.1 none.0 ∙ c.0.1 in
          by_cases (cmp k x.0) (λ o. EachHasCell new (match_ordering o ((k, p) ∷ x ∷ es) ((x.0, p) ∷ es) (x ∷ insert_entry cmp es k p)))
          (λ _. ((v, filled), ((c.0.0, here), tail)))
          (λ t. let is = same k x.0 t in ((v, filled ∙ (λ i. Some (is i, v))), tail))
          (λ _. ((c.0.0, here), rest))

      pub shown_put : (es : List (K × ℕ)) → EachHasCell at es → pairs_in_cells new (insert_entry cmp es k p) ≡ put cmp keep_new k v (pairs_in_cells at es)
      shown_put [] c = rw filled refl
      shown_put (x ∷ es) c =
          let rest = shown_put es c.1 in
          let none = no_key at p (x ∷ es) vacant c in
          let tail : pairs_in_cells new es ≡ pairs_in_cells at es = shown_still es none.1 in
          let here : new x.1 ≡ Some (x.0, c.0.0) = others x.1 none.0 ∙ c.0.1 in
          rw c.0.1 (by_cases (cmp k x.0) (λ o. pairs_in_cells new (match_ordering o ((k, p) ∷ x ∷ es) ((x.0, p) ∷ es) (x ∷ insert_entry cmp es k p)) ≡ by_order o ((k, v) ∷ (x.0, c.0.0) ∷ pairs_in_cells at es) ((x.0, v) ∷ pairs_in_cells at es) ((x.0, c.0.0) ∷ put cmp keep_new k v (pairs_in_cells at es)))
          (λ _. rw (filled, here, tail) refl)
          (λ t. let is = same k x.0 t in rw (filled, tail) (λ i. (is i, v) ∷ pairs_in_cells at es))
          (λ _. rw (here, rest) refl))

    -- a key whose cell is emptied
    module _ (k : K) (f : Found at k p) where
      pub less_not : {P : Type 0} (x : K × ℕ) (es : List (K × ℕ)) → IsRising cmp (x ∷ es) → cmp k x.0 ≡ Less → lookup cmp k es ≡ Some p → P
      less_not x es r l h = no_place p (sym (not_below cmp total k es (below_less cmp total k x.0 es l r.0)) ∙ h)

      key_here : (x : K × ℕ) (v : V) → at x.1 ≡ Some (x.0, v) → x.1 ≡ p → x.0 ≡ f.key
      key_here x v c is = ap (λ (z : K × V). z.0) (inside (x.0, v) (f.key, f.value) (sym c ∙ ap at is ∙ f.cell))

      pub greater_not : (x : K × ℕ) (v : V) → at x.1 ≡ Some (x.0, v) → cmp k x.0 ≡ Greater → x.1 ≢ p
      greater_not x v c g is = let no : Greater ≡ Equal = sym g ∙ ap (cmp k) (key_here x v c is) ∙ f.tied in cc

      pub cells_emptied : (es : List (K × ℕ)) → IsRising cmp es → EachHasCell at es → lookup cmp k es ≡ Some p → EachHasCell new (remove_entry (is_at (cmp k)) es)
      cells_emptied [] r c h = no_place p h
      cells_emptied (x ∷ es) r c h =
          let rest = cells_emptied es r.1 c.1 in
          by_cases (cmp k x.0) (λ o. cmp k x.0 ≡ o → cond (is_eq o) (Some x.1) (lookup cmp k es) ≡ Some p → EachHasCell new (cond (is_eq o) es (x ∷ remove_entry (is_at (cmp k)) es)))
          (λ _ l g. less_not x es r l g)
          (λ _ _ g. let is = place_is x.1 p g in still es (no_other at p x.0 c.0.0 es (ap at (sym is) ∙ c.0.1) r.0 c.1) c.1)
          (λ _ l g. ((c.0.0, others x.1 (greater_not x c.0.0 c.0.1 l) ∙ c.0.1), rest g))
          refl h

      pub shown_emptied : (es : List (K × ℕ)) → IsRising cmp es → EachHasCell at es → lookup cmp k es ≡ Some p → pairs_in_cells new (remove_entry (is_at (cmp k)) es) ≡ remove_entry (is_at (cmp k)) (pairs_in_cells at es)
      shown_emptied [] r c h = no_place p h
      shown_emptied (x ∷ es) r c h =
          let rest = shown_emptied es r.1 c.1 in
          rw c.0.1 (by_cases (cmp k x.0) (λ o. cmp k x.0 ≡ o → cond (is_eq o) (Some x.1) (lookup cmp k es) ≡ Some p → pairs_in_cells new (cond (is_eq o) es (x ∷ remove_entry (is_at (cmp k)) es)) ≡ cond (is_eq o) (pairs_in_cells at es) ((x.0, c.0.0) ∷ remove_entry (is_at (cmp k)) (pairs_in_cells at es)))
          (λ _ l g. less_not x es r l g)
          (λ _ _ g. let is = place_is x.1 p g in shown_still es (no_other at p x.0 c.0.0 es (ap at (sym is) ∙ c.0.1) r.0 c.1))
          (λ _ l g. rw (others x.1 (greater_not x c.0.0 c.0.1 l), c.0.1, rest g) refl)
          refl h)

-- What a map in cells has after a call, for its invariant and for what it shows.

-- a pair was put into a cell that was empty, and the index tells it
module _ {K V : Type 0} (cmp : K → K → Ordering) (total : IsTotalOrder cmp) (same : TellsApart cmp)
    (at new : ℕ → Option (K × V)) (p : ℕ) (k : K) (v : V) (es after : List (K × ℕ)) (a : AreInCells cmp at es)
    (u : CellIs at new p (Some (k, v))) (vacant : at p ≡ None) (is : after ≡ insert_entry cmp es k p) where
  pub put_in_cells : IsRising cmp after → AreInCells cmp new after
  put_in_cells r = record {
    rising = r;
    cells = subst (EachHasCell new) (sym is) (cells_put cmp total at new p u.others same k v vacant u.changed es a.cells);
  }

  pub put_shown : pairs_in_cells new after ≡ put cmp keep_new k v (pairs_in_cells at es)
  put_shown = ap (pairs_in_cells new) is ∙ shown_put cmp total at new p u.others same k v vacant u.changed es a.cells

-- a pair was taken out of its cell and of the index
module _ {K V : Type 0} (cmp : K → K → Ordering) (total : IsTotalOrder cmp) (at new : ℕ → Option (K × V)) (p : ℕ) (k : K) (es after : List (K × ℕ)) (a : AreInCells cmp at es) (was : lookup cmp k es ≡ Some p) where
  holds : Found cmp total at k p
  holds = found cmp total at k p es a.cells was

  pub stands : IsSome (at p)
  stands = rw holds.cell refl

  pub value_stands : (e : K × V) → at p ≡ Some e → Some e.1 ≡ lookup cmp k (pairs_in_cells at es)
  value_stands e c = ap (option_map (λ z. z.1)) (sym c) ∙ ap (value_in at) (sym was) ∙ sym (shown_at cmp total at k es a.cells)

  module _ (u : CellIs at new p None) (is : after ≡ remove_entry (is_at (cmp k)) es) where
    pub removed_in_cells : IsRising cmp after → AreInCells cmp new after
    removed_in_cells r = record { rising = r; cells = subst (EachHasCell new) (sym is) (cells_emptied cmp total at new p u.others k holds es a.rising a.cells was) }

    pub removed_shown : pairs_in_cells new after ≡ remove_entry (is_at (cmp k)) (pairs_in_cells at es)
    removed_shown = ap (pairs_in_cells new) is ∙ shown_emptied cmp total at new p u.others k holds es a.rising a.cells was

-- the key stands nowhere
pub nothing_stands : {K V : Type 0} (cmp : K → K → Ordering) (total : IsTotalOrder cmp) (at : ℕ → Option (K × V)) (k : K) (es : List (K × ℕ)) → AreInCells cmp at es → lookup cmp k es ≡ None → None ≡ lookup cmp k (pairs_in_cells at es)
nothing_stands cmp total at k es a none = ap (value_in at) (sym none) ∙ sym (shown_at cmp total at k es a.cells)
