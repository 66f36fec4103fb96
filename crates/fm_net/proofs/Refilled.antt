-- A pair that is put into the cell that its key has, or into the next one where it has none.
use Rattle.std.proofs.Common.{◌≡◌, ◌+◌, ℕ, if◌then◌else◌, is_some, length, arith, List, [], ◌∷◌, Option, Some, None, cond, option_map, OnSome, IfNone, refl, sym, ap, ◌∙◌, subst}
use Rattle.std.specs.BTreeMap.{insert_entry}
use Rattle.std.specs.Option.{unwrap_or}
use Rattle.std.specs.Ordering.{is_eq, match_ordering}
use Rattle.std.specs.Cmp.{IsTotalOrder}
use Rattle.std.specs.declared.cmp.Ordering.{Ordering}
use Rattle.fm_lattice.specs.Chains.{TellsApart, by_order}
use Rattle.fm_lattice.specs.laws.ChainLaws.{by_cases}
use Rattle.fm_lattice.specs.Maps.{lookup, put, keep_new, IsRising}
use Rattle.fm_net.specs.Cells.{pairs_in_cells}
use Rattle.fm_net.specs.inner.IndexedCells.{EachHasCell, AreInCells}
use Rattle.fm_net.proofs.Shown.{CellIs, Found, found, no_other, still, shown_still, less_not, greater_not, no_place, place_is, no_some, value_in, shown_at, put_in_cells, put_shown}

-- the key's cell is filled again
module _ {K V : Type 0} (cmp : K → K → Ordering) (total : IsTotalOrder cmp) (same : TellsApart cmp) (at new : ℕ → Option (K × V)) (p : ℕ) (k : K) (v : V) (u : CellIs at new p (Some (k, v))) (f : Found cmp total at k p) where
  cells_refilled : (es : List (K × ℕ)) → IsRising cmp es → EachHasCell at es → lookup cmp k es ≡ Some p → EachHasCell new (insert_entry cmp es k p)
  cells_refilled [] r c h = no_place p h
  cells_refilled (x ∷ es) r c h =
      let rest = cells_refilled es r.1 c.1 in
      by_cases (cmp k x.0) (λ o. cmp k x.0 ≡ o → cond (is_eq o) (Some x.1) (lookup cmp k es) ≡ Some p → EachHasCell new (match_ordering o ((k, p) ∷ x ∷ es) ((x.0, p) ∷ es) (x ∷ insert_entry cmp es k p)))
      (λ _ l g. less_not cmp total at new p u.others k f x es r l g)
      (λ _ t g.
      let is = same k x.0 t in
      let here = place_is x.1 p g in
      ((v, u.changed ∙ (λ i. Some (is i, v))), still cmp total at new p u.others es (no_other cmp total at p x.0 c.0.0 es (ap at (sym here) ∙ c.0.1) r.0 c.1) c.1))
      (λ _ l g. ((c.0.0, u.others x.1 (greater_not cmp total at new p u.others k f x c.0.0 c.0.1 l) ∙ c.0.1), rest g))
      refl h

  shown_refilled : (es : List (K × ℕ)) → IsRising cmp es → EachHasCell at es → lookup cmp k es ≡ Some p → pairs_in_cells new (insert_entry cmp es k p) ≡ put cmp keep_new k v (pairs_in_cells at es)
  shown_refilled [] r c h = no_place p h
  shown_refilled (x ∷ es) r c h =
      let rest = shown_refilled es r.1 c.1 in
      rw c.0.1 (by_cases (cmp k x.0) (λ o. cmp k x.0 ≡ o → cond (is_eq o) (Some x.1) (lookup cmp k es) ≡ Some p → pairs_in_cells new
      (match_ordering o ((k, p) ∷ x ∷ es) ((x.0, p) ∷ es) (x ∷ insert_entry cmp es k p)) ≡ by_order o
      ((k, v) ∷ (x.0, c.0.0) ∷ pairs_in_cells at es) ((x.0, v) ∷ pairs_in_cells at es) ((x.0, c.0.0) ∷ put cmp keep_new k v (pairs_in_cells at es)))
      (λ _ l g. less_not cmp total at new p u.others k f x es r l g)
      (λ _ t g.
      let is = same k x.0 t in
      let here = place_is x.1 p g in
      rw (u.changed, shown_still cmp total at new p u.others es (no_other cmp total at p x.0 c.0.0 es (ap at (sym here) ∙ c.0.1) r.0 c.1)) (λ i. (is i, v) ∷ pairs_in_cells at es))
      (λ _ l g. rw (u.others x.1 (greater_not cmp total at new p u.others k f x c.0.0 c.0.1 l), c.0.1, rest g) refl)
      refl h)

-- the pair is put into the cell that the index tells: the one that the key has, or else the next, which is empty
module _ {K V : Type 0} (cmp : K → K → Ordering) (total : IsTotalOrder cmp) (at : ℕ → Option (K × V)) (next p : ℕ) (k : K) (es : List (K × ℕ)) (a : AreInCells cmp at es) (empty : at next ≡ None) (told : p ≡ unwrap_or (lookup cmp k es) next) where
  abbrev Told : Option ℕ → Type 0
  Told o = p ≡ unwrap_or o next

  -- what stood there is what the key had
  pub stood_told : option_map (λ e. e.1) (at p) ≡ lookup cmp k (pairs_in_cells at es)
  stood_told =
      elim (lookup cmp k es) as (λ o. Told o → option_map (λ (e : K × V). e.1) (at p) ≡ value_in at o) [
        | None ↦ λ is. ap (option_map (λ (e : K × V). e.1)) (ap at is ∙ empty)
        | Some q ↦ λ is. ap (λ z. option_map (λ (e : K × V). e.1) (at z)) is
      ] told ∙ sym (shown_at cmp total at k es a.cells)

  -- if nothing stood it is the next
  next_told : at p ≡ None → p ≡ next
  next_told e =
      elim (lookup cmp k es) as (λ o. lookup cmp k es ≡ o → Told o → p ≡ next) [
        | None ↦ λ _ is. is
        | Some q ↦ λ was is. let f = found cmp total at k q es a.cells was in no_some (f.key, f.value) (sym f.cell ∙ ap at (sym is) ∙ e)
      ] refl told

  -- a slab fills that very cell: it has just been emptied, or was the next to be filled
  pub fills_told : (former : Option (K × V)) (key : ℕ) → former ≡ at p → OnSome former (key ≡ p) → IfNone former (key ≡ next) → key ≡ p
  fills_told None key is emptied unchanged = unchanged ∙ sym (next_told (sym is))
  fills_told (Some e) key is emptied unchanged = emptied

  has_told : is_some (lookup cmp k es) ≡ is_some (at p)
  has_told =
      elim (lookup cmp k es) as (λ o. lookup cmp k es ≡ o → Told o → is_some o ≡ is_some (at p)) [
        | None ↦ λ _ is. sym (ap is_some (ap at is ∙ empty))
        | Some q ↦ λ was is. sym (ap is_some (ap at is ∙ (found cmp total at k q es a.cells was).cell))
      ] refl told

  -- so the slab has one more exactly if the index has
  pub no_more_told : (former : Option (K × V)) (was mid now many : ℕ) → former ≡ at p → OnSome former (mid + 1 ≡ was) → IfNone former (mid ≡ was) → now ≡ mid + 1 → was ≡ length es → many ≡ length es + (if is_some (lookup cmp k es) then 0 else 1) → now ≡ many
  no_more_told None was mid now many is emptied unchanged fills before after = let left = rw (has_told, ← is) at after in omega (arith, unchanged, fills, before, left)
  no_more_told (Some e) was mid now many is emptied unchanged fills before after = let left = rw (has_told, ← is) at after in omega (arith, emptied, fills, before, left)

  module _ (same : TellsApart cmp) (new : ℕ → Option (K × V)) (v : V) (after : List (K × ℕ)) (u : CellIs at new p (Some (k, v))) (is : after ≡ insert_entry cmp es k p) where
    pub cells_told : IsRising cmp after → AreInCells cmp new after
    cells_told r =
        elim (lookup cmp k es) as (λ o. lookup cmp k es ≡ o → Told o → AreInCells cmp new after) [
          | None ↦ λ _ to. put_in_cells cmp total same at new p k v es after a u (ap at to ∙ empty) is r
          | Some q ↦ λ was to.
              let here : lookup cmp k es ≡ Some p = was ∙ ap Some (sym to) in
              record {
                rising = r;
                cells = subst (EachHasCell new) (sym is) (cells_refilled cmp total same at new p k v u (found cmp total at k p es a.cells here) es a.rising a.cells here);
              }
        ] refl told

    pub shown_told : pairs_in_cells new after ≡ put cmp keep_new k v (pairs_in_cells at es)
    shown_told =
        elim (lookup cmp k es) as (λ o. lookup cmp k es ≡ o → Told o → pairs_in_cells new after ≡ put cmp keep_new k v (pairs_in_cells at es)) [
          | None ↦ λ _ to. put_shown cmp total same at new p k v es after a u (ap at to ∙ empty) is
          | Some q ↦ λ was to.
              let here : lookup cmp k es ≡ Some p = was ∙ ap Some (sym to) in
              ap (pairs_in_cells new) is ∙ shown_refilled cmp total same at new p k v u (found cmp total at k p es a.cells here) es a.rising a.cells here
        ] refl told

-- a cell that was emptied and is filled
pub filled_again : {K V : Type 0} (at mid new : ℕ → Option (K × V)) (p key : ℕ) (o : Option (K × V)) → key ≡ p → CellIs at mid p None → CellIs mid new key o → CellIs at new p o
filled_again at mid new p key o is gone u = record {
  changed = ap new (sym is) ∙ u.changed;
  others = λ q e. u.others q (λ same. e (same ∙ is)) ∙ gone.others q e;
}
