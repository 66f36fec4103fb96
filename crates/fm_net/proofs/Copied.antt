-- Cells and an index that are cloned, if a clone is what was cloned.
use Rattle.std.proofs.Common.{◌≡◌, ℕ, List, Option, Some, None, is_some, length, slice_index_or, sym, ap, ◌∙◌, subst}
use Rattle.std.specs.Prelude.{count_by}
use Rattle.std.specs.List.{AllZip}
use Rattle.std.specs.declared.cmp.Ordering.{Ordering}
use Rattle.std.proofs.lemmas.List.Elements.{same_from_all_zip}
use Rattle.slab.specs.Slab.{Slab, get, IsSlotClone, IsSlabClone}
use Rattle.fm_net.specs.Cells.{pairs_in_cells}
use Rattle.fm_net.specs.inner.IndexedCells.{AreInCells, AreKept, IsPlainClone}

module _ {T : Type 0} (R : T → T → Type 0) (plain : IsPlainClone R) where
  slot_same : (x y : Option T) → IsSlotClone R x y → y ≡ x
  slot_same None y h = h
  slot_same (Some x) None h = absurd h
  slot_same (Some x) (Some y) h = ap Some (plain x y h)

  pub slots_same : (s copy : Slab T) → IsSlabClone R s copy → copy.slots ≡ s.slots
  slots_same s copy c = same_from_all_zip (IsSlotClone R) s.slots copy.slots c.slots slot_same

module _ {K X : Type 0} (C : K → K → Type 0) (D : X → X → Type 0) (keys : IsPlainClone C) (values : IsPlainClone D) where
  pub both_plain : IsPlainClone (λ (p q : K × X). C p.0 q.0 × D p.1 q.1)
  both_plain p q h = let key = keys p.0 q.0 h.0 in let value = values p.1 q.1 h.1 in λ i. (key i, value i)

  pub entries_same : (es fs : List (K × X)) → AllZip (λ p q. C p.0 q.0 × D p.1 q.1) es fs → fs ≡ es
  entries_same es fs h = same_from_all_zip (λ p q. C p.0 q.0 × D p.1 q.1) es fs h both_plain

module _ {K V : Type 0} (cmp : K → K → Ordering) (cells copy : Slab (K × V)) (es fs : List (K × ℕ)) (slots : copy.slots ≡ cells.slots) (is : fs ≡ es) where
  pub kept_same : AreKept cmp cells es → AreKept cmp copy fs
  kept_same a = record {
    indexed = subst (λ (z : List (Option (K × V)) × List (K × ℕ)). AreInCells cmp (λ key. slice_index_or z.0 key None) z.1) (λ i. (sym slots i, sym is i)) a.indexed;
    no_more = ap (count_by is_some) slots ∙ a.no_more ∙ sym (ap length is);
  }

  pub shown_same : pairs_in_cells (get copy) fs ≡ pairs_in_cells (get cells) es
  shown_same = λ i. pairs_in_cells (λ key. slice_index_or (slots i) key None) (is i)
