-- One more task in the list of a machine.
use Rattle.std.proofs.Common.{◌≡◌, ℕ, true, false, cond, List, [], ◌∷◌, ◌++◌, Option, Some, None, option_map, refl, sym, ◌∙◌, ap, subst, append-nil, inl, inr}
use Rattle.std.specs.Prelude.{◌==◌, option_to_list, unwrap_or}
use Rattle.std.specs.BTreeMap.{is_at}
use Rattle.std.specs.Cmp.{Equal-is, nat_cmp_total}
use Rattle.std.specs.Ordering.{nat_cmp, is_eq}
use Rattle.std.proofs.lemmas.Bool.{cases_eq, eq-eqb, eqb-true, ne_eqb}
use Rattle.std.proofs.lemmas.Cmp.{tied_itself}
use Rattle.fm_lattice.specs.laws.ChainLaws.{nat_same}
use Rattle.fm_records.specs.Options.{when}
use Rattle.fm_relief.specs.declared.held_task.HeldTask.{HeldTask}

at_is : (key m : ℕ) → is_at (nat_cmp key) m ≡ (key == m)
at_is key m = elim (cases_eq key m) [
  | inl same ↦
      let here : is_at (nat_cmp key) m ≡ true = subst (λ z. is_eq (nat_cmp key z) ≡ true) same (ap is_eq (tied_itself nat_cmp_total key)) in
      here ∙ sym (eq-eqb key m same)
  | inr other ↦
      let apart : is_at (nat_cmp key) m ≡ false = elim (is_eq (nat_cmp key m)) as (λ b. is_eq (nat_cmp key m) ≡ b → b ≡ false) [
        | true ↦ λ e. absurd (other (nat_same key m ((Equal-is (nat_cmp key m)).0 e)))
        | false ↦ λ _. refl
      ] refl in
      apart ∙ sym (ne_eqb key m other)
]

module _ {X : Type 0} (items : X → List HeldTask) where
  abbrev pub list_of : Option X → List HeldTask
  list_of o = unwrap_or (option_map items o) []

  -- what was there, or nothing
  pub items_or : (o : Option X) (d : X) → items d ≡ [] → items (unwrap_or o d) ≡ list_of o
  items_or None d none = none
  items_or (Some x) d none = refl

  -- the list of the key is taken away, and put back with one more
  pub put_back : (key : ℕ) (task : HeldTask) (x : X) (old kept new : ℕ → Option X)
      → ((q : ℕ) → kept q ≡ cond (is_at (nat_cmp key) q) None (old q))
      → ((q : ℕ) → new q ≡ cond (is_at (nat_cmp key) q) (Some x) (kept q))
      → items x ≡ list_of (old key) ++ task ∷ []
      → (m : ℕ) → list_of (new m) ≡ list_of (old m) ++ option_to_list (when (key == m) task)
  put_back key task x old kept new takes puts is m =
      ap list_of (puts m ∙ ap (λ b. cond b (Some x) (kept m)) (at_is key m))
      ∙ elim (key == m) as (λ b. (key == m) ≡ b → list_of (cond b (Some x) (kept m)) ≡ list_of (old m) ++ option_to_list (when b task)) [
        | true ↦ λ e. is ∙ ap (λ z. list_of (old z) ++ task ∷ []) (eqb-true key m e)
        | false ↦ λ e. ap list_of (takes m ∙ ap (λ b. cond b None (old m)) (at_is key m ∙ e)) ∙ sym (append-nil (list_of (old m)))
      ] refl
