-- What a tally tells of what machines hold. A machine that is not open holds nothing.
use Rattle.std.proofs.Common.{◌≡◌, ◌∙◌, ℕ, Bool, true, false, cond, List, [], ◌∷◌, Some, None, option_map, refl, sym, ap, length}
use Rattle.std.specs.Prelude.{filter, count_by, sum_by}
use Rattle.std.specs.Ordering.{nat_cmp}
use Rattle.std.proofs.lemmas.List.Sums.{length-filter}
use Rattle.fm_lattice.specs.Maps.{lookup}
use Rattle.fm_records.specs.declared.records.MachineReg.{MachineReg}
use Rattle.fm_records.specs.Table.{Table, TaskValue}
use Rattle.fm_records.specs.Facts.{request_of, open_state, holds, held_tasks, load_of, spare_of}
use Rattle.fm_net.proofs.NetworkLaws.{held_ends, mapped_from, passes_some}
use Rattle.fm_tally.specs.declared.tally.OpenMachine.{OpenMachine}
use Rattle.fm_tally.specs.declared.tally.Tally.{Tally}
use Rattle.fm_tally.specs.Tallies.{TallyIsFor}
use Rattle.fm_round.specs.inner.MachineHoldings.{requests_of}

some_none : {A P : Type 0} (a : A) → Some a ≡ None → P
some_none a e = absurd (let no : ⊥ = cc in no)

abbrev open_with : Table → ℕ → MachineReg → OpenMachine
open_with k m state = record { slots = state.slots; load = load_of k m; spare = spare_of k m; held = count_by (λ e. holds k m e.0) k.tasks; requests = sum_by (λ e. request_of e.1.0) (held_tasks k m) }

none_kept : (p : ℕ × TaskValue → Bool) (es : List (ℕ × TaskValue)) → ((e : ℕ × TaskValue) → p e ≡ false) → filter p es ≡ []
none_kept p [] none = refl
none_kept p (e ∷ es) none = ap (λ b. cond b (e ∷ filter p es) (filter p es)) (none e) ∙ none_kept p es none

module _ (k : Table) (tally : Tally) (is_for : TallyIsFor k tally) (m : ℕ) where
  -- an open machine

  from_open : (o : OpenMachine) → lookup nat_cmp m tally.machines ≡ Some o → (o.requests ≡ requests_of k m) × (o.held ≡ length (held_tasks k m))
  from_open o found =
      let told = mapped_from _ (open_state k m) o (sym (is_for.machines m) ∙ found) in
      (ap (λ (x : OpenMachine). x.requests) (sym told.2), ap (λ (x : OpenMachine). x.held) (sym told.2) ∙ sym (length-filter (λ (e : ℕ × TaskValue). holds k m e.0) k.tasks))

  pub open_requests : (o : OpenMachine) → lookup nat_cmp m tally.machines ≡ Some o → o.requests ≡ requests_of k m
  open_requests o found = (from_open o found).0

  pub open_tasks : (o : OpenMachine) → lookup nat_cmp m tally.machines ≡ Some o → o.held ≡ length (held_tasks k m)
  open_tasks o found = (from_open o found).1

  -- another one

  module _ (absent : lookup nat_cmp m tally.machines ≡ None) where
    holds_none : (t : ℕ) → holds k m t ≡ false
    holds_none t = elim (holds k m t) as (λ b. holds k m t ≡ b → b ≡ false) [
      | true ↦ λ held.
          let opened = (held_ends k t m held).to in
          let state = passes_some (λ (r : MachineReg). true) (open_state k m) opened in
          let there = ap (option_map (open_with k m)) state.1 in
          some_none (open_with k m state.0) (sym there ∙ sym (is_for.machines m) ∙ absent)
      | false ↦ λ _. refl
    ] refl

    nothing : held_tasks k m ≡ []
    nothing = none_kept (λ e. holds k m e.0) k.tasks (λ e. holds_none e.0)

    pub no_requests : 0 ≡ requests_of k m
    no_requests = sym (ap (sum_by (λ (e : ℕ × TaskValue). request_of e.1.0)) nothing)

    pub no_tasks : 0 ≡ length (held_tasks k m)
    no_tasks = sym (ap length nothing)
