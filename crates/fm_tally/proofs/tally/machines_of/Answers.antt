use Rattle.std.proofs.Common.{◌≡◌, ◌∙◌, ◌++◌, ◌∷◌, [], ℕ, Option, Some, None, refl, sym, ap, subst, append_assoc, option_map, rules}
use Rattle.std.specs.List.{cons_option}
use Rattle.std.specs.Ordering.{nat_cmp}
use Rattle.fm_lattice.specs.Maps.{lookup, IsRising}
use Rattle.fm_records.specs.Options.{or_else}
use Rattle.fm_records.specs.Table.{MachineValue}
use Rattle.fm_tally.specs.declared.holdings.Holding.{Holding}
use Rattle.fm_tally.specs.declared.tally.OpenMachine.{OpenMachine}
use Rattle.fm_tally.specs.inner.Holdings.{holding_nothing}
use Rattle.fm_tally.specs.Tallies.{open_machine_at}
use Rattle.fm_tally.specs.inner.TallyParts.{all_machines}
use Rattle.fm_tally.proofs.Live.{machine_is}
use Rattle.fm_tally.proofs.Rows.{rows, rising_rows, lookup_met}
use Rattle.fm_tally.proofs.tally.machines_of.Goals as goal

numbers : (f : Holding → ℕ) (o : Option Holding) → f holding_nothing ≡ 0 → f (or_else holding_nothing o) ≡ or_else 0 (option_map f o)
numbers f None none = none
numbers f (Some h) none = refl

pub loop-machine-preserved-in-Continue-1 : goal.loop-machine-preserved-in-Continue-1
loop-machine-preserved-in-Continue-1 c =
    let k = c.args.knowledge.now in
    let met : ℕ × MachineValue = (c.in-Some.machine.now, c.in-Some.known.now) in
    let walked = c.loop-machine.invariant.walked in
    let found = c.loop-machine.found.items in
    let rest = rows (open_machine_at k) c.next.new.self in
    let whole = c.loop-machine.invariant.whole ∙ ap (λ es. walked ++ es) c.in-Some.ensures.steps in
    let rises = subst (IsRising nat_cmp) (c.machines.ensures ∙ whole) c.iter-machine-items.ensures.map.rising in
    let known = subst (λ es. lookup nat_cmp met.0 es ≡ Some met.1) (sym whole) (lookup_met walked c.next.new.self met rises) in
    let same = c.of_machine-holding.ensures in
    let requests = ap (λ (h : Holding). h.requests) same ∙ numbers (λ h. h.requests) (lookup nat_cmp met.0 c.args.holdings.now.by_machine) refl in
    let tasks = ap (λ (h : Holding). h.tasks) same ∙ numbers (λ h. h.tasks) (lookup nat_cmp met.0 c.args.holdings.now.by_machine) refl in
    let opened = machine_is k c.args.holdings.now c.requires met.0 met.1 c.of_machine-holding.result.requests c.of_machine-holding.result.tasks requests tasks known in
    record {
      found =
          ap (λ xs. xs ++ rest) c.in_ok-push.ensures.items
          ∙ append_assoc found ((met.0, c.in-Some-open_machine.open) ∷ []) rest
          ∙ ap (λ o. found ++ cons_option (option_map (λ (w : OpenMachine). (met.0, w)) o) rest) (sym c.in-Some-open_machine.is ∙ c.open_machine.ensures ∙ opened)
          ∙ ap (λ es. found ++ rows (open_machine_at k) es) (sym c.in-Some.ensures.steps)
          ∙ c.loop-machine.invariant.found;
      walked = walked ++ met ∷ [];
      whole = whole ∙ sym (append_assoc walked (met ∷ []) c.next.new.self);
    }

pub loop-machine-preserved : goal.loop-machine-preserved
loop-machine-preserved c =
    let k = c.args.knowledge.now in
    let met : ℕ × MachineValue = (c.in-Some.machine.now, c.in-Some.known.now) in
    let walked = c.loop-machine.invariant.walked in
    let found = c.loop-machine.found.items in
    let rest = rows (open_machine_at k) c.next.new.self in
    let whole = c.loop-machine.invariant.whole ∙ ap (λ es. walked ++ es) c.in-Some.ensures.steps in
    let rises = subst (IsRising nat_cmp) (c.machines.ensures ∙ whole) c.iter-machine-items.ensures.map.rising in
    let known = subst (λ es. lookup nat_cmp met.0 es ≡ Some met.1) (sym whole) (lookup_met walked c.next.new.self met rises) in
    let same = c.of_machine-holding.ensures in
    let requests = ap (λ (h : Holding). h.requests) same ∙ numbers (λ h. h.requests) (lookup nat_cmp met.0 c.args.holdings.now.by_machine) refl in
    let tasks = ap (λ (h : Holding). h.tasks) same ∙ numbers (λ h. h.tasks) (lookup nat_cmp met.0 c.args.holdings.now.by_machine) refl in
    let opened = machine_is k c.args.holdings.now c.requires met.0 met.1 c.of_machine-holding.result.requests c.of_machine-holding.result.tasks requests tasks known in
    record {
      found =
          ap (λ o. found ++ cons_option (option_map (λ (w : OpenMachine). (met.0, w)) o) rest) (sym c.in_default.is ∙ c.open_machine.ensures ∙ opened)
          ∙ ap (λ es. found ++ rows (open_machine_at k) es) (sym c.in-Some.ensures.steps)
          ∙ c.loop-machine.invariant.found;
      walked = walked ++ met ∷ [];
      whole = whole ∙ sym (append_assoc walked (met ∷ []) c.next.new.self);
    }

pub of-requires : goal.of-requires
of-requires c =
    let k = c.args.knowledge.now in
    let all : c.loop-machine.found.items ≡ all_machines k = search (rules, c.loop-machine.invariant.found) in
    subst (IsRising nat_cmp) (sym all) (rising_rows (open_machine_at k) k.machines (subst (IsRising nat_cmp) c.machines.ensures c.iter-machine-items.ensures.map.rising))
