use Rattle.std.proofs.Common.{◌≡◌, ◌++◌, ap, sym, subst, ℕ, List, map}
use Rattle.std.specs.List.{All}
use Rattle.std.specs.Prelude.{filter, is_some}
use Rattle.std.specs.Map.{keys_of}
use Rattle.std.proofs.lemmas.List.Elements.{All-push}
use Rattle.fm_records.specs.Table.{MachineValue}
use Rattle.fm_why.specs.declared.reasons.Choice.{Choice}
use Rattle.fm_why.specs.inner.MachineWays.{has_way, machine_ways}
use Rattle.fm_why.specs.inner.Schedule.{IsBounded}
use Rattle.fm_why.proofs.Shown.{next_kept}
use Rattle.fm_why.proofs.options.listed.Goals as goal

pub loop-machine-preserved-in-Continue-1 : goal.loop-machine-preserved-in-Continue-1
loop-machine-preserved-in-Continue-1 c =
    let net = c.args.network.now in
    let choice = c.in-Some-choice_of.choice in
    let found = c.loop-machine.found.items in
    let ways = machine_ways c.args.knowledge.now net c.args.task c.args.request in
    let p = has_way net c.args.task c.args.request in
    let left = λ (es : List (ℕ × MachineValue)). map (λ (e : Choice). e.machine) found ++ filter p (keys_of es) ≡ ways in
    let all = next_kept p found choice c.in-Some.machine.now (keys_of c.next.new.self) ways c.in-Some-choice_of.ensures.machine
    (ap is_some (sym c.in-Some-choice_of.ensures.way)) (subst left c.in-Some.ensures.steps c.loop-machine.invariant.all) in
    let bounded = All-push (IsBounded net c.args.schedule.now c.args.task c.args.request) found choice c.loop-machine.invariant.each c.in-Some-choice_of.ensures.bounded in
    record {
      each = subst (All (IsBounded net c.args.schedule.now c.args.task c.args.request)) (sym c.in_ok-push.ensures.items) bounded;
      all = subst (λ (es : List Choice). map (λ (e : Choice). e.machine) es ++ filter p (keys_of c.next.new.self) ≡ ways) (sym c.in_ok-push.ensures.items) all;
    }
