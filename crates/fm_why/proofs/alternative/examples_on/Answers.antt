use Rattle.std.proofs.Common.{◌≡◌, ◌∙◌, ap, sym, subst, Some, [], ◌∷◌, length, length-append, List, Option, arith}
use Rattle.std.specs.List.{All, zip}
use Rattle.std.specs.Prelude.{slice_get}
use Rattle.std.proofs.lemmas.Option.{slice_get-get_or}
use Rattle.fm_certificate.specs.Flows.{units_in}
use Rattle.fm_why.specs.declared.reasons.Choice.{Choice}
use Rattle.fm_why.specs.declared.reasons.Alternative.{Alternative}
use Rattle.fm_why.specs.Alternatives.{IsExampleFor}
use Rattle.fm_why.proofs.Shown.{all_none, all_next}
use Rattle.fm_why.proofs.alternative.examples_on.Goals as goal

pub loop-choice-init : goal.loop-choice-init
loop-choice-init c = record {
  each = all_none (IsExampleFor c.args.network.now (units_in c.args.schedule.now.flow) c.args.task) c.args.machines.now c.new-found.result.items c.new-found.ensures.items;
  all = ap length c.new-found.ensures.items;
}

pub loop-choice-preserved : goal.loop-choice-preserved
loop-choice-preserved c =
    let machines = c.args.machines.now in
    let found = c.loop-choice.found.items in
    let choice = c.choice-item.result in
    let at : slice_get machines (length found) ≡ Some choice =
    ap (slice_get machines) c.loop-choice.invariant.all ∙ slice_get-get_or machines c.loop-choice.choice-index choice c.loop-choice-test.true ∙ ap (λ (e : Choice). Some e) (sym c.choice-item.is) in
    let P = IsExampleFor c.args.network.now (units_in c.args.schedule.now.flow) c.args.task in
    record {
      each = subst (λ (all : List (Option Alternative)). All P (zip machines all)) (sym c.in_ok-push.ensures.items) (all_next P machines found choice c.in_ok-example.example at c.loop-choice.invariant.each c.in_ok-example.ensures);
      all = omega (arith, ap length c.in_ok-push.ensures.items, length-append found (c.in_ok-example.example ∷ []), c.loop-choice.invariant.all);
    }
