use Rattle.std.proofs.Common.{◌≡◌, length}
use Rattle.std.specs.List.{All, zip}
use Rattle.fm_certificate.specs.Flows.{units_in}
use Rattle.fm_why.specs.Alternatives.{IsExampleFor}
use Rattle.fm_why.proofs.alternative.examples_on.Given as goal

abbrev pub invariant-loop-choice : goal.invariant-loop-choice
invariant-loop-choice l = record {
  each : All (IsExampleFor l.network (units_in l.schedule.flow) l.task) (zip l.machines l.found.items);
  all : length l.found.items ≡ l.choice-index;
}
