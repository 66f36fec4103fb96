-- Decisions: rounds that are worked out, and then carried out or not.
use Rattle.std.specs.Prelude.{◌≡◌}
use Rattle.fm_records.specs.Know.{table_of}
use Rattle.fm_round.specs.Admission.{admission}
use Rattle.fm_coord.specs.declared.decision.Decision.{Decision}
use Rattle.fm_coord.specs.States.{State}

-- the decision is one of a coordinator in this state: it has what is admitted of its plan by what is known there, and the
-- table of the operations of that
pub record IsDecidedBy (s : State) (d : Decision) : Type 0 where
  pub admitted : d.admitted ≡ admission s.knowledge s.number d.plan
  pub delta : d.delta ≡ table_of d.admitted.ops
