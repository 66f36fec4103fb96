use Rattle.std.proofs.Common.{ap}
use Rattle.fm_round.specs.Admission.{admission}
use Rattle.fm_round.specs.Stopping.{stops_of}
use Rattle.fm_round.proofs.laws.law_sets.Goals as goal

pub returns-clause-admitted : goal.returns-clause-admitted
returns-clause-admitted c S T n plan same = ap (λ k. admission k n plan) same

pub returns-clause-stops : goal.returns-clause-stops
returns-clause-stops c S T n same = ap (λ k. stops_of k n) same
