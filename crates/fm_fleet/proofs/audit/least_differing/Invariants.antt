use Rattle.fm_fleet.proofs.Logs.{Found}
use Rattle.fm_fleet.proofs.audit.least_differing.Given as goal

abbrev pub invariant-loop-log : goal.invariant-loop-log
invariant-loop-log l = Found l.made l.logs l.log-index l.least
