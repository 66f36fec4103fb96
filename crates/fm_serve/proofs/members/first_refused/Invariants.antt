use Rattle.std.proofs.Common.{◌≡◌, ◌+◌, drop}
use Rattle.fm_serve.specs.Musters.{first_refused}
use Rattle.fm_serve.proofs.members.first_refused.Given as goal

abbrev pub invariant-loop-place : goal.invariant-loop-place
invariant-loop-place l = first_refused l.listed 1 l.tells ≡ first_refused l.listed (l.place + 1) (drop l.place l.tells)
