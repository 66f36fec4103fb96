use Rattle.std.proofs.Common.{◌≡◌, ◌++◌, drop}
use Rattle.fm_serve.specs.Musters.{told_at}
use Rattle.fm_serve.proofs.members.told_at.Given as goal

abbrev pub invariant-loop-tell : goal.invariant-loop-tell
invariant-loop-tell l = l.told.items ++ told_at l.number (drop l.tell-index l.tells) ≡ told_at l.number l.tells
