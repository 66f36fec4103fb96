use Rattle.std.proofs.Common.{◌≡◌, ◌++◌, drop}
use Rattle.fm_serve.specs.Musters.{members_of}
use Rattle.fm_serve.proofs.members.members.Given as goal

abbrev pub invariant-loop-number : goal.invariant-loop-number
invariant-loop-number l = l.members.items ++ members_of (drop l.number-index l.listed) l.tells ≡ members_of l.listed l.tells
