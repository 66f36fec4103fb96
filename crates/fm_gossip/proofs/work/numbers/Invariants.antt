use Rattle.std.proofs.Common.{◌≡◌, ◌++◌, map, drop}
use Rattle.fm_gossip.specs.Members.{member_number}
use Rattle.fm_gossip.proofs.work.numbers.Given as goal

abbrev pub invariant-loop-member : goal.invariant-loop-member
invariant-loop-member g l = l.numbers.items ++ map member_number (drop l.member-index l.members) ≡ map member_number l.members
