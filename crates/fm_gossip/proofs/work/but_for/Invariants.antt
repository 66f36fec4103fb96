use Rattle.std.proofs.Common.{◌≡◌, ◌++◌, drop}
use Rattle.fm_gossip.specs.Members.{but_for}
use Rattle.fm_gossip.proofs.work.but_for.Given as goal

abbrev pub invariant-loop-other : goal.invariant-loop-other
invariant-loop-other l = l.others.items ++ but_for l.number (drop l.other-index l.numbers) ≡ but_for l.number l.numbers
