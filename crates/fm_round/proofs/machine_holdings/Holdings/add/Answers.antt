use Rattle.std.specs.Ordering.{nat_cmp}
use Rattle.std.specs.BTreeMap.{get}
use Rattle.fm_round.proofs.Counting.{same_counted}
use Rattle.fm_round.proofs.machine_holdings.Holdings.add.Goals as goal

pub returns-clause-counted : goal.returns-clause-counted
returns-clause-counted c = same_counted c.args.machine _ (get nat_cmp c.args.self.now.by_machine) (get nat_cmp c.insert.new.self) c.in_ok-insert.ensures.updates.0 c.requires.counted
