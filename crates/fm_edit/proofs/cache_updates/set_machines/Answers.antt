use Rattle.std.proofs.Common.{ap}
use Rattle.std.proofs.Math.ListN.{drop_of_length-le}
use Rattle.std.specs.Ordering.{nat_cmp}
use Rattle.std.specs.BTreeMap.{get}
use Rattle.fm_edit.specs.inner.CachedValues.{has_value}
use Rattle.fm_edit.proofs.Values.{value_set}
use Rattle.fm_edit.proofs.cache_updates.set_machines.Goals as goal

pub loop-machine-preserved : goal.loop-machine-preserved
loop-machine-preserved c = λ f all others.
    value_set f c.args.values.now c.loop-machine.machine-index c.loop-machine-item.result c.loop-machine-test.true c.loop-machine-item.is
    (get nat_cmp c.loop-machine.machines) (get nat_cmp c.set_machine.new.machines)
    (c.loop-machine.invariant f all others) c.in_ok-set_machine.ensures.seen c.in_ok-set_machine.ensures.others

pub returns : goal.returns
returns c = λ f all others q.
    (c.loop-machine.invariant f all others).1 q (ap (λ vs. has_value vs q) (drop_of_length-le c.args.values.now c.loop-machine-test.false))
