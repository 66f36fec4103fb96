use Rattle.std.proofs.Common.{rules, ◌<◌, length, true, arith}
use Rattle.fm_world.specs.inner.Sweeps.{IsOneTaken}
use Rattle.fm_world.proofs.Growing.{one_further}
use Rattle.fm_world.proofs.linearization.Linearization.take_first.Goals as goal

pub loop-taken-preserved : goal.loop-taken-preserved
loop-taken-preserved c =
    let e = c.index-entries-taken.result in
    let lt : c.loop-taken.taken < length c.args.entries.now = omega arith in
    let one : IsOneTaken (record { at = c.args.at; entry = e }) true c.loop-taken.self.steps.items c.take.new.self.steps.items c.loop-taken.self.packets c.take.new.self.packets = search rules in
    one_further c.args.at c.args.entries.now c.args.self.now.steps.items c.loop-taken.self.steps.items c.args.self.now.packets c.loop-taken.self.packets c.loop-taken.taken e lt c.index-entries-taken.is c.loop-taken.invariant
    c.take.new.self.steps.items c.take.new.self.packets one
