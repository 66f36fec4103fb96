use Rattle.std.proofs.Common.{◌<◌, length, map, sym, ap, ◌∙◌, subst, arith}
use Rattle.fm_coord.specs.Numbers.{AreDistinct}
use Rattle.fm_world.specs.Worlds.{opening_world}
use Rattle.fm_world.specs.Represents.{number_of, opening_of, AreUnused, WorldRepresents}
use Rattle.fm_script.proofs.Opening.{limited, numbers_more, openings_more, unused_more, all_taken}
use Rattle.fm_script.proofs.initial_world.open.Goals as goal

pub loop-number-init : goal.loop-number-init
loop-number-init c =
    let none = c.in_ok-coordinators.ensures.items in
    record {
      numbers = ap (map number_of) none;
      openings = ap (map opening_of) none;
      unused = subst AreUnused (sym none) tt;
    }

pub loop-number-preserved : goal.loop-number-preserved
loop-number-preserved c =
    let i = c.loop-number.number-index in
    let listed = c.args.listed.now in
    let n = c.number-item.result in
    let lt : i < length listed = omega arith in
    let grown = c.in_ok-push.ensures.items in
    let new = c.in_ok-coordinator.ensures in
    let before = c.loop-number.invariant in
    record {
      numbers = numbers_more _ _ _ listed i n lt c.number-item.is grown new before.numbers;
      openings = openings_more _ _ _ listed i n lt c.number-item.is grown new before.openings;
      unused = unused_more _ _ _ listed i n lt c.number-item.is grown new before.unused;
    }

pub new-requires-clause-distinct : goal.new-requires-clause-distinct
new-requires-clause-distinct c = subst AreDistinct (sym (c.loop-number.invariant.numbers ∙ all_taken c.args.listed.now c.loop-number.number-index c.loop-number-test.false)) c.requires

pub new-requires-clause-unused : goal.new-requires-clause-unused
new-requires-clause-unused c = c.loop-number.invariant.unused

pub returns : goal.returns
returns c =
    subst (λ cs. WorldRepresents c.new.result (opening_world cs))
    (c.loop-number.invariant.openings ∙ ap (map limited) (all_taken c.args.listed.now c.loop-number.number-index c.loop-number-test.false)) c.new.ensures.stands
