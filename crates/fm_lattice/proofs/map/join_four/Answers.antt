use Rattle.fm_lattice.proofs.Planned.{planned_kept}
use Rattle.fm_lattice.proofs.map.join_four.Goals as goal

pub invariant_of-first-2 : goal.invariant_of-first-2
invariant_of-first-2 g c =
    planned_kept g.K1.Ord.cmp g.met.K1.Ord.total g.met.K1.Chain.same g.V1.Join.join g.V1.Join.is_value g.met.V1.Join.laws
    c.first.inside.blocks.items c.plan_join.new.blocks.items c.to_first.inside.blocks.items
    c.carry_out-first-inside.new.blocks.items c.first.inside.len c.to_first.inside.len c.first.invariant
    c.to_first.invariant c.in_ok-plan1.plan1.aside c.in_ok-plan1.plan1.whole.items c.in_ok-plan1.plan1.changes.items
    c.plan_join.ensures.pairs (rw c.deref.ensures.value at (rw c.in_ok-plan1.ensures.first at c.plan_join.ensures.outcome))
    c.carry_out-first-inside.ensures.pairs c.carry_out-first-inside.result c.carry_out-first-inside.ensures.headed
    c.carry_out-first-inside.ensures.counted

pub invariant_of-second-2 : goal.invariant_of-second-2
invariant_of-second-2 g c =
    planned_kept g.K2.Ord.cmp g.met.K2.Ord.total g.met.K2.Chain.same g.V2.Join.join g.V2.Join.is_value g.met.V2.Join.laws
    c.second.inside.blocks.items c.plan_join-2.new.blocks.items c.to_second.inside.blocks.items
    c.carry_out-second-inside.new.blocks.items c.second.inside.len c.to_second.inside.len c.second.invariant
    c.to_second.invariant c.in_ok-plan1.plan2.aside c.in_ok-plan1.plan2.whole.items c.in_ok-plan1.plan2.changes.items
    c.plan_join-2.ensures.pairs (rw c.deref-2.ensures.value at (rw c.in_ok-plan1.ensures.second at c.plan_join-2.ensures.outcome))
    c.carry_out-second-inside.ensures.pairs c.carry_out-second-inside.result c.carry_out-second-inside.ensures.headed
    c.carry_out-second-inside.ensures.counted

pub invariant_of-third-2 : goal.invariant_of-third-2
invariant_of-third-2 g c =
    planned_kept g.K3.Ord.cmp g.met.K3.Ord.total g.met.K3.Chain.same g.V3.Join.join g.V3.Join.is_value g.met.V3.Join.laws
    c.third.inside.blocks.items c.plan_join-3.new.blocks.items c.to_third.inside.blocks.items
    c.carry_out-third-inside.new.blocks.items c.third.inside.len c.to_third.inside.len c.third.invariant
    c.to_third.invariant c.in_ok-plan1.plan3.aside c.in_ok-plan1.plan3.whole.items c.in_ok-plan1.plan3.changes.items
    c.plan_join-3.ensures.pairs (rw c.deref-3.ensures.value at (rw c.in_ok-plan1.ensures.third at c.plan_join-3.ensures.outcome))
    c.carry_out-third-inside.ensures.pairs c.carry_out-third-inside.result c.carry_out-third-inside.ensures.headed
    c.carry_out-third-inside.ensures.counted

pub invariant_of-fourth-2 : goal.invariant_of-fourth-2
invariant_of-fourth-2 g c =
    planned_kept g.K4.Ord.cmp g.met.K4.Ord.total g.met.K4.Chain.same g.V4.Join.join g.V4.Join.is_value g.met.V4.Join.laws
    c.fourth.inside.blocks.items c.plan_join-4.new.blocks.items c.to_fourth.inside.blocks.items
    c.carry_out-fourth-inside.new.blocks.items c.fourth.inside.len c.to_fourth.inside.len c.fourth.invariant
    c.to_fourth.invariant c.in_ok-plan1.plan4.aside c.in_ok-plan1.plan4.whole.items c.in_ok-plan1.plan4.changes.items
    c.plan_join-4.ensures.pairs (rw c.deref-4.ensures.value at (rw c.in_ok-plan1.ensures.fourth at c.plan_join-4.ensures.outcome))
    c.carry_out-fourth-inside.ensures.pairs c.carry_out-fourth-inside.result c.carry_out-fourth-inside.ensures.headed
    c.carry_out-fourth-inside.ensures.counted
