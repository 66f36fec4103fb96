use Rattle.std.proofs.Common.{length, sym, ◌∙◌, ap, subst}
use Rattle.fm_lattice.specs.Maps.{IsMap, lookup, map_join}
use Rattle.fm_lattice.specs.laws.MapLaws.{lookup_join}
use Rattle.fm_lattice.specs.Blocks.{pairs_of}
use Rattle.fm_lattice.proofs.Planned.{planned_pairs, planned_kept}
use Rattle.fm_lattice.proofs.map.JoinMap.join_into.Goals as goal

pub returns-clause-ok : goal.returns-clause-ok
returns-clause-ok g c =
    planned_pairs g.K.Ord.cmp g.met.K.Ord.total g.met.K.Chain.same g.V.Join.join g.V.Join.is_value g.met.V.Join.laws
    c.self.inside.blocks.items c.plan_join.new.blocks.items c.other.inside.blocks.items
    c.carry_out-self-inside.new.blocks.items c.self.inside.len c.other.inside.len c.self.invariant c.other.invariant
    c.in_ok-plan.plan.aside c.in_ok-plan.plan.whole.items c.in_ok-plan.plan.changes.items c.in_ok-plan.ensures.pairs
    (rw c.deref.ensures.value at c.in_ok-plan.ensures.outcome) c.carry_out-self-inside.ensures.pairs
    ∙ ap (λ z. map_join g.K.Ord.cmp g.V.Join.join z (pairs_of c.other.inside.blocks.items)) c.self.view_is
    ∙ ap (map_join g.K.Ord.cmp g.V.Join.join c.args.self.now) c.other.view_is

pub returns-clause-by_key : goal.returns-clause-by_key
returns-clause-by_key g c k =
    let left = subst (IsMap g.K.Ord.cmp g.V.Join.is_value) c.self.view_is c.self.invariant.map in
    ap (lookup g.K.Ord.cmp k) (returns-clause-ok g c) ∙ lookup_join g.K.Ord.cmp g.met.K.Ord.total g.met.K.Chain.same g.V.Join.join k c.args.self.now c.args.other.now left.rising c.known.ensures.rising

pub invariant_of-self-2 : goal.invariant_of-self-2
invariant_of-self-2 g c =
    planned_kept g.K.Ord.cmp g.met.K.Ord.total g.met.K.Chain.same g.V.Join.join g.V.Join.is_value g.met.V.Join.laws
    c.self.inside.blocks.items c.plan_join.new.blocks.items c.other.inside.blocks.items
    c.carry_out-self-inside.new.blocks.items c.self.inside.len c.other.inside.len c.self.invariant c.other.invariant
    c.in_ok-plan.plan.aside c.in_ok-plan.plan.whole.items c.in_ok-plan.plan.changes.items c.in_ok-plan.ensures.pairs
    (rw c.deref.ensures.value at c.in_ok-plan.ensures.outcome) c.carry_out-self-inside.ensures.pairs
    c.carry_out-self-inside.result c.carry_out-self-inside.ensures.headed c.carry_out-self-inside.ensures.counted

pub carry_out-self-inside-requires-clause-counted : goal.carry_out-self-inside-requires-clause-counted
carry_out-self-inside-requires-clause-counted g c = c.self.invariant.counted ∙ ap length (sym c.in_ok-plan.ensures.pairs)
