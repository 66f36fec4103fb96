use Rattle.std.proofs.Common.{◌≡◌, subst}
use Rattle.fm_lattice.specs.Maps.{IsMap, map_join}
use Rattle.fm_lattice.specs.laws.MapLaws.{is_map_join, lookup_join}
use Rattle.fm_lattice.specs.Blocks.{pairs_of}
use Rattle.fm_lattice.proofs.map.JoinMapJoin.joined.Goals as goal

pub invariant_of-result : goal.invariant_of-result
invariant_of-result g c =
    let joined = is_map_join g.K.Ord.cmp g.met.K.Ord.total g.met.K.Chain.same g.V.Join.join g.V.Join.is_value g.met.V.Join.laws _ _ c.self.invariant.map c.other.invariant.map in
    let pairs : pairs_of c.in_ok-blocks.blocks.items ≡ map_join g.K.Ord.cmp g.V.Join.join (pairs_of c.self.inside.blocks.items) (pairs_of c.other.inside.blocks.items) = rw (c.deref.ensures.value, c.deref-2.ensures.value) at c.in_ok-blocks.ensures.pairs in
    record {
      map = rw pairs joined;
      headed = c.in_ok-blocks.ensures.headed;
      counted = rw c.deref-3.ensures.value at c.in_ok-len.ensures;
    }

pub returns-clause-by_key : goal.returns-clause-by_key
returns-clause-by_key g c k =
    let left = subst (IsMap g.K.Ord.cmp g.V.Join.is_value) c.self.view_is c.self.invariant.map in
    let right = subst (IsMap g.K.Ord.cmp g.V.Join.is_value) c.other.view_is c.other.invariant.map in
    rw (c.in_ok-blocks.ensures.pairs, c.deref.ensures.value, c.deref-2.ensures.value, c.self.view_is, c.other.view_is) (lookup_join g.K.Ord.cmp g.met.K.Ord.total g.met.K.Chain.same g.V.Join.join k c.args.self.now c.args.other.now left.rising right.rising)
