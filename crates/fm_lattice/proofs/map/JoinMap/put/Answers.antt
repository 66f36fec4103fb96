use Rattle.std.proofs.Common.{◌≡◌, [], ◌∷◌, ◌+◌, refl, sym, ◌∙◌, ap, subst, arith, length, append-nil, length-append}
use Rattle.fm_lattice.specs.Maps.{IsMap, lookup, put, keep_new}
use Rattle.fm_lattice.specs.inner.JoinedPairs.{joined_onto}
use Rattle.fm_lattice.specs.laws.MapLaws.{is_map_put, lookup_put, overwritten}
use Rattle.fm_lattice.specs.Blocks.{pairs_of}
use Rattle.fm_lattice.proofs.InBlocks.{put_back}
use Rattle.fm_lattice.proofs.map.JoinMap.put.Goals as goal

pub returns-then-comes_last-clause-ok : goal.returns-then-comes_last-clause-ok
returns-then-comes_last-clause-ok g c =
    let before = pairs_of c.self.inside.blocks.items in
    let above = (rw c.deref.ensures.value at c.if-comes_last.ensures.above) refl in
    let behind = put_back g.K.Ord.cmp g.met.K.Ord.total g.met.K.Chain.same g.V.Join.join c.args.key c.args.value before [] above in
    c.in_ok-append.ensures.pairs ∙ sym behind ∙ ap (put g.K.Ord.cmp g.V.Join.join c.args.key c.args.value) (append-nil before ∙ c.self.view_is)

pub invariant_of-self-then-comes_last : goal.invariant_of-self-then-comes_last
invariant_of-self-then-comes_last g c =
    let map = subst (IsMap g.K.Ord.cmp g.V.Join.is_value) c.self.view_is c.self.invariant.map in
    let count : length (pairs_of c.append.new.blocks.items) ≡ length (pairs_of c.self.inside.blocks.items) + 1 = ap length c.in_ok-append.ensures.pairs ∙ length-append (pairs_of c.self.inside.blocks.items) ((c.args.key, c.args.value) ∷ []) in
    record {
      map = subst (IsMap g.K.Ord.cmp g.V.Join.is_value) (sym (returns-then-comes_last-clause-ok g c)) (is_map_put g.K.Ord.cmp g.met.K.Ord.total g.met.K.Chain.same g.V.Join.join g.V.Join.is_value g.met.V.Join.laws c.args.key c.args.value c.args.self.now c.known.ensures map);
      headed = c.in_ok-append.ensures.headed;
      counted = omega (arith, count, c.self.invariant.counted);
    }

pub returns-then-comes_last-clause-by_key : goal.returns-then-comes_last-clause-by_key
returns-then-comes_last-clause-by_key g c k =
    let map = subst (IsMap g.K.Ord.cmp g.V.Join.is_value) c.self.view_is c.self.invariant.map in
    ap (lookup g.K.Ord.cmp k) (returns-then-comes_last-clause-ok g c) ∙ lookup_put g.K.Ord.cmp g.met.K.Ord.total g.met.K.Chain.same g.V.Join.join k c.args.key c.args.value c.args.self.now map.rising

pub returns-clause-ok : goal.returns-clause-ok
returns-clause-ok g c =
    let before = pairs_of c.self.inside.blocks.items in
    let joined : c.in_ok-joined.joined ≡ joined_onto g.V.Join.join (lookup g.K.Ord.cmp c.args.key before) c.args.value = rw c.deref-2.ensures.value at c.in_ok-joined.ensures in
    c.write.ensures.pairs
    ∙ ap (put g.K.Ord.cmp keep_new c.args.key c.in_ok-joined.joined) c.in_ok-at.ensures.pairs
    ∙ ap (λ v. put g.K.Ord.cmp keep_new c.args.key v before) joined
    ∙ overwritten g.K.Ord.cmp g.met.K.Ord.total g.met.K.Chain.same g.V.Join.join before ((c.args.key, c.args.value) ∷ []) c.self.invariant.map.rising (tt, tt)
    ∙ ap (put g.K.Ord.cmp g.V.Join.join c.args.key c.args.value) c.self.view_is

pub invariant_of-self-2 : goal.invariant_of-self-2
invariant_of-self-2 g c =
    let map = subst (IsMap g.K.Ord.cmp g.V.Join.is_value) c.self.view_is c.self.invariant.map in
    let same : length (pairs_of c.make_room.new.blocks.items) ≡ length (pairs_of c.self.inside.blocks.items) = ap length c.in_ok-at.ensures.pairs in
    record {
      map = subst (IsMap g.K.Ord.cmp g.V.Join.is_value) (sym (returns-clause-ok g c)) (is_map_put g.K.Ord.cmp g.met.K.Ord.total g.met.K.Chain.same g.V.Join.join g.V.Join.is_value g.met.V.Join.laws c.args.key c.args.value c.args.self.now c.known.ensures map);
      headed = c.write.ensures.headed;
      counted = omega (arith, same, c.write.ensures.counted, c.self.invariant.counted);
    }

pub returns-clause-by_key : goal.returns-clause-by_key
returns-clause-by_key g c k =
    let map = subst (IsMap g.K.Ord.cmp g.V.Join.is_value) c.self.view_is c.self.invariant.map in
    ap (lookup g.K.Ord.cmp k) (returns-clause-ok g c) ∙ lookup_put g.K.Ord.cmp g.met.K.Ord.total g.met.K.Chain.same g.V.Join.join k c.args.key c.args.value c.args.self.now map.rising
