use Rattle.std.proofs.Common.{◌≡◌, ◌++◌, sym, ◌∙◌, ap}
use Rattle.fm_lattice.specs.Maps.{map_join}
use Rattle.fm_lattice.specs.Blocks.{pairs_of}
use Rattle.fm_lattice.proofs.Merges.{rising_drop, step_less, step_equal, step_greater, ended_left, ended_right}
use Rattle.fm_lattice.proofs.merging.merged.Goals as goal
use Rattle.fm_lattice.proofs.merging.merged.Goals.{in_default, in_default-2}

pub both-preserved-in_ok-append-in-Less : goal.both-preserved-in_ok-append-in-Less
both-preserved-in_ok-append-in-Less g c = record {
  headed = c.in_ok-append-in-Less.ensures.headed;
  right_rises = c.both.invariant.right_rises;
  joined =
      let step = step_less g.K.Ord.cmp g.met.K.Ord.total g.met.K.Chain.same g.V.Join.join c.both.lefts c.both.rights
      (pairs_of c.both.done.items) _ c.in-Some-Some.here.now c.in-Some-Some.there.now c.both.invariant.right_rises
      c.in-Some-Some.ensures c.in-Some-Some.ensures' c.both.invariant.joined (sym c.in-Less.ensures) in
      rw (c.in_ok-append-in-Less.ensures.pairs, c.in_ok-copied-in-Less.ensures, c.skip_first.ensures) step;
}

pub both-preserved-in_ok-append-in-Equal : goal.both-preserved-in_ok-append-in-Equal
both-preserved-in_ok-append-in-Equal g c = record {
  headed = c.in_ok-append-in-Equal.ensures.headed;
  right_rises = rw c.skip_first-in-Equal-2.ensures (rising_drop g.K.Ord.cmp g.met.K.Ord.total g.met.K.Chain.same g.V.Join.join 1 c.both.rights c.both.invariant.right_rises);
  joined =
      let step = step_equal g.K.Ord.cmp g.met.K.Ord.total g.met.K.Chain.same g.V.Join.join c.both.lefts c.both.rights
      (pairs_of c.both.done.items) _ c.in-Some-Some.here.now c.in-Some-Some.there.now c.both.invariant.right_rises
      c.in-Some-Some.ensures c.in-Some-Some.ensures' c.both.invariant.joined (sym c.in-Equal.ensures) in
      rw (c.in_ok-append-in-Equal.ensures.pairs, c.in_ok-joined-in-Equal.ensures, c.skip_first-in-Equal.ensures, c.skip_first-in-Equal-2.ensures) step;
}

pub both-preserved : goal.both-preserved
both-preserved g c = record {
  headed = c.in_ok-append-in-Greater.ensures.headed;
  right_rises = rw c.skip_first-in-Greater.ensures (rising_drop g.K.Ord.cmp g.met.K.Ord.total g.met.K.Chain.same g.V.Join.join 1 c.both.rights c.both.invariant.right_rises);
  joined =
      let step = step_greater g.K.Ord.cmp g.met.K.Ord.total g.met.K.Chain.same g.V.Join.join c.both.lefts c.both.rights
      (pairs_of c.both.done.items) _ c.in-Some-Some.here.now c.in-Some-Some.there.now c.both.invariant.right_rises
      c.in-Some-Some.ensures c.in-Some-Some.ensures' c.both.invariant.joined (sym c.in-Greater.ensures) in
      rw (c.in_ok-append-in-Greater.ensures.pairs, c.in_ok-copied-in-Greater.ensures, c.skip_first-in-Greater.ensures) step;
}

pub returns-clause-pairs : goal.returns-clause-pairs
returns-clause-pairs g c =
    let done : (pairs_of c.both.done.items ++ c.both.lefts) ++ c.both.rights ≡ map_join g.K.Ord.cmp g.V.Join.join (pairs_of c.args.left.now) (pairs_of c.args.right.now) = elim c.match-first.branch [
      | in_default w ↦ ended_right g.K.Ord.cmp g.met.K.Ord.total g.met.K.Chain.same g.V.Join.join c.both.lefts c.both.rights (pairs_of c.both.done.items) (map_join g.K.Ord.cmp g.V.Join.join (pairs_of c.args.left.now) (pairs_of c.args.right.now)) w.in_default.ensures' c.both.invariant.joined
      | in_default-2 w ↦ ended_left g.K.Ord.cmp g.met.K.Ord.total g.met.K.Chain.same g.V.Join.join c.both.lefts c.both.rights
          (pairs_of c.both.done.items) (map_join g.K.Ord.cmp g.V.Join.join (pairs_of c.args.left.now)
          (pairs_of c.args.right.now)) c.both.invariant.right_rises w.in_default.ensures c.both.invariant.joined
    ] in
    c.in_ok-append_rest-2.ensures.pairs ∙ ap (λ z. z ++ c.both.rights) c.in_ok-append_rest.ensures.pairs ∙ done
