use Rattle.std.proofs.Common.{◌≡◌, [], refl, sym, ◌∙◌}
use mathlib.Core.Bool.{false≢true}
use Rattle.fm_lattice.proofs.Merges.{rising_drop, under_less, under_equal, under_both, under_behind, under_later, under_none, none_under, some_none}
use Rattle.fm_lattice.proofs.merging.is_below.Goals as goal
use Rattle.fm_lattice.proofs.merging.is_below.Goals.{in_default, in_default-2}

pub returns-in-Less : goal.returns-in-Less
returns-in-Less g c = (
  (λ no. absurd (false≢true no)),
  (λ under. absurd (under_less g.K.Ord.cmp g.met.K.Ord.total g.met.K.Chain.same g.V.Join.join c.both.lefts c.both.rights
      c.in-Some-Some.here.now c.in-Some-Some.there.now c.both.invariant.right_rises c.in-Some-Some.ensures
      c.in-Some-Some.ensures' (sym c.in-Less.ensures) (c.both.invariant.left_below under))),
)

pub returns-then-not-leq : goal.returns-then-not-leq
returns-then-not-leq g c = (
  (λ no. absurd (false≢true no)),
  (λ under. absurd (false≢true (sym c.if-not-leq.true ∙ c.leq.ensures.1
      (under_equal g.K.Ord.cmp g.met.K.Ord.total g.met.K.Chain.same g.V.Join.join c.both.lefts c.both.rights
      c.in-Some-Some.here.now c.in-Some-Some.there.now c.both.invariant.right_rises c.in-Some-Some.ensures
      c.in-Some-Some.ensures' (sym c.in-Equal.ensures) (c.both.invariant.left_below under)).0))),
)

pub both-preserved-else-not-leq : goal.both-preserved-else-not-leq
both-preserved-else-not-leq g c = record {
  right_rises = rw c.skip_first-in-Equal.ensures (rising_drop g.K.Ord.cmp g.met.K.Ord.total g.met.K.Chain.same g.V.Join.join 1 c.both.rights c.both.invariant.right_rises);
  left_below = λ under. rw (c.skip_first.ensures, c.skip_first-in-Equal.ensures)
      (under_equal g.K.Ord.cmp g.met.K.Ord.total g.met.K.Chain.same g.V.Join.join c.both.lefts c.both.rights
      c.in-Some-Some.here.now c.in-Some-Some.there.now c.both.invariant.right_rises c.in-Some-Some.ensures
      c.in-Some-Some.ensures' (sym c.in-Equal.ensures) (c.both.invariant.left_below under)).1;
  rest_below = λ rest. c.both.invariant.rest_below (under_both g.K.Ord.cmp g.met.K.Ord.total g.met.K.Chain.same g.V.Join.join
      c.both.lefts c.both.rights c.in-Some-Some.here.now c.in-Some-Some.there.now c.both.invariant.right_rises
      c.in-Some-Some.ensures c.in-Some-Some.ensures' (sym c.in-Equal.ensures) (c.leq.ensures.0 c.if-not-leq.false)
      (rw (c.skip_first.ensures, c.skip_first-in-Equal.ensures) at rest));
}

pub both-preserved : goal.both-preserved
both-preserved g c = record {
  right_rises = rw c.skip_first-in-Greater.ensures (rising_drop g.K.Ord.cmp g.met.K.Ord.total g.met.K.Chain.same g.V.Join.join 1 c.both.rights c.both.invariant.right_rises);
  left_below = λ under. rw c.skip_first-in-Greater.ensures (under_behind g.K.Ord.cmp g.met.K.Ord.total g.met.K.Chain.same
      g.V.Join.join c.both.lefts c.both.rights c.in-Some-Some.here.now c.in-Some-Some.there.now c.both.invariant.right_rises
      c.in-Some-Some.ensures c.in-Some-Some.ensures' (sym c.in-Greater.ensures) (c.both.invariant.left_below under));
  rest_below = λ rest. c.both.invariant.rest_below (under_later g.K.Ord.cmp g.met.K.Ord.total g.met.K.Chain.same g.V.Join.join
      c.both.lefts c.both.rights c.in-Some-Some.here.now c.in-Some-Some.there.now c.both.invariant.right_rises
      c.in-Some-Some.ensures c.in-Some-Some.ensures' (sym c.in-Greater.ensures) (rw c.skip_first-in-Greater.ensures at rest));
}

pub returns-in-Some : goal.returns-in-Some
returns-in-Some g c =
    let not_none : c.both.lefts ≡ [] → ⊥ = λ none. some_none _ _ (sym c.in-Some.ensures ∙ none) in (
      (λ no. absurd (false≢true no)),
      (λ under. elim c.match-first.branch [
        | in_default w ↦ absurd (not_none (none_under g.K.Ord.cmp g.met.K.Ord.total g.met.K.Chain.same g.V.Join.join c.both.lefts c.both.rights w.in_default.ensures' (c.both.invariant.left_below under)))
        | in_default-2 w ↦ absurd (not_none w.in_default.ensures)
      ]),
    )

pub returns-in-None : goal.returns-in-None
returns-in-None g c = (
  (λ _. c.both.invariant.rest_below (under_none g.K.Ord.cmp g.met.K.Ord.total g.met.K.Chain.same g.V.Join.join c.both.lefts c.both.rights c.both.invariant.right_rises c.in-None.ensures)),
  (λ _. refl),
)
