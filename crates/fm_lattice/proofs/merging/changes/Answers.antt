use Rattle.std.proofs.Common.{◌≡◌, ◌≤◌, None, sym, ◌∙◌, ap, subst, vec_capacity}
use Rattle.fm_lattice.specs.Maps.{IsRising, lookup}
use Rattle.fm_lattice.specs.inner.JoinedPairs.{joined_pair}
use Rattle.fm_lattice.specs.Blocks.{pairs_of}
use Rattle.fm_lattice.specs.inner.BlockOrder.{GoesToOwned}
use Rattle.fm_lattice.proofs.Spares.{spares_push, one_more}
use Rattle.fm_lattice.proofs.Owned.{still_owned, owned_push}
use Rattle.fm_lattice.proofs.merging.changes.Goals as goal

pub change_at-requires-clause-rises : goal.change_at-requires-clause-rises
change_at-requires-clause-rises g c = subst (IsRising g.K.Ord.cmp) (sym c.rest.invariant.left_pairs) c.requires.left_rises

pub rest-preserved : goal.rest-preserved
rest-preserved g c =
    let so_far = c.rest.invariant in
    let before = pairs_of c.args.left.now.items in
    let joined = joined_pair g.K.Ord.cmp g.V.Join.join before in
    let change = c.in_ok-change.change in
    let pair : change.0 ≡ joined c.in-Some.pair.now = subst (λ z. change.0 ≡ joined_pair g.K.Ord.cmp g.V.Join.join z c.in-Some.pair.now) so_far.left_pairs c.in_ok-change.ensures.pair in
    let fits : lookup g.K.Ord.cmp c.in-Some.pair.now.0 before ≡ None → 2 ≤ vec_capacity change.1 = subst (λ z. lookup g.K.Ord.cmp c.in-Some.pair.now.0 z ≡ None → 2 ≤ vec_capacity change.1) so_far.left_pairs c.in_ok-change.ensures.spare in
    let goes : GoesToOwned g.K.Ord.cmp c.change_at.new.left.items change.0.0 = subst (GoesToOwned g.K.Ord.cmp c.change_at.new.left.items) (ap (λ z. z.0) (sym pair)) c.in_ok-change.ensures.owned in
    record {
      left_pairs = c.in_ok-change.ensures.left_pairs ∙ so_far.left_pairs;
      left_headed = c.in_ok-change.ensures.left_headed;
      left_len = c.in_ok-change.ensures.left_len ∙ so_far.left_len;
      pairs = rw (c.in_ok-push.ensures.items, c.skip_first.ensures) (one_more (λ x. x.0) joined c.rest.changes.items change c.rest.rest _ c.in-Some.pair.now _ pair c.in-Some.ensures so_far.pairs);
      spares = rw c.in_ok-push.ensures.items (spares_push g.K.Ord.cmp g.met.K.Ord.total g.met.K.Chain.same 2 before c.rest.changes.items change so_far.spares c.in_ok-change.ensures.empty (λ none. fits (ap (λ z. lookup g.K.Ord.cmp z.0 before) (sym pair) ∙ none)));
      owned = rw c.in_ok-push.ensures.items (owned_push g.K.Ord.cmp c.change_at.new.left.items c.rest.changes.items change (still_owned g.K.Ord.cmp c.rest.left.items c.change_at.new.left.items c.rest.changes.items c.in_ok-change.ensures.keeps so_far.owned) goes);
    }
