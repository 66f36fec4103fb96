use Rattle.std.proofs.Common.{◌≡◌, ◌<◌, ◌≤◌, None, IfOk, length, vec_capacity, sym, ap, subst, arith, ◌∙◌}
use Rattle.fm_lattice.specs.Maps.{IsRising, lookup}
use Rattle.fm_lattice.specs.inner.JoinedPairs.{joined_onto}
use Rattle.fm_lattice.specs.Blocks.{pairs_of}
use Rattle.fm_lattice.proofs.InBlocks.{inside_blocks, rising_in, lookup_in}
use Rattle.fm_lattice.proofs.merging.change_at.Goals as goal

pub index-requires : goal.index-requires
index-requires g c =
    let inside : c.in_ok-at.at < length c.own_block.new.blocks.items = inside_blocks g.K.Ord.cmp g.met.K.Ord.total g.met.K.Chain.same c.own_block.new.blocks.items c.args.pair.now.0 c.in_ok-at.at c.in_ok-at.ensures.block in
    search (arith, inside)

pub change_in-requires : goal.change_in-requires
change_in-requires g c =
    let left = c.own_block.new.blocks.items in
    let inside = inside_blocks g.K.Ord.cmp g.met.K.Ord.total g.met.K.Chain.same left c.args.pair.now.0 c.in_ok-at.at c.in_ok-at.ensures.block in
    let rises : IsRising g.K.Ord.cmp (pairs_of left) = subst (IsRising g.K.Ord.cmp) (sym c.in_ok-at.ensures.pairs) c.requires.rises in
    record {
      rises = subst (IsRising g.K.Ord.cmp) (sym (c.pairs.ensures ∙ ap (λ z. z.1.items) c.index.ensures)) (rising_in g.K.Ord.cmp g.met.K.Ord.total g.met.K.Chain.same left c.in_ok-at.at c.index.result.now rises inside);
      least = c.spare_for-spare.ensures;
    }

pub returns-clause-pair : goal.returns-clause-pair
returns-clause-pair g c =
    let key = c.args.pair.now.0 in
    let there : lookup g.K.Ord.cmp key c.pairs.result.now ≡ lookup g.K.Ord.cmp key (pairs_of c.args.left.now.items) =
    ap (lookup g.K.Ord.cmp key) (c.pairs.ensures ∙ ap (λ z. z.1.items) c.index.ensures)
    ∙ sym (lookup_in g.K.Ord.cmp g.met.K.Ord.total g.met.K.Chain.same c.own_block.new.blocks.items key c.in_ok-at.at c.index.result.now c.in_ok-at.ensures.block)
    ∙ ap (lookup g.K.Ord.cmp key) c.in_ok-at.ensures.pairs in
    subst (λ z. IfOk c.change_in.result (λ change. change.0 ≡ (key, joined_onto g.V.Join.join z c.args.pair.now.1))) there c.change_in.ensures.pair

pub returns-clause-spare : goal.returns-clause-spare
returns-clause-spare g c =
    let key = c.args.pair.now.0 in
    let there : lookup g.K.Ord.cmp key c.pairs.result.now ≡ lookup g.K.Ord.cmp key (pairs_of c.args.left.now.items) =
    ap (lookup g.K.Ord.cmp key) (c.pairs.ensures ∙ ap (λ z. z.1.items) c.index.ensures)
    ∙ sym (lookup_in g.K.Ord.cmp g.met.K.Ord.total g.met.K.Chain.same c.own_block.new.blocks.items key c.in_ok-at.at c.index.result.now c.in_ok-at.ensures.block)
    ∙ ap (lookup g.K.Ord.cmp key) c.in_ok-at.ensures.pairs in
    subst (λ z. IfOk c.change_in.result (λ change. z ≡ None → 2 ≤ vec_capacity change.1)) there c.change_in.ensures.spare
