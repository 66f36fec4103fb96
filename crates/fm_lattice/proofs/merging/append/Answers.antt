use Rattle.std.proofs.Common.{◌≡◌, ◌+◌, ◌-◌, ◌<◌, ◌++◌, [], ◌∷◌, length, refl, sym, subst, ◌∙◌, ap, arith}
use Rattle.std.proofs.lemmas.Result.{err_from_is_err_and}
use Rattle.fm_lattice.specs.Blocks.{pairs_of}
use Rattle.fm_lattice.specs.inner.BlockOrder.{BeginsWith, AreHeaded}
use Rattle.fm_lattice.proofs.InBlocks.{begins_at, begins_more, headed_set, headed_push, pairs_last, pairs_push, pairs_set}
use Rattle.fm_lattice.proofs.merging.append.Goals as goal

pub returns-then-pairs-lt-FULL-clause-pairs : goal.returns-then-pairs-lt-FULL-clause-pairs
returns-then-pairs-lt-FULL-clause-pairs g c =
    let last : (c.len-count.result - 1) + 1 ≡ length c.args.blocks.now.items = search arith in
    pairs_last c.args.blocks.now.items (c.len-count.result - 1) c.index_mut.result.now c.push_in.new.block _ last (c.in_ok-push_in.ensures.items ∙ ap (λ z. z.1.items ++ (c.args.key, c.args.value) ∷ []) c.index_mut.ensures.value)

pub returns-then-pairs-lt-FULL-clause-headed : goal.returns-then-pairs-lt-FULL-clause-headed
returns-then-pairs-lt-FULL-clause-headed g c =
    let last : (c.len-count.result - 1) + 1 ≡ length c.args.blocks.now.items = search arith in
    let old = begins_at c.args.blocks.now.items (c.len-count.result - 1) c.index_mut.result.now c.requires (omega (arith, last)) in
    let block = c.index_mut.result.now in
    let before : BeginsWith block.0 block.1.items = subst (λ z. BeginsWith z.0 z.1.items) (sym c.index_mut.ensures.value) old in
    headed_set c.args.blocks.now.items (c.len-count.result - 1) c.push_in.new.block c.requires
    (rw (c.in_ok-push_in.ensures.key, c.in_ok-push_in.ensures.items) (begins_more block.0 block.1.items _ before))

pub returns-clause-pairs : goal.returns-clause-pairs
returns-clause-pairs g c =
    let pushed : c.push.new.self.items ≡ (c.args.key, c.args.value) ∷ [] = rw c.in_ok-pairs.ensures.items at c.in_ok-push.ensures.items in
    let block : c.of.result.items ≡ (c.args.key, c.args.value) ∷ [] = ap (λ z. z.items) c.of.ensures ∙ pushed in
    ap pairs_of c.in_ok-push-2.ensures.items ∙ pairs_push c.args.blocks.now.items (c.args.key, c.of.result) ∙ ap (λ z. pairs_of c.args.blocks.now.items ++ z) block

pub returns-clause-headed : goal.returns-clause-headed
returns-clause-headed g c =
    let pushed : c.push.new.self.items ≡ (c.args.key, c.args.value) ∷ [] = rw c.in_ok-pairs.ensures.items at c.in_ok-push.ensures.items in
    let block : c.of.result.items ≡ (c.args.key, c.args.value) ∷ [] = ap (λ z. z.items) c.of.ensures ∙ pushed in
    subst AreHeaded (sym c.in_ok-push-2.ensures.items) (headed_push c.args.blocks.now.items (c.args.key, c.of.result) c.requires (subst (BeginsWith c.args.key) (sym block) refl))

pub returns-in_err-push_in-clause-err : goal.returns-in_err-push_in-clause-err
returns-in_err-push_in-clause-err g c =
    let at = c.len-count.result - 1 in
    let inside : at < length c.args.blocks.now.items = search arith in
    let items = c.in_err-push_in.ensures.err ∙ ap (λ z. z.1.items) c.index_mut.ensures.value in
    let old = begins_at c.args.blocks.now.items at c.index_mut.result.now c.requires inside in
    let block = c.index_mut.result.now in
    let before : BeginsWith block.0 block.1.items = subst (λ z. BeginsWith z.0 z.1.items) (sym c.index_mut.ensures.value) old in
    let p = err_from_is_err_and c.from_residual.result c.from_residual.ensures.1 in
    rw p.1 (
      pairs_set c.args.blocks.now.items at c.index_mut.result.now c.push_in.new.block items,
      headed_set c.args.blocks.now.items at c.push_in.new.block c.requires (rw (c.in_err-push_in.ensures.key, c.in_err-push_in.ensures.err) before),
    )
