use Rattle.std.proofs.Common.{◌≡◌, ◌+◌, ◌++◌, [], ◌∷◌, length, take, take-suc, sym, ◌∙◌, ap, add-one, arith, length-append}
use Rattle.fm_lattice.specs.Blocks.{pairs_of}
use Rattle.fm_lattice.proofs.InBlocks.{pairs_push}
use Rattle.fm_lattice.proofs.merging.counted.Goals as goal

pub loop-block-preserved : goal.loop-block-preserved
loop-block-preserved g c =
    let done = take c.loop-block.block-index c.args.blocks.now in
    let block = c.block-item.result in
    let more : take (c.loop-block.block-index + 1) c.args.blocks.now ≡ done ++ block ∷ [] = rw add-one (take-suc c.args.blocks.now c.loop-block.block-index block (omega arith) ∙ ap (λ z. done ++ z ∷ []) (sym c.block-item.is)) in
    let len : length c.pairs-len.result.now ≡ length block.1.items = ap length c.pairs-len.ensures in
    let counts : length (pairs_of (done ++ block ∷ [])) ≡ length (pairs_of done) + length block.1.items = ap length (pairs_push done block) ∙ length-append (pairs_of done) block.1.items in
    let whole : length (pairs_of (take (c.loop-block.block-index + 1) c.args.blocks.now)) ≡ length (pairs_of done) + length block.1.items = ap (λ z. length (pairs_of z)) more ∙ counts in
    omega (arith, whole, len, c.loop-block.invariant)
