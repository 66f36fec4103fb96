use Rattle.std.proofs.Common.{◌<◌, length, ap, subst, arith, ◌∙◌}
use Rattle.fm_lattice.specs.inner.BlockOrder.{IsBlockOf, IsBlockFor}
use Rattle.fm_lattice.proofs.InBlocks.{inside_blocks, block_set}
use Rattle.fm_lattice.proofs.Cuts.{same_pairs, same_headed, same_owned, set_alone}
use Rattle.fm_lattice.proofs.Owned.{owned_home}
use Rattle.fm_lattice.proofs.blocks.own_block.Goals as goal

pub index_mut-requires : goal.index_mut-requires
index_mut-requires g c =
    let is = subst (λ z. IsBlockOf g.K.Ord.cmp c.args.key.now z c.block_of-at.result) c.deref.ensures.value c.block_of-at.ensures.block in
    let inside : c.block_of-at.result < length c.args.blocks.now.items = inside_blocks g.K.Ord.cmp g.met.K.Ord.total g.met.K.Chain.same c.args.blocks.now.items c.args.key.now c.block_of-at.result is in
    search (arith, inside)

pub returns-in_err-own-clause-pairs : goal.returns-in_err-own-clause-pairs
returns-in_err-own-clause-pairs g c =
    let is = subst (λ z. IsBlockOf g.K.Ord.cmp c.args.key.now z c.block_of-at.result) c.deref.ensures.value c.block_of-at.ensures.block in
    same_pairs g.K.Ord.cmp g.met.K.Ord.total g.met.K.Chain.same c.args.blocks.now.items c.args.key.now c.block_of-at.result c.own.new.block c.index_mut.result.now is c.index_mut.ensures.value c.own.ensures.items

pub returns-in_err-own-clause-headed : goal.returns-in_err-own-clause-headed
returns-in_err-own-clause-headed g c =
    let is = subst (λ z. IsBlockOf g.K.Ord.cmp c.args.key.now z c.block_of-at.result) c.deref.ensures.value c.block_of-at.ensures.block in
    same_headed g.K.Ord.cmp g.met.K.Ord.total g.met.K.Chain.same c.args.blocks.now.items c.args.key.now c.block_of-at.result c.own.new.block c.index_mut.result.now is c.index_mut.ensures.value c.requires.headed c.own.ensures.key c.own.ensures.items

pub returns-clause-pairs : goal.returns-clause-pairs
returns-clause-pairs g c =
    let is = subst (λ z. IsBlockOf g.K.Ord.cmp c.args.key.now z c.block_of-at.result) c.deref.ensures.value c.block_of-at.ensures.block in
    same_pairs g.K.Ord.cmp g.met.K.Ord.total g.met.K.Chain.same c.args.blocks.now.items c.args.key.now c.block_of-at.result c.own.new.block c.index_mut.result.now is c.index_mut.ensures.value c.own.ensures.items

pub returns-clause-headed : goal.returns-clause-headed
returns-clause-headed g c =
    let is = subst (λ z. IsBlockOf g.K.Ord.cmp c.args.key.now z c.block_of-at.result) c.deref.ensures.value c.block_of-at.ensures.block in
    same_headed g.K.Ord.cmp g.met.K.Ord.total g.met.K.Chain.same c.args.blocks.now.items c.args.key.now c.block_of-at.result c.own.new.block c.index_mut.result.now is c.index_mut.ensures.value c.requires.headed c.own.ensures.key c.own.ensures.items

pub returns-clause-block : goal.returns-clause-block
returns-clause-block g c =
    let is = subst (λ z. IsBlockOf g.K.Ord.cmp c.args.key.now z c.block_of-at.result) c.deref.ensures.value c.block_of-at.ensures.block in
    block_set g.K.Ord.cmp g.met.K.Ord.total g.met.K.Chain.same c.args.blocks.now.items c.args.key.now c.block_of-at.result c.own.new.block is

pub returns-clause-alone : goal.returns-clause-alone
returns-clause-alone g c =
    let is = subst (λ z. IsBlockOf g.K.Ord.cmp c.args.key.now z c.block_of-at.result) c.deref.ensures.value c.block_of-at.ensures.block in
    set_alone g.K.Ord.cmp g.met.K.Ord.total g.met.K.Chain.same c.args.blocks.now.items c.args.key.now c.block_of-at.result c.own.new.block c.index_mut.result.now is c.index_mut.ensures.value c.in_ok-own.ensures.owned

pub returns-clause-owned : goal.returns-clause-owned
returns-clause-owned g c =
    let home = subst (λ z. IsBlockFor g.K.Ord.cmp c.args.key.now z c.block_of-at.result) c.deref.ensures.value c.block_of-at.ensures.home in
    owned_home g.K.Ord.cmp c.args.key.now c.args.blocks.now.items c.block_of-at.result c.index_mut.result.now c.own.new.block home (c.own.ensures.key ∙ ap (λ z. z.0) c.index_mut.ensures.value) c.in_ok-own.ensures.owned

pub returns-clause-keeps : goal.returns-clause-keeps
returns-clause-keeps g c =
    let is = subst (λ z. IsBlockOf g.K.Ord.cmp c.args.key.now z c.block_of-at.result) c.deref.ensures.value c.block_of-at.ensures.block in
    same_owned g.K.Ord.cmp g.met.K.Ord.total g.met.K.Chain.same c.args.blocks.now.items c.args.key.now c.block_of-at.result c.own.new.block c.index_mut.result.now is c.index_mut.ensures.value c.own.ensures.key c.in_ok-own.ensures.owned
