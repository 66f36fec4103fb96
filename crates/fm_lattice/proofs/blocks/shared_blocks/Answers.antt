use Rattle.std.proofs.Common.{◌<◌, length, ◌∙◌, add-one, arith}
use Rattle.fm_lattice.proofs.Copies.{more_headed, shared_same, shared_headed, shared_more}
use Rattle.fm_lattice.proofs.blocks.shared_blocks.Goals as goal

pub returns-in_err-share_one-clause-same : goal.returns-in_err-share_one-clause-same
returns-in_err-share_one-clause-same g c =
    let bs = c.loop-at.blocks.items in
    let inside : c.loop-at.at < length bs = search arith in
    let new = c.share_one.new.block in
    shared_same bs bs c.loop-at.at c.index_mut.result.now new inside c.index_mut.ensures.value c.share_one.ensures.key c.share_one.ensures.items c.loop-at.invariant.same_headed new c.share_one.ensures.key c.share_one.ensures.items ∙ c.loop-at.invariant.same

pub returns-in_err-share_one-clause-same_headed : goal.returns-in_err-share_one-clause-same_headed
returns-in_err-share_one-clause-same_headed g c =
    let bs = c.loop-at.blocks.items in
    let inside : c.loop-at.at < length bs = search arith in
    let new = c.share_one.new.block in
    shared_headed bs bs c.loop-at.at c.index_mut.result.now new inside c.index_mut.ensures.value c.share_one.ensures.key c.share_one.ensures.items c.loop-at.invariant.same_headed new c.share_one.ensures.key c.share_one.ensures.items

pub returns-in_err-push-clause-same : goal.returns-in_err-push-clause-same
returns-in_err-push-clause-same g c =
    let bs = c.loop-at.blocks.items in
    let inside : c.loop-at.at < length bs = search arith in
    let new = c.share_one.new.block in
    shared_same bs bs c.loop-at.at c.index_mut.result.now new inside c.index_mut.ensures.value c.share_one.ensures.key c.share_one.ensures.items c.loop-at.invariant.same_headed new c.share_one.ensures.key c.share_one.ensures.items ∙ c.loop-at.invariant.same

pub returns-in_err-push-clause-same_headed : goal.returns-in_err-push-clause-same_headed
returns-in_err-push-clause-same_headed g c =
    let bs = c.loop-at.blocks.items in
    let inside : c.loop-at.at < length bs = search arith in
    let new = c.share_one.new.block in
    shared_headed bs bs c.loop-at.at c.index_mut.result.now new inside c.index_mut.ensures.value c.share_one.ensures.key c.share_one.ensures.items c.loop-at.invariant.same_headed new c.share_one.ensures.key c.share_one.ensures.items

pub loop-at-preserved : goal.loop-at-preserved
loop-at-preserved g c =
    let so_far = c.loop-at.invariant in
    let bs = c.loop-at.blocks.items in
    let others = c.loop-at.others.items in
    let inside : c.loop-at.at < length bs = search arith in
    let new = c.share_one.new.block in
    let other = c.in_ok-share_one.field-0 in
    let key = c.in_ok-share_one.ensures.other_key in
    let items = c.in_ok-share_one.ensures.other_items in
    record {
      len = so_far.len;
      same = shared_same bs others c.loop-at.at c.index_mut.result.now other inside c.index_mut.ensures.value key items so_far.same_headed new c.share_one.ensures.key c.share_one.ensures.items ∙ so_far.same;
      same_headed = shared_headed bs others c.loop-at.at c.index_mut.result.now other inside c.index_mut.ensures.value key items so_far.same_headed new c.share_one.ensures.key c.share_one.ensures.items;
      pairs = rw (c.in_ok-push.ensures.items, add-one) (shared_more bs others c.loop-at.at c.index_mut.result.now other inside c.index_mut.ensures.value key items so_far.same_headed new c.share_one.ensures.key c.share_one.ensures.items so_far.pairs);
      headed = rw c.in_ok-push.ensures.items (more_headed bs others c.loop-at.at c.index_mut.result.now other inside c.index_mut.ensures.value key items so_far.same_headed so_far.headed);
    }
