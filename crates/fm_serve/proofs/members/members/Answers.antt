use Rattle.std.proofs.Common.{◌≡◌, ◌∙◌, arith}
use Rattle.fm_gossip.specs.Members.{member}
use Rattle.fm_script.specs.Openings.{history_limit}
use Rattle.fm_serve.specs.Musters.{told_at}
use Rattle.fm_serve.proofs.Listing.{no_members, next_member, all_members}
use Rattle.fm_serve.proofs.members.members.Goals as goal

pub loop-number-init : goal.loop-number-init
loop-number-init c = no_members c.args.listed.now c.args.tells.now c.in_ok-members.members.items c.in_ok-members.ensures.items

pub loop-number-preserved : goal.loop-number-preserved
loop-number-preserved c =
    let n = c.number-item.result in
    let made : c.new-in-loop-number.result ≡ member n history_limit (told_at n c.args.tells.now) =
    c.new-in-loop-number.ensures ∙ λ i. member (c.in_ok-coordinator.ensures i).number (c.in_ok-coordinator.ensures i).limit (c.in_ok-told.ensures i) in
    next_member c.args.listed.now c.args.tells.now c.loop-number.number-index n c.loop-number.members.items c.push.new.self.items _ c.new-in-loop-number.result c.loop-number-test.true c.number-item.is made c.in_ok-push.ensures.items c.loop-number.invariant

pub returns : goal.returns
returns c = all_members c.args.listed.now c.args.tells.now c.loop-number.number-index c.loop-number.members.items (omega (arith, c.loop-number-test.false)) c.loop-number.invariant
