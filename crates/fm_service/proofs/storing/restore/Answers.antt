use Rattle.std.proofs.Common.{◌≡◌, List, [], ◌∷◌, ◌++◌, refl, sym, ap, ◌∙◌, subst, arith, append_assoc}
use Rattle.std.proofs.lemmas.List.{append-nil, nil_from_length}
use Rattle.std.specs.Vec.Iter.{into_iter_items}
use Rattle.fm_delta.specs.declared.packet.Packet.{Packet}
use Rattle.fm_world.specs.Worlds.{WorldOfSets}
use Rattle.fm_service.specs.declared.session.Session.{Session}
use Rattle.fm_service.specs.StreamSteps.{at_world}
use Rattle.fm_service.specs.Sessions.{SessionAt}
use Rattle.fm_service.specs.Storing.{AreRestorable, restored, all_stored}
use Rattle.fm_service.proofs.Results.{returned}
use Rattle.fm_service.proofs.Unstored.{restored_more, restorable_more}
use Rattle.fm_service.proofs.storing.restore.Goals as goal

pub loop-packet-preserved : goal.loop-packet-preserved
loop-packet-preserved c =
    let so_far = c.loop-packet.invariant in
    let packet = c.in-Some.packet in
    record {
      before = so_far.before ++ packet ∷ [];
      are = so_far.are ∙ ap (λ ps. so_far.before ++ ps) c.in-Some.ensures.steps.0 ∙ sym (append_assoc so_far.before (packet ∷ []) (into_iter_items c.next.new.self));
      at = λ behind stand k h.
          let at = so_far.at behind stand k h in
          let j = restored behind k so_far.before in (
            restorable_more behind k.world so_far.before packet at.0 (c.in_ok-merge_own.ensures.accepted j at.1),
            subst (λ (w : WorldOfSets). SessionAt c.merge_own.new.session (at_world k w)) (sym (restored_more behind k.world so_far.before packet)) (c.in_ok-merge_own.ensures.ok behind stand j at.1),
          );
    }

pub returns-in_err-merge_own-clause-err : goal.returns-in_err-merge_own-clause-err
returns-in_err-merge_own-clause-err c = λ behind stand k h.
    let so_far = c.loop-packet.invariant in
    let at = so_far.at behind stand k h in
    let j = restored behind k so_far.before in
    returned c.from_residual.result c.from_residual.ensures.1
    (λ e same. (
      j,
      record {
        before = so_far.before;
        packet = c.in-Some.packet;
        rest = into_iter_items c.next.new.self;
        are = so_far.are ∙ ap (λ ps. so_far.before ++ ps) c.in-Some.ensures.steps.0;
        accepted = at.0;
        cause = same ∙ c.in_err-merge_own.ensures.err j at.1;
        is = refl;
      },
      subst (λ (d : Session). SessionAt d j) (sym c.in_err-merge_own.ensures.unchanged) at.1,
    ))

pub returns-clause-ok : goal.returns-clause-ok
returns-clause-ok c = λ behind stand k h.
    let so_far = c.loop-packet.invariant in
    let at = so_far.at behind stand k h in
    let none : into_iter_items c.loop-packet.packet-iterator ≡ [] = nil_from_length _ (omega (arith, c.in-None.ensures.steps.0, c.loop-packet.packet-iterator.rest.ok.0)) in
    let all : c.args.packets.items ≡ so_far.before = so_far.are ∙ ap (λ ps. so_far.before ++ ps) none ∙ append-nil so_far.before in (
      all_stored (restored behind k c.args.packets.items),
      record { accepted = subst (AreRestorable behind k.world) (sym all) at.0; is = refl },
      subst (λ (ps : List Packet). SessionAt c.mark_all.new.session (all_stored (restored behind k ps))) (sym all) (c.mark_all.ensures (restored behind k so_far.before) at.1),
    )
