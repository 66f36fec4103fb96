use Rattle.std.proofs.Common.{◌≡◌, true, false, position, string_bytes, is_some, refl, sym, ap, ◌∙◌, inr}
use Rattle.fm_script.specs.Script.{is_text, is_named}
use Rattle.fm_script.proofs.Naming.{is_some-position}
use Rattle.fm_world.specs.declared.step.Act.TheVariants as act
use Rattle.fm_service.specs.StreamSteps.{Named}
use Rattle.fm_service.specs.WorldSteps.{step_at}
use Rattle.fm_service.proofs.Verdicts.{of_step, unnamed, unread, not_both}
use Rattle.fm_service.proofs.request_causes.cut_request_cause.Goals.{in-Some+else-is_some, in_default}
use Rattle.fm_service.proofs.request_causes.cut_request_cause.Goals as goal

pub returns-then-is_some : goal.returns-then-is_some
returns-then-is_some c = λ k here.
    let names = c.names.ensures ∙ ap (λ (n : Named). n.names) here.named_is in
    let name = string_bytes c.in-Some.name in
    let found : true ≡ is_some (position (is_text c.deref.result.now) c.names.result.now) = c.if-is_some.ensures ∙ ap is_some c.place.ensures in
    let there = found ∙ (λ i. is_some (position (is_text (c.deref.ensures i)) (names i))) ∙ is_some-position (is_text name) k.named.names in
    rw c.in-Some.is (inr (sym there, refl), unread)

pub returns : goal.returns
returns c =
    elim c.match-name.branch [
      | in-Some+else-is_some w ↦ λ k here.
          let names = w.names.ensures ∙ ap (λ (n : Named). n.names) here.named_is in
          let name = string_bytes w.in-Some.name in
          let found : false ≡ is_some (position (is_text w.deref.result.now) w.names.result.now) = w.if-is_some.ensures ∙ ap is_some w.place.ensures in
          let there = found ∙ (λ i. is_some (position (is_text (w.deref.ensures i)) (names i))) ∙ is_some-position (is_text name) k.named.names in
          rw w.in-Some.is (
          unnamed k c.args.at c.args.range name c.cut_cause.result (not_both (is_named k.named.names name) (sym there))
          (of_step k.world (step_at c.args.at (act.Cut c.args.range)) c.cut_cause.result (c.cut_cause.ensures k.world here.stands)))
      | in_default w ↦ λ k here. rw w.in_default.is (of_step k.world (step_at c.args.at (act.Cut c.args.range)) c.cut_cause.result (c.cut_cause.ensures k.world here.stands))
    ]
