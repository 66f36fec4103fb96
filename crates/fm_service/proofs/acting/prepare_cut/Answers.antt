use Rattle.std.proofs.Common.{◌≡◌, sym, ap, ◌∙◌, refl, subst, vec_items}
use Rattle.fm_world.specs.declared.step.Act.TheVariants as act
use Rattle.std.specs.Option.{IfSome}
use Rattle.fm_coord.specs.States.{cut_packet}
use Rattle.fm_query.specs.QueryTexts.{line_of}
use Rattle.fm_service.proofs.Results.{returned}
use Rattle.fm_service.proofs.Steps.{nobody_there, cut_refused, cut_cause, cut_told, no_memory}
use Rattle.fm_service.proofs.acting.prepare_cut.Goals as goal

pub returns-in_default-clause-err : goal.returns-in_default-clause-err
returns-in_default-clause-err c = λ w h. nobody_there c.args.world.now w c.args.at h c.in_default.ensures (act.Cut c.args.range)

pub returns-in_err-packet-clause-err : goal.returns-in_err-packet-clause-err
returns-in_err-packet-clause-err c = λ w h.
    returned c.from_residual.result c.from_residual.ensures.1
    (λ e same. same ∙ cut_refused c.args.world.now w c.args.at h c.in-Some.coordinator.now.state c.in-Some.ensures c.args.range _ c.in_err-packet.ensures.err)

pub returns-in_err-packet_line-clause-err : goal.returns-in_err-packet_line-clause-err
returns-in_err-packet_line-clause-err c = λ w h.
    let none = sym (cut_cause c.args.world.now w c.args.at h c.in-Some.coordinator.now.state c.in-Some.ensures c.args.range) ∙ c.in_ok-packet.ensures.within refl in
    returned c.from_residual-in_err-packet_line.result c.from_residual-in_err-packet_line.ensures.1
    (λ e same. same ∙ c.in_err-packet_line.ensures.err ∙ no_memory w c.args.at (act.Cut c.args.range) none)

pub returns-clause-packet : goal.returns-clause-packet
returns-clause-packet c = subst (λ o. IfSome o (λ s. c.in_ok-packet.packet ≡ cut_packet s c.args.range)) c.in-Some.ensures c.in_ok-packet.ensures.ok

pub returns-clause-line : goal.returns-clause-line
returns-clause-line c = λ w h.
    cut_told c.args.world.now w c.args.at h c.in-Some.coordinator.now.state c.in-Some.ensures c.args.range _ _ c.in_ok-packet.ensures.seen
    (ap vec_items c.into_bytes-line.ensures.value ∙ c.in_ok-packet_line.ensures.ok ∙ ap line_of c.get.ensures)

pub returns-clause-accepted : goal.returns-clause-accepted
returns-clause-accepted c = λ w h.
    sym (cut_cause c.args.world.now w c.args.at h c.in-Some.coordinator.now.state c.in-Some.ensures c.args.range) ∙ c.in_ok-packet.ensures.within refl
