use Rattle.std.proofs.Common.{◌≡◌, ◌∙◌, Some, refl, sym, ap}
use Rattle.fm_service.specs.declared.session.Session.{Session}
use Rattle.fm_service.proofs.Followers.{by_session, by_list}
use Rattle.fm_service.proofs.stream_service.StreamServiceResponder.answer.Goals as goal

pub returns-in-Some : goal.returns-in-Some
returns-in-Some c =
    let old = c.args.self.now in
    let whole : c.answer.new.self ≡ c.in-Some.session → record { alloc = old.alloc; renew_after = old.renew_after; session = Some c.answer.new.self } ≡ old =
    λ same i. record { alloc = old.alloc; renew_after = old.renew_after; session = (ap (λ (d : Session). Some d) same ∙ sym c.in-Some.is) i } in
    by_session c.args.self.now _ c.args.line.now refl c.in-Some.session c.answer.new.self c.in-Some.is refl whole
    c.answer.result c.answer.ensures.ok c.answer.ensures.err c.answer.ensures.unchanged

pub returns-in-None : goal.returns-in-None
returns-in-None c =
    by_list c.args.self.now _ c.args.line.now c.begin.ensures.most c.in-None.is c.begin.result c.begin.ensures.ok c.begin.ensures.err c.begin.ensures.unchanged
