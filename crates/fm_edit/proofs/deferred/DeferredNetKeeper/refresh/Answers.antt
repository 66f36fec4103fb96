use Rattle.std.proofs.Common.{◌∙◌, sym}
use Rattle.fm_edit.specs.laws.DeferringLaws.{fresh_deferred_follows}
use Rattle.fm_edit.proofs.Late.{fresh_is_for}
use Rattle.fm_edit.proofs.deferred.DeferredNetKeeper.refresh.Goals as goal

pub returns-then-is_fresh-clause-given : goal.returns-then-is_fresh-clause-given
returns-then-is_fresh-clause-given c =
    let d = c.args.self.now in
    fresh_is_for c.law_no_keys.ensures.nothing d.editor d.built d.network d.pending c.args.now.now c.requires (sym c.is_fresh.ensures ∙ c.if-is_fresh.true)

pub returns-in-Ok-clause-follows : goal.returns-in-Ok-clause-follows
returns-in-Ok-clause-follows c = fresh_deferred_follows c.renew.new.self c.args.now.now c.law_can_be.ensures c.in-Ok.ensures.fresh c.in-Ok.ensures.given
