use Rattle.std.proofs.Common.{◌+◌, ap, subst, ◌∙◌}
use Rattle.fm_inbox.specs.Ports.{InboxModel}
use Rattle.fm_gossip.specs.inner.Works.{HaveOut}
use Rattle.fm_gossip.proofs.Columns.{on_ok}
use Rattle.fm_gossip.proofs.work.+open_all.Goals as goal

pub returns-clause-out : goal.returns-clause-out
returns-clause-out t c =
    on_ok c.open_all.result
    (λ later ports out h.
    let parts = subst (HaveOut ports out) c.in-Some.ensures.cases.0 h in (
      ap (λ (b : InboxModel). b.ports) c.in_ok-opened.ensures.inbox ∙ parts.0,
      c.in_ok-opened.ensures.out ∙ ap (λ n. n + 1) parts.1,
      later ports out parts.2,
    ))
    c.open_all.ensures.out
