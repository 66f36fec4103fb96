use Rattle.std.proofs.Common.{map, ap, ◌∙◌}
use Rattle.fm_gossip.specs.Passing.{passed_at}
use Rattle.fm_gossip.specs.inner.Works.{MemberEndModel}
use Rattle.fm_gossip.proofs.Columns.{on_ok, column_step}
use Rattle.fm_gossip.proofs.member_end.+take_last.Goals as goal

pub returns-clause-taken : goal.returns-clause-taken
returns-clause-taken g t c =
    on_ok c.take_last.result
    (λ later.
    column_step _ _ _ _ _ _ _ _ _ _ _ (ap (λ ds. map passed_at (map (λ d. d.state) ds)) c.in-Some.ensures.cases.0) (ap (map (λ d. d.ports)) c.in-Some.ensures.cases.0)
    (λ qs q is. c.in_ok-take_port.ensures.taken qs q (ap (λ (d : MemberEndModel). d.ports) c.first.view_is ∙ is)) later)
    c.take_last.ensures.taken
