use Rattle.std.proofs.Common.{◌≡◌, All, subst, sym, ap, ◌∙◌}
use Rattle.std.proofs.lemmas.List.Elements.{All-map}
use Rattle.fm_inbox.specs.Ports.{InboxModel, PortPoolModel, PortModel, IsPortOf}
use Rattle.fm_inbox.proofs.owned_port.PortPool.close.Goals as goal

pub empty-requires-clause-ports : goal.empty-requires-clause-ports
empty-requires-clause-ports g c =
    let same : c.args.self.inbox ≡ c.deref-2.result.now = sym (ap (λ (d : PortPoolModel). d.inbox) c.self.view_is) ∙ sym c.deref-2.ensures in
    subst (λ (b : InboxModel). All (IsPortOf b) c.ports_of.result.items) same
    (subst (All (IsPortOf c.args.self.inbox)) (sym c.ports_of.ensures.ports) (All-map (IsPortOf c.args.self.inbox) (λ d. d.port) c.args.out.items c.requires))
