use Rattle.std.proofs.Common.{◌≡◌, sym, subst}
use Rattle.fm_coord.specs.States.{State, Represents}
use Rattle.fm_coord.proofs.coordinator.Coordinator.view.Goals as goal

pub returns-clause-event : goal.returns-clause-event
returns-clause-event g c =
    let same : c.refresh.new.self.state ≡ c.args.self.now.state = c.in_ok-refresh.ensures.state in
    λ r st. c.in_ok-look.ensures.event r (subst (λ (s : State). Represents s r) (sym same) st)
