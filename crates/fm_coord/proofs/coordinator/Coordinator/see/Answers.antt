use Rattle.std.proofs.Common.{◌≡◌, ◌∙◌, ap, sym, subst}
use Rattle.fm_records.specs.Table.{Table}
use Rattle.fm_tally.specs.Tallies.{TallyIsFor}
use Rattle.fm_coord.specs.States.{State, Represents}
use Rattle.fm_coord.proofs.coordinator.Coordinator.see.Goals as goal

pub returns-clause-tally : goal.returns-clause-tally
returns-clause-tally g c =
    let known : c.in_ok-look.look.knowledge ≡ c.args.self.now.state.knowledge = c.in_ok-look.ensures.knowledge ∙ ap (λ s. s.state.knowledge) c.in_ok-tally.ensures.same in
    subst (λ (k : Table). TallyIsFor k c.in_ok-tally.tally) (sym known) c.in_ok-tally.ensures.tally

pub returns-clause-event : goal.returns-clause-event
returns-clause-event g c =
    let same : c.fresh_tally.new.self.state ≡ c.args.self.now.state = ap (λ s. s.state) c.in_ok-tally.ensures.same in
    λ r st. c.in_ok-look.ensures.event r (subst (λ (s : State). Represents s r) (sym same) st)
