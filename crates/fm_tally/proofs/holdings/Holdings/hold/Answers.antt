use Rattle.std.proofs.Common.{◌≡◌, ◌∙◌, ap, refl, rules, option_map}
use Rattle.std.specs.Prelude.{◌==◌, ◌&&◌}
use Rattle.std.specs.Ordering.{nat_cmp}
use Rattle.fm_lattice.specs.Maps.{lookup}
use Rattle.fm_records.specs.Options.{or_else, passes}
use Rattle.fm_tally.specs.inner.Holdings.{requests_in, tasks_in}
use Rattle.fm_tally.proofs.Each.{grown, tested}
use Rattle.fm_tally.proofs.holdings.Holdings.hold.Goals as goal

pub overflow_add-more : goal.overflow_add-more
overflow_add-more c =
    let m = c.args.spot.machine in
    let is : requests_in c.args.self.now m ≡ c.value-holding.result.requests = ap (λ o. or_else 0 (option_map (λ h. h.requests) o)) c.value-holding.ensures in
    let fits = c.requires.requests_fit m in
    search (rules, is, fits)

pub overflow_add-more-2 : goal.overflow_add-more-2
overflow_add-more-2 c =
    let m = c.args.spot.machine in
    let is : tasks_in c.args.self.now m ≡ c.value-holding.result.tasks = ap (λ o. or_else 0 (option_map (λ h. h.tasks) o)) c.value-holding.ensures in
    let fits = c.requires.tasks_fit m in
    search (rules, is, fits)

pub returns-clause-requests : goal.returns-clause-requests
returns-clause-requests c m =
    ap (λ es. or_else 0 (option_map (λ h. h.requests) (lookup nat_cmp m es))) c.replace.ensures
    ∙ grown c.args.spot.machine c.value-holding.result _ c.args.self.now.by_machine c.index_near.ensures.rising c.value-holding.ensures (λ h. h.requests) c.args.request (search rules) m

pub returns-clause-tasks : goal.returns-clause-tasks
returns-clause-tasks c m =
    ap (λ es. or_else 0 (option_map (λ h. h.tasks) (lookup nat_cmp m es))) c.replace.ensures
    ∙ grown c.args.spot.machine c.value-holding.result _ c.args.self.now.by_machine c.index_near.ensures.rising c.value-holding.ensures (λ h. h.tasks) 1 (search rules) m

pub returns-clause-same : goal.returns-clause-same
returns-clause-same c s =
    ap (λ es. passes (λ h. h.is_open && h.incarnation == s.incarnation) (lookup nat_cmp s.machine es)) c.replace.ensures
    ∙ tested c.args.spot.machine c.value-holding.result _ c.args.self.now.by_machine c.index_near.ensures.rising c.value-holding.ensures (λ h. h.is_open && h.incarnation == s.incarnation) refl s.machine
