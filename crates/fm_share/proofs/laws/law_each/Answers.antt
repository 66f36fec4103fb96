use Rattle.std.proofs.Common.{◌≡◌, ℕ, ◌-◌, [], Option, ◌∙◌, ap, arith, filter, take}
use Rattle.fm_share.specs.Shares.{has_task, on_machine, count_on, at_most_on_each}
use Rattle.fm_share.proofs.Firsts.{first_there}
use Rattle.fm_share.proofs.laws.law_each.Goals as goal

pub returns : goal.returns
returns c k share plan each m limit =
    let places = filter (λ p. has_task k share.writers p.task) plan.places in
    let all : each - count_on m [] ≡ each = omega arith in
    ap (λ (o : Option ℕ). on_machine m (at_most_on_each o places)) limit
    ∙ first_there m each [] places
    ∙ ap (λ n. take n (on_machine m places)) all
