use Rattle.std.proofs.Common.{◌≡◌, rules}
use Rattle.fm_store.specs.Stores.{magic}
use Rattle.fm_store.proofs.HeadLaws.{magic_found, few_no_magic, other_no_magic}
use Rattle.fm_store.proofs.recovery.behind_magic.Goals as goal

pub returns-in_err-front-clause-none : goal.returns-in_err-front-clause-none
returns-in_err-front-clause-none c = λ none. few_no_magic c.args.bytes.now c.in_err-front.ensures.cases

pub returns-then-eq-clause-some : goal.returns-then-eq-clause-some
returns-then-eq-clause-some c =
    let parts = c.in_ok-front.ensures.cases in
    let same : c.in_ok-front.front.now ≡ magic = search rules in
    magic_found c.args.bytes.now c.in_ok-front.front.now c.in_ok-front.rest.now parts.0 parts.1 same

pub returns-else-eq-clause-none : goal.returns-else-eq-clause-none
returns-else-eq-clause-none c = λ none.
    let parts = c.in_ok-front.ensures.cases in
    let other : c.in_ok-front.front.now ≡ magic → ⊥ = search rules in
    other_no_magic c.args.bytes.now c.in_ok-front.front.now parts.0 other
