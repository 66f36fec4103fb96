use Rattle.std.proofs.Common.{◌≡◌, ◌==◌, ◌∷◌, ◌∙◌, ℕ, is_none, true, false, position, ap, rules}
use Rattle.fm_world.specs.Represents.{number_of}
use Rattle.fm_world.proofs.Numbers.{distinct_on, distinct_off}
use Rattle.fm_world.proofs.distinct.+distinct.Goals as goal

pub returns-then-is_none : goal.returns-then-is_none
returns-then-is_none g t c =
    let f = c.in-Some.first.now in
    let split : c.args.coordinators.now ≡ f ∷ c.in-Some.rest.now = search rules in
    let none : is_none c.index_of.result ≡ true = search rules in
    distinct_on c.args.coordinators.now f c.in-Some.rest.now split c.index_of.result
    (c.index_of.ensures ∙ ap (λ (n : ℕ). position (λ d. number_of d == n) c.in-Some.rest.now) (c.value.ensures.number ∙ c.number.ensures)) none c.distinct.result c.distinct.ensures

pub returns-else-is_none : goal.returns-else-is_none
returns-else-is_none g t c =
    let f = c.in-Some.first.now in
    let split : c.args.coordinators.now ≡ f ∷ c.in-Some.rest.now = search rules in
    let some : is_none c.index_of.result ≡ false = search rules in
    distinct_off c.args.coordinators.now f c.in-Some.rest.now split c.index_of.result
    (c.index_of.ensures ∙ ap (λ (n : ℕ). position (λ d. number_of d == n) c.in-Some.rest.now) (c.value.ensures.number ∙ c.number.ensures)) some c.is_none.result c.if-is_none.false
