use Rattle.std.proofs.Common.{◌≡◌, ◌∷◌, rules}
use Rattle.fm_store.proofs.HeadLaws.{repeats_now, repeats_later}
use Rattle.fm_store.proofs.head.+has_repeat.Goals as goal

pub returns-then-contains : goal.returns-then-contains
returns-then-contains t c =
    let split : c.args.numbers.now ≡ c.in-Some.first.now ∷ c.in-Some.rest.now = search rules in
    repeats_now c.args.numbers.now c.in-Some.first.now c.in-Some.rest.now c.contains.result split c.contains.ensures.value c.if-contains.true

pub returns-else-contains : goal.returns-else-contains
returns-else-contains t c =
    let split : c.args.numbers.now ≡ c.in-Some.first.now ∷ c.in-Some.rest.now = search rules in
    repeats_later c.args.numbers.now c.in-Some.first.now c.in-Some.rest.now c.contains.result c.has_repeat.result split c.contains.ensures.value c.if-contains.false c.has_repeat.ensures
