use Rattle.std.proofs.Common.{◌≡◌, take, arith, rules}
use Rattle.sha2.specs.Sha256.{sha256}
use Rattle.fm_store.proofs.Framing.{few_no_length, field_found, field_missing}
use Rattle.fm_store.proofs.frames.length_at.Goals as goal

pub returns-in_err-number-clause-none : goal.returns-in_err-number-clause-none
returns-in_err-number-clause-none c = λ none has. few_no_length c.args.bytes.now (omega (arith, c.in_err-number.ensures.cases)) has

pub returns-in_err-sum-clause-none : goal.returns-in_err-sum-clause-none
returns-in_err-sum-clause-none c = λ none has. few_no_length c.args.bytes.now (omega (arith, c.in_err-sum.ensures.cases, c.in_ok-number.ensures.cases.2)) has

pub returns-then-eq-clause-some : goal.returns-then-eq-clause-some
returns-then-eq-clause-some c =
    let first = c.in_ok-number.ensures.cases in
    let second = c.in_ok-sum.ensures.cases in
    let same : take 8 (sha256 c.in_ok-number.number.now) ≡ c.in_ok-sum.sum.now = search rules in
    field_found c.args.bytes.now c.in_ok-number.number.now c.in_ok-number.after.now c.in_ok-sum.sum.now c.in_ok-sum.rest.now c.from_be_bytes.result
    first.0 first.1 first.2 second.0 second.1 (λ i. omega (arith, c.type_inv.bytes i)) c.from_be_bytes.ensures same

pub returns-else-eq-clause-none : goal.returns-else-eq-clause-none
returns-else-eq-clause-none c = λ none has.
    let first = c.in_ok-number.ensures.cases in
    let second = c.in_ok-sum.ensures.cases in
    let other : take 8 (sha256 c.in_ok-number.number.now) ≡ c.in_ok-sum.sum.now → ⊥ = search rules in
    field_missing c.args.bytes.now c.in_ok-number.number.now c.in_ok-number.after.now c.in_ok-sum.sum.now c.in_ok-sum.rest.now
    first.0 first.1 first.2 second.0 second.1 second.2 other has
