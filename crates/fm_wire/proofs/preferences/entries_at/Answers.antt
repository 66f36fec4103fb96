use Rattle.std.proofs.Common.{◌≡◌, ℕ, ◌+◌, ◌-◌, ◌<◌, List, [], ◌∷◌, ◌++◌, length, take, Some, None, Ok, refl, sym, ap, ◌∙◌, add-one, arith}
use Rattle.std.proofs.Math.ListN.{set, length-set}
use Rattle.std.proofs.Math.Seq.{take-suc-set}
use Rattle.std.specs.Prelude.{nat_le}
use Rattle.std.specs.Ordering.{nat_cmp}
use Rattle.std.proofs.lemmas.Result.{err_from_is_err_and}
use Rattle.fm_records.proofs.RangeLaws.{when_value}
use Rattle.fm_wire.specs.Formats.{record_at, records_at}
use Rattle.fm_wire.specs.Grammar.{id, price_field}
use Rattle.fm_wire.proofs.Walks.{with_front, read_begins, read_goes_on, read_ends, read_done}
use Rattle.fm_wire.proofs.preferences.entries_at.Goals as goal

abbrev Credits : Type 0
Credits = List (ℕ × ℕ)

taken : (row : Credits) (i : ℕ) (e : ℕ × ℕ) → i < length row → take (i + 1) (set row i e) ≡ take i row ++ e ∷ []
taken row i e lt = rw add-one (take-suc-set row i e lt)

pub loop-place-init : goal.loop-place-init
loop-place-init c = record { so_far = read_begins nat_cmp id price_field [] c.args.count None c.args.bytes.now refl; whole = refl }

pub returns-in_err-number : goal.returns-in_err-number
returns-in_err-number c =
    let total = records_at nat_cmp id price_field c.args.count None c.args.bytes.now in
    let p = err_from_is_err_and c.from_residual.result c.from_residual.ensures.1 in
    rw (p.1, p.2) (read_ends nat_cmp id price_field (take c.loop-place.place c.loop-place.row) c.args.count c.loop-place.place c.loop-place.last c.loop-place.rest.now c.in_err-number.field-0.0 total c.loop-place-test.true c.in_err-number.ensures c.loop-place.invariant.so_far)

pub loop-place-preserved : goal.loop-place-preserved
loop-place-preserved c =
    let total = records_at nat_cmp id price_field c.args.count None c.args.bytes.now in
    let row = c.loop-place.row in
    let place = c.loop-place.place in
    let entry : ℕ × ℕ = (c.new-machine.result, c.in_ok-number.credit) in
    let after = c.in_ok-number.after.now in
    let whole = c.loop-place.invariant.whole in
    let read : record_at nat_cmp id price_field c.loop-place.last c.loop-place.rest.now ≡ Ok (entry, after) = c.in_ok-number.ensures ∙ ap (λ (z : ℕ). Ok ((z, c.in_ok-number.credit), after)) (sym c.new-machine.ensures) in
    let on = read_goes_on nat_cmp id price_field (take place row) c.args.count place c.loop-place.last c.loop-place.rest.now entry after total c.loop-place-test.true read c.loop-place.invariant.so_far in
    record {
      so_far = ap (λ front. with_front front (records_at nat_cmp id price_field (c.args.count - (place + 1)) (Some c.new-machine.result) after)) (taken row place entry (omega arith)) ∙ on;
      whole = length-set row place entry ∙ whole;
    }

pub returns : goal.returns
returns c =
    let total = records_at nat_cmp id price_field c.args.count None c.args.bytes.now in
    let row = c.loop-place.row in
    let same : c.loop-place.place ≡ c.args.count = omega arith in
    let all = read_done nat_cmp id price_field (take c.loop-place.place row) c.args.count c.loop-place.place c.loop-place.last c.loop-place.rest.now total c.loop-place-test.false c.loop-place.invariant.so_far in
    let made : take c.args.count row ≡ c.unwrap.result = when_value (nat_le (length (take c.args.count row)) 4) (take c.args.count row) c.unwrap.result (sym c.new-2.ensures ∙ c.unwrap.ensures) in
    all ∙ (λ i. Ok ((ap (λ n. take n row) same ∙ made) i, c.loop-place.rest.now))
