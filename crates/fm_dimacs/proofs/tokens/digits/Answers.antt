-- The number so far is that of the digits before a byte that is none; it is too great if it does not fit.
use Rattle.std.proofs.Common.{◌≡◌, ◌+◌, ◌-◌, ◌*◌, ◌^◌, ◌<◌, ◌≤◌, false, true, Some, sym, ap, ◌∙◌, length, get_or, drop, arith}
use Rattle.std.specs.Char.{is_ascii_digit}
use Rattle.fm_dimacs.specs.inner.Scan.{digits_from, fitting}
use Rattle.fm_dimacs.proofs.Digits.{stops, goes_on, ends, too_great, fits, whole_rest}
use Rattle.fm_dimacs.proofs.tokens.digits.Goals as goal

pub returns-then-not-is_ascii_digit : goal.returns-then-not-is_ascii_digit
returns-then-not-is_ascii_digit c =
    let bytes = c.args.bytes.now in
    let none : is_ascii_digit (get_or bytes c.loop-i.i 0) ≡ false = sym c.is_ascii_digit.ensures.value ∙ c.if-not-is_ascii_digit.true in
    let found = stops c.loop-i.number c.loop-i.i bytes c.loop-i-test.true none in
    ap fitting (sym c.loop-i.invariant.so_far ∙ found) ∙ fits (c.loop-i.number, drop c.loop-i.i bytes) c.loop-i.invariant.fits ∙ ap (λ r. Some (c.loop-i.number, r)) (sym (whole_rest c.loop-i.i bytes))

pub returns-in_default : goal.returns-in_default
returns-in_default c =
    let bytes = c.args.bytes.now in
    let n = c.loop-i.number * 10 + (get_or bytes c.loop-i.i 0 - 48) in
    let digit : is_ascii_digit (get_or bytes c.loop-i.i 0) ≡ true = sym c.is_ascii_digit.ensures.value ∙ c.if-not-is_ascii_digit.false in
    let unfit : n < 2 ^ 64 → ⊥ = c.in_default.ensures in
    let great : 2 ^ 64 ≤ n = omega arith in
    ap fitting (sym c.loop-i.invariant.so_far ∙ goes_on c.loop-i.number c.loop-i.i bytes c.loop-i-test.true digit) ∙ too_great n (drop (c.loop-i.i + 1) bytes) great

pub returns : goal.returns
returns c =
    let bytes = c.args.bytes.now in
    let all : c.loop-i.i ≡ length bytes = omega arith in
    let found = ap (λ j. fitting (digits_from c.loop-i.number (drop j bytes))) (sym all) ∙ ap fitting c.loop-i.invariant.so_far in
    sym found ∙ ap fitting (ends c.loop-i.number bytes) ∙ fits (c.loop-i.number, drop (length bytes) bytes) c.loop-i.invariant.fits ∙ ap (λ r. Some (c.loop-i.number, r)) (sym (whole_rest (length bytes) bytes))
