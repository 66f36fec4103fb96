-- The text of an id is read back as the id.
use Rattle.std.specs.Prelude.{◌≡◌, ℕ, ◌+◌, ◌*◌, ◌/◌, ◌%◌, ◌^◌, ◌<◌, All, Some, option_map, zero, suc, refl}
use Rattle.std.specs.Int.{byte_at, bytes_high_first, from_be_bytes, to_be_bytes, w128}
use Rattle.std.proofs.Common.{sym, ap, ◌∙◌, inl, arith}
use Rattle.std.proofs.Math.Nat.{add-mul, mul_assoc, mul_comm, div-div-eq-div-mul}
use Rattle.std.proofs.lemmas.Nat.{div-add-mod'}
use Rattle.uuid.proofs.RoundTrips.{parses_hyphenated}
use Rattle.uuid.specs.Text.{lower}
use Rattle.fm_records.specs.Ids.{read_id, id_text}

-- the bytes down to the one worth c, from those above it
next : (n c s : ℕ) → s ≡ n / (c * 256) * (c * 256) → s + n / c % 256 * c ≡ n / c * c
next n c s e =
    let upper : n / c / 256 ≡ n / (c * 256) = div-div-eq-div-mul n c 256 in
    let turned : n / c / 256 * (c * 256) ≡ n / c / 256 * 256 * c = ap (λ z. n / c / 256 * z) (mul_comm c 256) ∙ sym (mul_assoc (n / c / 256) 256 c) in
    ap (λ z. z + n / c % 256 * c) (e ∙ ap (λ z. z * (c * 256)) (sym upper) ∙ turned)
    ∙ sym (add-mul (n / c / 256 * 256) (n / c % 256) c)
    ∙ ap (λ z. z * c) (div-add-mod' (n / c) 256)

first : (n : ℕ) → n < 2 ^ 128 → n / 256 ^ 15 % 256 * 256 ^ 15 ≡ n / 256 ^ 15 * 256 ^ 15
first n fits = omega arith

last : (n s : ℕ) → s ≡ n / 256 * 256 → s + n % 256 ≡ n
last n s e = omega arith

-- the sixteen bytes of a number make it up again
pub from_bytes : (n : ℕ) → n < 2 ^ 128 → from_be_bytes w128 (to_be_bytes w128 n) ≡ n
from_bytes n fits =
    let top = first n fits in
    let to_14 = next n (256 ^ 14) _ top in
    let to_13 = next n (256 ^ 13) _ to_14 in
    let to_12 = next n (256 ^ 12) _ to_13 in
    let to_11 = next n (256 ^ 11) _ to_12 in
    let to_10 = next n (256 ^ 10) _ to_11 in
    let to_9 = next n (256 ^ 9) _ to_10 in
    let to_8 = next n (256 ^ 8) _ to_9 in
    let to_7 = next n (256 ^ 7) _ to_8 in
    let to_6 = next n (256 ^ 6) _ to_7 in
    let to_5 = next n (256 ^ 5) _ to_6 in
    let to_4 = next n (256 ^ 4) _ to_5 in
    let to_3 = next n (256 ^ 3) _ to_4 in
    let to_2 = next n (256 ^ 2) _ to_3 in
    let to_1 = next n (256 ^ 1) _ to_2 in
    last n _ to_1

byte_fits : (k n : ℕ) → byte_at k n < 256
byte_fits zero n = omega arith
byte_fits (suc k) n = omega arith

bytes_fit : (w n : ℕ) → All (λ b. b < 256) (bytes_high_first w n)
bytes_fit zero n k d h = absurd (omega arith)
bytes_fit (suc w) n zero d h = byte_fits w n
bytes_fit (suc w) n (suc k) d h = bytes_fit w n k d (omega arith)

pub text_read : (n : ℕ) → n < 2 ^ 128 → read_id (id_text n) ≡ Some n
text_read n fits =
    ap (λ o. option_map (from_be_bytes w128) o) (sym (parses_hyphenated lower (to_be_bytes w128 n) (inl refl) refl (bytes_fit 16 n)))
    ∙ ap Some (from_bytes n fits)
