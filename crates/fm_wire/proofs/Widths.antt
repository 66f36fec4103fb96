-- Numbers of one, four, eight and sixteen bytes.
use Rattle.std.proofs.Common.{◌≡◌, ℕ, ◌+◌, ◌*◌, ◌/◌, ◌%◌, ◌^◌, ◌<◌, List, [], ◌∷◌, ◌++◌, length, get_or, take, drop, refl, sym, ap, ◌∙◌, arith, inl, inr}
use Rattle.std.specs.Int.{Width, w8, w32, w64, w128, byte_len, from_be_bytes, to_be_bytes}
use Rattle.std.proofs.Math.Nat.{div-div-eq-div-mul}
use Rattle.std.proofs.lemmas.Bool.{cases_lt}
use Rattle.std.proofs.lemmas.List.{take-append-drop, length-take, length-drop, get_or-drop, get_or-take, get_or_past}
use Rattle.std.proofs.lemmas.Nat.{be_bytes_4, be_bytes_8, from_be_bytes-to_be_bytes_4, from_be_bytes-to_be_bytes_8, div-mul-add}
use Rattle.fm_records.proofs.IdLaws.{from_bytes}
use Rattle.fm_wire.specs.Formats.{bytes_of}

abbrev pub IsBytes : List ℕ → Type 0
IsBytes bytes = (i : ℕ) → get_or bytes i 0 < 256

pub IsBytes-drop : (n : ℕ) (bytes : List ℕ) → IsBytes bytes → IsBytes (drop n bytes)
IsBytes-drop n bytes h i = rw get_or-drop (h (n + i))

pub IsBytes-take : (n : ℕ) (bytes : List ℕ) → IsBytes bytes → IsBytes (take n bytes)
IsBytes-take n bytes h i =
    elim (cases_lt i n) [
      | inl lt ↦ rw (get_or-take n bytes i 0 lt) (h i)
      | inr le ↦ rw (get_or_past (take n bytes) i 0 (omega (arith, length-take n bytes))) (omega arith)
    ]

-- the bytes of a number, and the number of bytes, are each other's inverses
pub record IsWide (w : Width) (limit : ℕ) : Type 0 where
  pub len : (n : ℕ) → length (bytes_of w n) ≡ byte_len w
  pub back : (bytes : List ℕ) → length bytes ≡ byte_len w → IsBytes bytes → bytes_of w (from_be_bytes w bytes) ≡ bytes
  pub again : (n : ℕ) → n < limit → from_be_bytes w (bytes_of w n) ≡ n

pub wide8 : IsWide w8 (2 ^ 8)
unfolding bytes_of
wide8 = record { len = λ n. refl; back = one; again = λ n lt. omega arith }
  where
    one : (bytes : List ℕ) → length bytes ≡ 1 → IsBytes bytes → to_be_bytes w8 (from_be_bytes w8 bytes) ≡ bytes
    one [] len fits = absurd (omega arith)
    one (b ∷ []) len fits = let small : b % 256 ≡ b = omega (arith, fits 0) in ap (λ n. n ∷ []) small
    one (b ∷ c ∷ bytes) len fits = absurd (omega arith)

pub wide32 : IsWide w32 (2 ^ 32)
unfolding bytes_of
wide32 = record {
  len = λ n. refl;
  back = λ bytes len fits. be_bytes_4 bytes _ len fits refl;
  again = λ n lt. from_be_bytes-to_be_bytes_4 n lt;
}

pub wide64 : IsWide w64 (2 ^ 64)
unfolding bytes_of
wide64 = record {
  len = λ n. refl;
  back = λ bytes len fits. be_bytes_8 bytes _ len fits refl;
  again = λ n lt. from_be_bytes-to_be_bytes_8 n lt;
}

-- ---- sixteen bytes are two halves

halves : (bytes : List ℕ) → from_be_bytes w128 bytes ≡ from_be_bytes w64 (take 8 bytes) * 2 ^ 64 + from_be_bytes w64 (drop 8 bytes)
halves bytes =
    let t0 = get_or-take 8 bytes 0 0 (omega arith) in
    let t1 = get_or-take 8 bytes 1 0 (omega arith) in
    let t2 = get_or-take 8 bytes 2 0 (omega arith) in
    let t3 = get_or-take 8 bytes 3 0 (omega arith) in
    let t4 = get_or-take 8 bytes 4 0 (omega arith) in
    let t5 = get_or-take 8 bytes 5 0 (omega arith) in
    let t6 = get_or-take 8 bytes 6 0 (omega arith) in
    let t7 = get_or-take 8 bytes 7 0 (omega arith) in
    let d0 : get_or (drop 8 bytes) 0 0 ≡ get_or bytes 8 0 = rw get_or-drop refl in
    let d1 : get_or (drop 8 bytes) 1 0 ≡ get_or bytes 9 0 = rw get_or-drop refl in
    let d2 : get_or (drop 8 bytes) 2 0 ≡ get_or bytes 10 0 = rw get_or-drop refl in
    let d3 : get_or (drop 8 bytes) 3 0 ≡ get_or bytes 11 0 = rw get_or-drop refl in
    let d4 : get_or (drop 8 bytes) 4 0 ≡ get_or bytes 12 0 = rw get_or-drop refl in
    let d5 : get_or (drop 8 bytes) 5 0 ≡ get_or bytes 13 0 = rw get_or-drop refl in
    let d6 : get_or (drop 8 bytes) 6 0 ≡ get_or bytes 14 0 = rw get_or-drop refl in
    let d7 : get_or (drop 8 bytes) 7 0 ≡ get_or bytes 15 0 = rw get_or-drop refl in
    omega arith

high : (hi lo c : ℕ) → lo < 2 ^ 64 → (hi * 2 ^ 64 + lo) / (2 ^ 64 * c) ≡ hi / c
high hi lo c lt = sym (div-div-eq-div-mul (hi * 2 ^ 64 + lo) (2 ^ 64) c) ∙ ap (λ q. q / c) (div-mul-add hi (2 ^ 64) lo lt)

split : (hi lo : ℕ) → lo < 2 ^ 64 → to_be_bytes w128 (hi * 2 ^ 64 + lo) ≡ to_be_bytes w64 hi ++ to_be_bytes w64 lo
split hi lo lt =
    let h7 = ap (λ q. q % 256) (high hi lo (256 ^ 7) lt) in
    let h6 = ap (λ q. q % 256) (high hi lo (256 ^ 6) lt) in
    let h5 = ap (λ q. q % 256) (high hi lo (256 ^ 5) lt) in
    let h4 = ap (λ q. q % 256) (high hi lo (256 ^ 4) lt) in
    let h3 = ap (λ q. q % 256) (high hi lo (256 ^ 3) lt) in
    let h2 = ap (λ q. q % 256) (high hi lo (256 ^ 2) lt) in
    let h1 = ap (λ q. q % 256) (high hi lo (256 ^ 1) lt) in
    let h0 = ap (λ q. q % 256) (div-mul-add hi (2 ^ 64) lo lt) in
    let l7 : (hi * 2 ^ 64 + lo) / 256 ^ 7 % 256 ≡ lo / 256 ^ 7 % 256 = omega arith in
    let l6 : (hi * 2 ^ 64 + lo) / 256 ^ 6 % 256 ≡ lo / 256 ^ 6 % 256 = omega arith in
    let l5 : (hi * 2 ^ 64 + lo) / 256 ^ 5 % 256 ≡ lo / 256 ^ 5 % 256 = omega arith in
    let l4 : (hi * 2 ^ 64 + lo) / 256 ^ 4 % 256 ≡ lo / 256 ^ 4 % 256 = omega arith in
    let l3 : (hi * 2 ^ 64 + lo) / 256 ^ 3 % 256 ≡ lo / 256 ^ 3 % 256 = omega arith in
    let l2 : (hi * 2 ^ 64 + lo) / 256 ^ 2 % 256 ≡ lo / 256 ^ 2 % 256 = omega arith in
    let l1 : (hi * 2 ^ 64 + lo) / 256 ^ 1 % 256 ≡ lo / 256 ^ 1 % 256 = omega arith in
    let l0 : (hi * 2 ^ 64 + lo) % 256 ≡ lo % 256 = omega arith in
    λ i. h7 i ∷ h6 i ∷ h5 i ∷ h4 i ∷ h3 i ∷ h2 i ∷ h1 i ∷ h0 i ∷ l7 i ∷ l6 i ∷ l5 i ∷ l4 i ∷ l3 i ∷ l2 i ∷ l1 i ∷ l0 i ∷ []

below64 : (bytes : List ℕ) → IsBytes bytes → from_be_bytes w64 bytes < 2 ^ 64
below64 bytes fits = omega (arith, fits 0, fits 1, fits 2, fits 3, fits 4, fits 5, fits 6, fits 7)

be_bytes_16 : (bytes : List ℕ) → length bytes ≡ 16 → IsBytes bytes → to_be_bytes w128 (from_be_bytes w128 bytes) ≡ bytes
be_bytes_16 bytes len fits =
    let front = IsBytes-take 8 bytes fits in
    let rest = IsBytes-drop 8 bytes fits in
    let hi = from_be_bytes w64 (take 8 bytes) in
    let lo = from_be_bytes w64 (drop 8 bytes) in
    let first : to_be_bytes w64 hi ≡ take 8 bytes = be_bytes_8 (take 8 bytes) hi (omega (arith, length-take 8 bytes)) front refl in
    let second : to_be_bytes w64 lo ≡ drop 8 bytes = be_bytes_8 (drop 8 bytes) lo (omega (arith, length-drop 8 bytes)) rest refl in
    ap (to_be_bytes w128) (halves bytes) ∙ split hi lo (below64 (drop 8 bytes) rest) ∙ (λ i. first i ++ second i) ∙ take-append-drop 8 bytes

pub wide128 : IsWide w128 (2 ^ 128)
unfolding bytes_of
wide128 = record {
  len = λ n. refl;
  back = be_bytes_16;
  again = λ n lt. from_bytes n lt;
}
