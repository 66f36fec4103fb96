-- Reading digits one by one.
use Rattle.std.proofs.Common.{◌≡◌, ℕ, suc, ◌+◌, ◌-◌, ◌*◌, ◌^◌, ◌<◌, ◌≤◌, Bool, true, false, cond, List, [], ◌∷◌, length, get_or, take, drop, Some, None, refl, sym, ap, ◌∙◌, arith}
use Rattle.std.specs.Char.{is_ascii_digit}
use Rattle.std.proofs.Math.Seq.{drop-cons}
use Rattle.std.proofs.lemmas.Bool.{le-ltb, lt-ltb}
use Rattle.std.proofs.lemmas.List.{take_all, drop_all, length-drop}
use Rattle.fm_dimacs.specs.inner.Scan.{digits_from, fitting}

at_byte : (n i : ℕ) (bs : List ℕ) (b : Bool) → i < length bs → is_ascii_digit (get_or bs i 0) ≡ b
    → digits_from n (drop i bs) ≡ cond b (digits_from (n * 10 + (get_or bs i 0 - 48)) (drop (suc i) bs)) (n, get_or bs i 0 ∷ drop (suc i) bs)
at_byte n i bs b h e = ap (digits_from n) (drop-cons bs i 0 h) ∙ ap (λ t. cond t (digits_from (n * 10 + (get_or bs i 0 - 48)) (drop (suc i) bs)) (n, get_or bs i 0 ∷ drop (suc i) bs)) e

pub stops : (n i : ℕ) (bs : List ℕ) → i < length bs → is_ascii_digit (get_or bs i 0) ≡ false → digits_from n (drop i bs) ≡ (n, drop i bs)
stops n i bs h e = at_byte n i bs false h e ∙ ap (λ r. (n, r)) (sym (drop-cons bs i 0 h))

pub goes_on : (n i : ℕ) (bs : List ℕ) → i < length bs → is_ascii_digit (get_or bs i 0) ≡ true → digits_from n (drop i bs) ≡ digits_from (n * 10 + (get_or bs i 0 - 48)) (drop (i + 1) bs)
goes_on n i bs h e = let next : suc i ≡ i + 1 = omega arith in at_byte n i bs true h e ∙ ap (λ j. digits_from (n * 10 + (get_or bs i 0 - 48)) (drop j bs)) next

pub ends : (n : ℕ) (bs : List ℕ) → digits_from n (drop (length bs) bs) ≡ (n, drop (length bs) bs)
ends n bs = let e : drop (length bs) bs ≡ [] = drop_all (length bs) bs (omega arith) in rw e refl

-- a number only grows
pub grows : (n : ℕ) (bs : List ℕ) → n ≤ (digits_from n bs).0
grows n [] = omega arith
grows n (b ∷ bs) =
    let more = grows (n * 10 + (b - 48)) bs in
    elim (is_ascii_digit b) as (λ t. n ≤ (cond t (digits_from (n * 10 + (b - 48)) bs) (n, b ∷ bs)).0) [ true ↦ omega (arith, more) | false ↦ omega arith ]

pub too_great : (n : ℕ) (bs : List ℕ) → 2 ^ 64 ≤ n → fitting (digits_from n bs) ≡ None
too_great n bs h = let e = le-ltb (digits_from n bs).0 (2 ^ 64) (omega (arith, grows n bs)) in rw e refl

pub fits : (x : ℕ × List ℕ) → x.0 < 2 ^ 64 → fitting x ≡ Some x
fits x h = rw (lt-ltb _ _ h) refl

pub whole_rest : (i : ℕ) (bs : List ℕ) → take (length bs - i) (drop i bs) ≡ drop i bs
whole_rest i bs = take_all _ (drop i bs) (omega (arith, length-drop i bs))
