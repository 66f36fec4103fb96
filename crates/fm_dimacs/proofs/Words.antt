-- What is read from the front is what is written there, and what is written is read again.
use Rattle.std.proofs.Common.{◌≡◌, ℕ, ◌+◌, ◌-◌, ◌*◌, ◌/◌, ◌%◌, ◌^◌, ◌<◌, ◌≤◌, Bool, true, false, cond, eqb, ltb, List, [], ◌∷◌, ◌++◌, length, get_or, take, drop, Option, Some, None, refl, sym, ap, subst, ◌∙◌, append_assoc, arith}
use Rattle.std.specs.Prelude.{decimal}
use Rattle.std.specs.Char.{is_ascii_digit, digit_value}
use Rattle.std.specs.Str.{bytes_eq}
use Rattle.std.specs.Str.Parse.{AllDigits, digits_value_after, digits_value}
use Rattle.std.proofs.lemmas.Bool.{eqb-true, eqb-false, ne_eqb, ltb-true, lt-ltb, le-leb}
use Rattle.std.proofs.lemmas.Fmt.{decimal_step, decimal_digit, decimal_is_IsNumeral, first_decimal, decimal_nonempty}
use Rattle.std.proofs.lemmas.List.{take_at, drop_at, take-append-drop}
use Rattle.std.proofs.lemmas.Slice.Eq.{bytes_eq-Decides}
use Rattle.std.proofs.lemmas.Str.{digit_value_digit}
use Rattle.std.proofs.lemmas.Str.Parse.{digit_from_value}
use Rattle.fm_records.specs.Ids.{read_id, id_text}
use Rattle.fm_records.proofs.IdLaws.{text_read}
use Rattle.fm_dimacs.specs.inner.Scan.{◌>>=◌, past_text, digits_from, fitting, number_at, id_at}
use Rattle.fm_dimacs.proofs.Digits.{grows}
use Rattle.fm_dimacs.proofs.Uuids.{id_text_long}

-- ---- values that may be missing

pub bind_some : {A B : Type 0} (o : Option A) (f : A → Option B) (y : B) → (o >>= f) ≡ Some y → (x : A) × (o ≡ Some x) × (f x ≡ Some y)
bind_some None f y e = absurd (let never : ⊥ = cc in never)
bind_some (Some x) f y e = (x, refl, e)

pub guard_some : {A : Type 0} (b : Bool) (x y : A) → cond b (Some x) None ≡ Some y → (b ≡ true) × (x ≡ y)
guard_some true x y e = (refl, cc)
guard_some false x y e = absurd (let never : ⊥ = cc in never)

-- ---- a text

pub after_takes : (text bytes rest : List ℕ) → past_text text bytes ≡ Some rest → bytes ≡ text ++ rest
after_takes text bytes rest e =
    let g = guard_some (bytes_eq (take (length text) bytes) text) (drop (length text) bytes) rest e in
    let front : take (length text) bytes ≡ text = (bytes_eq-Decides (take (length text) bytes) text).0 g.0 in
    sym (take-append-drop (length text) bytes) ∙ (λ i. front i ++ g.1 i)

pub after_again : (text rest : List ℕ) → past_text text (text ++ rest) ≡ Some rest
after_again text rest =
    let front : take (length text) (text ++ rest) ≡ text = take_at text rest (length text) refl in
    let same : bytes_eq (take (length text) (text ++ rest)) text ≡ true = (bytes_eq-Decides (take (length text) (text ++ rest)) text).1 front in
    ap (λ b. cond b (Some (drop (length text) (text ++ rest))) None) same ∙ ap Some (drop_at text rest (length text) refl)

-- ---- a number

digit_bounds : (b : ℕ) → is_ascii_digit b ≡ true → (48 ≤ b) × (b ≤ 57)
digit_bounds b e = grind (arith, e)

digit_passes : (b : ℕ) → 48 ≤ b → b ≤ 57 → is_ascii_digit b ≡ true
digit_passes b low high = rw (le-leb 48 b low, le-leb b 57 high) refl

digits_take : (n : ℕ) (bytes : List ℕ) → 0 < n → (digits_from n bytes).0 < 2 ^ 64 → decimal n ++ bytes ≡ decimal (digits_from n bytes).0 ++ (digits_from n bytes).1
digits_take n [] some fits = refl
digits_take n (b ∷ bs) some fits =
    let m = n * 10 + (b - 48) in
    let rest = digits_take m bs in
    elim (is_ascii_digit b) as (λ t. is_ascii_digit b ≡ t → (cond t (digits_from m bs) (n, b ∷ bs)).0 < 2 ^ 64 → decimal n ++ (b ∷ bs) ≡ decimal (cond t (digits_from m bs) (n, b ∷ bs)).0 ++ (cond t (digits_from m bs) (n, b ∷ bs)).1) [
      | true ↦ λ e f.
          let in_digits = digit_bounds b e in
          let upper : m / 10 ≡ n = omega arith in
          let lower : 48 + m % 10 ≡ b = omega arith in
          let step : decimal m ≡ decimal n ++ (b ∷ []) = decimal_step m (omega arith) (omega (arith, grows m bs)) ∙ (λ i. decimal (upper i) ++ (lower i ∷ [])) in
          sym (append_assoc (decimal n) (b ∷ []) bs) ∙ ap (λ t. t ++ bs) (sym step) ∙ rest (omega arith) f
      | false ↦ λ e f. refl
    ] refl fits

fitting_is : (x y : ℕ × List ℕ) → fitting x ≡ Some y → (x.0 < 2 ^ 64) × (x ≡ y)
fitting_is x y e = let g = guard_some (ltb x.0 (2 ^ 64)) x y e in (ltb-true _ _ g.0, g.1)

abbrev IsWritten : List ℕ → ℕ × List ℕ → Type 0
IsWritten bytes x = (bytes ≡ decimal x.0 ++ x.1) × (x.0 < 2 ^ 64)

some_is : {A : Type 0} (x y : A) → Some x ≡ Some y → x ≡ y
some_is x y e = cc

pub number_takes : (bytes : List ℕ) (x : ℕ × List ℕ) → number_at bytes ≡ Some x → (bytes ≡ decimal x.0 ++ x.1) × (x.0 < 2 ^ 64)
unfolding number_at
number_takes [] x e = absurd (let never : ⊥ = cc in never)
number_takes (b ∷ bs) x e =
    elim (eqb b 48) as (λ t. eqb b 48 ≡ t → cond t (Some (0, bs)) (cond (is_ascii_digit b) (fitting (digits_from (b - 48) bs)) None) ≡ Some x → IsWritten (b ∷ bs) x) [
      | true ↦ λ is f.
          let zero : b ≡ 48 = eqb-true b 48 is in
          let text : b ∷ bs ≡ decimal 0 ++ bs = ap (λ d. d ∷ bs) zero ∙ ap (λ t. t ++ bs) (sym (decimal_digit 0 (omega arith))) in
          subst (IsWritten (b ∷ bs)) (some_is (0, bs) x f) (text, omega arith)
      | false ↦ λ is. elim (is_ascii_digit b) as (λ t. is_ascii_digit b ≡ t → cond t (fitting (digits_from (b - 48) bs)) None ≡ Some x → IsWritten (b ∷ bs) x) [
        | true ↦ λ d f.
            let in_digits = digit_bounds b d in
            let other : b ≡ 48 → ⊥ = eqb-false b 48 is in
            let first : decimal (b - 48) ≡ b ∷ [] = decimal_digit (b - 48) (omega arith) ∙ ap (λ d. d ∷ []) (omega arith) in
            let whole = fitting_is (digits_from (b - 48) bs) x f in
            let text : b ∷ bs ≡ decimal (digits_from (b - 48) bs).0 ++ (digits_from (b - 48) bs).1 = ap (λ t. t ++ bs) (sym first) ∙ digits_take (b - 48) bs (omega arith) whole.0 in
            subst (IsWritten (b ∷ bs)) whole.1 (text, whole.0)
        | false ↦ λ d f. absurd (let never : ⊥ = cc in never)
      ] refl
    ] refl e

-- the bytes do not begin with a digit
abbrev pub Stops : List ℕ → Type 0
Stops [] = Unit {0}
Stops (b ∷ bs) = is_ascii_digit b ≡ false

stopped : (n : ℕ) (rest : List ℕ) → Stops rest → digits_from n rest ≡ (n, rest)
stopped n [] stop = refl
stopped n (b ∷ bs) stop = ap (λ t. cond t (digits_from (n * 10 + (b - 48)) bs) (n, b ∷ bs)) stop

is_digit : (c : ℕ) → digit_value c < 10 → (is_ascii_digit c ≡ true) × (c - 48 ≡ digit_value c)
is_digit c small =
    let bounds = digit_from_value c small in
    (digit_passes c bounds.0 bounds.1, omega (arith, digit_value_digit c bounds))

digits_again : (n : ℕ) (ds rest : List ℕ) → AllDigits 10 ds → Stops rest → digits_from n (ds ++ rest) ≡ (digits_value_after 10 n ds, rest)
digits_again n [] rest all stop = stopped n rest stop
digits_again n (d ∷ ds) rest all stop =
    let digit = is_digit d all.0 in
    ap (λ t. cond t (digits_from (n * 10 + (d - 48)) (ds ++ rest)) (n, d ∷ (ds ++ rest))) digit.0
    ∙ ap (λ v. digits_from (n * 10 + v) (ds ++ rest)) digit.1
    ∙ digits_again (n * 10 + digit_value d) ds rest all.1 stop

-- a number from its digits, of which the first is not 0
positive_again : (n : ℕ) (ds rest : List ℕ) → AllDigits 10 ds → 0 < length ds → 48 < get_or ds 0 0 → digits_value 10 ds ≡ n → n < 2 ^ 64 → Stops rest → number_at (ds ++ rest) ≡ Some (n, rest)
unfolding number_at
positive_again n [] rest all long first is fits stop = absurd (omega arith)
positive_again n (d ∷ ds) rest all long first is fits stop =
    let digit = is_digit d all.0 in
    let other : eqb d 48 ≡ false = ne_eqb d 48 (λ e. omega arith) in
    let start : d - 48 ≡ 0 * 10 + digit_value d = omega (arith, digit.1) in
    let whole : digits_from (d - 48) (ds ++ rest) ≡ (n, rest) =
    ap (λ v. digits_from v (ds ++ rest)) start ∙ digits_again (0 * 10 + digit_value d) ds rest all.1 stop ∙ ap (λ m. (m, rest)) is in
    ap (λ t. cond t (Some (0, ds ++ rest)) (cond (is_ascii_digit d) (fitting (digits_from (d - 48) (ds ++ rest))) None)) other
    ∙ ap (λ t. cond t (fitting (digits_from (d - 48) (ds ++ rest))) None) digit.0
    ∙ ap fitting whole
    ∙ ap (λ t. cond t (Some (n, rest)) None) (lt-ltb n (2 ^ 64) fits)

zero_again : (rest : List ℕ) → number_at (48 ∷ rest) ≡ Some (0, rest)
unfolding number_at
zero_again rest = refl

pub number_again : (n : ℕ) (rest : List ℕ) → n < 2 ^ 64 → Stops rest → number_at (decimal n ++ rest) ≡ Some (n, rest)
number_again n rest fits stop =
    elim (eqb n 0) as (λ t. eqb n 0 ≡ t → number_at (decimal n ++ rest) ≡ Some (n, rest)) [
      | true ↦ λ e.
          let none : n ≡ 0 = eqb-true n 0 e in
          let digits : decimal n ≡ 48 ∷ [] = ap decimal none ∙ decimal_digit 0 (omega arith) in
          ap (λ ds. number_at (ds ++ rest)) digits ∙ zero_again rest ∙ ap (λ m. Some (m, rest)) (sym none)
      | false ↦ λ e.
          let some : n ≡ 0 → ⊥ = eqb-false n 0 e in
          let numeral = decimal_is_IsNumeral n fits in
          positive_again n (decimal n) rest numeral.0.1 (decimal_nonempty n fits) (first_decimal n (omega arith) fits) numeral.1 fits stop
    ] refl

-- ---- an id

pub id_takes : (bytes : List ℕ) (x : ℕ × List ℕ) → id_at bytes ≡ Some x → bytes ≡ id_text x.0 ++ x.1
unfolding id_at
id_takes bytes x e =
    let front = take 36 bytes in
    let b = bind_some (read_id front) (λ n. cond (bytes_eq (id_text n) front) (Some (n, drop 36 bytes)) None) x e in
    let g = guard_some (bytes_eq (id_text b.0) front) (b.0, drop 36 bytes) x b.2 in
    let text : id_text b.0 ≡ front = (bytes_eq-Decides (id_text b.0) front).0 g.0 in
    subst (λ (y : ℕ × List ℕ). bytes ≡ id_text y.0 ++ y.1) g.1 (sym (take-append-drop 36 bytes) ∙ ap (λ t. t ++ drop 36 bytes) (sym text))

pub id_again : (n : ℕ) (rest : List ℕ) → n < 2 ^ 128 → id_at (id_text n ++ rest) ≡ Some (n, rest)
unfolding id_at
id_again n rest fits =
    let front : take 36 (id_text n ++ rest) ≡ id_text n = take_at (id_text n) rest 36 (id_text_long n) in
    let back : drop 36 (id_text n ++ rest) ≡ rest = drop_at (id_text n) rest 36 (id_text_long n) in
    let same : bytes_eq (id_text n) (id_text n) ≡ true = (bytes_eq-Decides (id_text n) (id_text n)).1 refl in
    ap (λ t. read_id t >>= λ m. cond (bytes_eq (id_text m) t) (Some (m, drop 36 (id_text n ++ rest))) None) front
    ∙ ap (λ o. o >>= λ m. cond (bytes_eq (id_text m) (id_text n)) (Some (m, drop 36 (id_text n ++ rest))) None) (text_read n fits)
    ∙ ap (λ t. cond t (Some (n, drop 36 (id_text n ++ rest))) None) same
    ∙ ap (λ r. Some (n, r)) back
