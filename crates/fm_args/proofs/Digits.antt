-- The number that an option's value is read as is the one that its digits spell.
use Rattle.std.proofs.Common.{◌≡◌, ◌∙◌, ◌==◌, ◌&&◌, ◌||◌, ◌^◌, ◌<◌, ◌≤◌, ap, refl, subst, ℕ, zero, suc, Bool, not, true, false, List, [], ◌∷◌, length, Option, Some, None, arith}
use Rattle.std.specs.Prelude.{ℤ, pos, neg_ℤ, int_le, nat_lt, nat_le, is_some, cond, if◌then◌else◌}
use Rattle.std.specs.Char.{digit_value}
use Rattle.std.specs.List.{list_all}
use Rattle.std.specs.Str.Parse.{AllDigits, digits_value, starts_with_minus, without_leading_plus, without_leading_sign}
use Rattle.std.specs.Fmt.{decimal}
use Rattle.std.proofs.lemmas.Fmt.{decimal_is_IsNumeral}
use Rattle.std.proofs.lemmas.Bool.{ltb-true, eqb-true, lt-ltb, leb-true, le-leb}
use Rattle.clap.proofs.WalkLemmas.{both}
use Rattle.clap.specs.Lexer.{without_minus}
use Rattle.clap.specs.ValueTests.{fits_i64, is_numeral, is_signed_in}
use Rattle.fm_args.specs.Invocation.{Text}
use Rattle.fm_args.specs.CommandLine.{parsed_number}
use Rattle.fm_args.specs.Parser.{parsed_bits}

pub digits_from : (ds : List ℕ) → list_all (λ d. nat_lt (digit_value d) 10) ds ≡ true → AllDigits 10 ds
digits_from [] e = tt
digits_from (d ∷ ds) e =
    let parts = both _ _ e in
    (ltb-true _ _ parts.0, digits_from ds parts.1)

pub digits_back : (ds : List ℕ) → AllDigits 10 ds → list_all (λ d. nat_lt (digit_value d) 10) ds ≡ true
digits_back [] h = refl
digits_back (d ∷ ds) h = rw (lt-ltb (digit_value d) 10 h.0) (digits_back ds h.1)

abbrev value : Text → ℕ
value v = digits_value 10 (without_leading_sign v)

small : (n most bound : ℕ) → nat_le n most ≡ true → most < bound → nat_lt n bound ≡ true
small n most bound h k = lt-ltb n bound (let le : n ≤ most = leb-true _ _ h in omega arith)

and_false : (b : Bool) → (b && false) ≡ false
and_false true = refl
and_false false = refl

abbrev signed : Bool → ℕ → ℤ
signed minus n = cond minus (neg_ℤ (pos n)) (pos n)

abbrev Same : ℕ → ℕ → Bool → Bool → ℕ → Type 0
Same least most numeral minus n = (numeral && (fits_i64 (signed minus n) && (int_le (pos least) (signed minus n) && int_le (signed minus n) (pos most))))
    ≡ is_some (if numeral && (nat_le least n && (nat_le n most && (not minus || n == 0))) then Some n else None)

same_plain : (least most n : ℕ) → most < 2 ^ 63 → (ge le : Bool) → nat_le least n ≡ ge → nat_le n most ≡ le → Same least most true false n
same_plain least most n few true true g h = rw (small n most (2 ^ 63) h few, g, h) refl
same_plain least most n few true false g h = rw (g, h, and_false) refl
same_plain least most n few false le g h = rw (g, and_false) refl

positive : (k : ℕ) → (suc k == 0) ≡ false
positive k = go (suc k == 0) refl
  where
    go : (b : Bool) → (suc k == 0) ≡ b → (suc k == 0) ≡ false
    go false e = e
    go true e = let bad : suc k ≡ 0 = eqb-true (suc k) 0 e in absurd (omega arith)

same_zero : (least most : ℕ) (ge : Bool) → nat_le least 0 ≡ ge → Same least most true true 0
same_zero least most true g = rw (g, le-leb 0 most (omega arith)) refl
same_zero least most false g = rw g refl

same_minus : (least most n : ℕ) → most < 2 ^ 63 → Same least most true true n
same_minus least most zero few = same_zero least most (nat_le least 0) refl
same_minus least most (suc k) few = rw (and_false (nat_lt k (2 ^ 63)), positive k, and_false (nat_le (suc k) most), and_false (nat_le least (suc k))) refl

-- the parser takes the value exactly if it spells a number in range
pub taken : (least most : ℕ) (v : Text) → most < 2 ^ 63 → is_signed_in (pos least) (pos most) v ≡ is_some (parsed_number least most v)
taken least most v few = go (is_numeral (without_leading_sign v)) (starts_with_minus v) (value v)
  where
    go : (numeral minus : Bool) (n : ℕ) → Same least most numeral minus n
    go false minus n = refl
    go true false n = same_plain least most n few (nat_le least n) (nat_le n most) refl refl
    go true true n = same_minus least most n few

parts : (numeral ge le ok : Bool) (m n : ℕ) → (if numeral && (ge && (le && ok)) then Some m else None) ≡ Some n → (numeral ≡ true) × (le ≡ true) × (m ≡ n)
parts true true true true m n h = (refl, refl, cc)
parts true true true false m n h = cc
parts true true false ok m n h = cc
parts true false le ok m n h = cc
parts false ge le ok m n h = cc

no_plus : (ds : Text) → is_numeral ds ≡ true → without_leading_plus ds ≡ ds
no_plus [] h = refl
no_plus (c ∷ cs) h = go (c == 43) refl
  where
    go : (b : Bool) → (c == 43) ≡ b → without_leading_plus (c ∷ cs) ≡ c ∷ cs
    go false e = rw e refl
    go true e =
        let is : c ≡ 43 = eqb-true c 43 e in
        let bad : is_numeral (43 ∷ cs) ≡ true = subst (λ (x : ℕ). is_numeral (x ∷ cs) ≡ true) is h in
        let no_digit : false ≡ true = (both (nat_lt 0 (length (43 ∷ cs))) (list_all (λ d. nat_lt (digit_value d) 10) (43 ∷ cs)) bad).1 in cc

same_digits : (v : Text) → is_numeral (without_leading_sign v) ≡ true → without_leading_plus (without_minus v) ≡ without_leading_sign v
same_digits [] h = refl
same_digits (c ∷ cs) h = go (c == 45) refl
  where
    go : (b : Bool) → (c == 45) ≡ b → without_leading_plus (without_minus (c ∷ cs)) ≡ without_leading_sign (c ∷ cs)
    go true e =
        let digits : is_numeral cs ≡ true = rw e at h in
        rw e (no_plus cs digits)
    go false e = rw e refl

abbrev read : ℕ → Text → Option ℕ
read bits ds = if is_numeral ds && nat_lt (digits_value 10 ds) (2 ^ bits) then Some (digits_value 10 ds) else None

-- and then reads that number
pub is_read : (least most bits : ℕ) (v : Text) (n : ℕ) → most < 2 ^ bits → parsed_number least most v ≡ Some n → parsed_bits bits (without_minus v) ≡ Some n
is_read least most bits v n few is =
    let all = parts (is_numeral (without_leading_sign v)) (nat_le least (value v)) (nat_le (value v) most) (not (starts_with_minus v) || value v == 0) (value v) n is in
    let below : nat_lt (value v) (2 ^ bits) ≡ true = small (value v) most (2 ^ bits) all.1 few in
    let made : read bits (without_leading_sign v) ≡ Some (value v) = rw (all.0, below) refl in
    ap (read bits) (same_digits v all.0) ∙ made ∙ ap Some all.2

no_minus : (ds : Text) → is_numeral ds ≡ true → starts_with_minus ds ≡ false
no_minus [] h = refl
no_minus (c ∷ cs) h = go (c == 45) refl
  where
    go : (b : Bool) → (c == 45) ≡ b → starts_with_minus (c ∷ cs) ≡ false
    go false e = e
    go true e =
        let is : c ≡ 45 = eqb-true c 45 e in
        let bad : is_numeral (45 ∷ cs) ≡ true = subst (λ (x : ℕ). is_numeral (x ∷ cs) ≡ true) is h in
        let no_digit : false ≡ true = (both (nat_lt 0 (length (45 ∷ cs))) (list_all (λ d. nat_lt (digit_value d) 10) (45 ∷ cs)) bad).1 in cc

-- a number that is written in decimal digits is read back
pub written : (n least most : ℕ) → least ≤ n → n ≤ most → n < 2 ^ 64 → parsed_number least most (decimal n) ≡ Some n
written n least most ge le few =
    let d = decimal_is_IsNumeral n few in
    let numeral : is_numeral (decimal n) ≡ true = rw (lt-ltb 0 (length (decimal n)) d.0.0, digits_back (decimal n) d.0.1) refl in
    rw (no_minus (decimal n) numeral, no_plus (decimal n) numeral, numeral, d.1, le-leb least n ge, le-leb n most le) refl
