-- What the getters of the matches give, by the rows.
use Rattle.std.proofs.Common.{◌≡◌, ◌∙◌, ◌&&◌, ◌^◌, ◌<◌, ap, refl, ℕ, Bool, true, false, List, Option, Some, None, Result, Ok, Err}
use Rattle.std.specs.Prelude.{nat_lt, option_and_then}
use Rattle.std.specs.Str.Parse.{IsNumeral, ParsesUnsigned, digits_value, without_leading_plus}
use Rattle.std.proofs.lemmas.Bool.{ltb-true, lt-ltb}
use Rattle.clap.specs.Matches.{ReadsOne}
use Rattle.clap.specs.ValueTests.{is_numeral}
use Rattle.clap.specs.Words.{Text, one_text, rows_of}
use Rattle.clap.specs.declared.parser.matches.Found.{Found}
use Rattle.clap.proofs.WalkLemmas.{both, one_text-rows}
use Rattle.fm_args.proofs.Digits.{digits_back, digits_from}
use Rattle.fm_args.specs.Parser.{parsed_bits, number_read}

abbrev is_number : ℕ → Text → Bool
is_number k t = is_numeral (without_leading_plus t) && nat_lt (digits_value 10 (without_leading_plus t)) (2 ^ k)

holds : (k : ℕ) (t : Text) → is_number k t ≡ true → IsNumeral 10 (without_leading_plus t) × (digits_value 10 (without_leading_plus t) < 2 ^ k)
holds k t e =
    let a = both _ _ e in
    let b = both _ _ a.0 in
    ((ltb-true _ _ b.0, digits_from _ b.1), ltb-true _ _ a.1)

tests : (k : ℕ) (t : Text) → IsNumeral 10 (without_leading_plus t) × (digits_value 10 (without_leading_plus t) < 2 ^ k) → is_number k t ≡ true
tests k t h = rw (lt-ltb _ _ h.0.0, digits_back _ h.0.1, lt-ltb _ _ h.1) refl

number_reads : {E : Type 0} (G : List ℕ → Result ℕ E → Type 0) (k : ℕ) (t : Text) (r : Option ℕ)
    → ((u : List ℕ) (x : Result ℕ E) → G u x → ParsesUnsigned k 10 u x) → ReadsOne G t r → r ≡ parsed_bits k t
number_reads G k t (Some v) only h =
    let p = only t (Ok v) h in
    rw (tests k t p.0) (ap Some p.1)
number_reads G k t None only h = go (is_number k t) refl
  where
    go : (b : Bool) → is_number k t ≡ b → None ≡ parsed_bits k t
    go true e = absurd (only t (Err h.0) h.1 (holds k t e))
    go false e = rw e refl

pub reads : {E : Type 0} (G : List ℕ → Result ℕ E → Type 0) (k : ℕ) (f : Found) (id : Text) (r : Option ℕ)
    → ((u : List ℕ) (x : Result ℕ E) → G u x → ParsesUnsigned k 10 u x)
    → (one_text f id ≡ None → r ≡ None) → ((t : List ℕ) → one_text f id ≡ Some t → ReadsOne G t r)
    → r ≡ number_read k id (rows_of f)
reads G k f id r only none value = go (one_text f id) refl ∙ ap (option_and_then (parsed_bits k)) (one_text-rows f id)
  where
    go : (o : Option Text) → one_text f id ≡ o → r ≡ option_and_then (parsed_bits k) (one_text f id)
    go None e = rw e (none e)
    go (Some t) e = rw e (number_reads G k t r only (value t e))
