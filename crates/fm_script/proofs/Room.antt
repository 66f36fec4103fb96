-- There is room for the writers that a list of values names: if none comes twice, they are at most 64.
use Rattle.std.proofs.Common.{◌≡◌, ◌+◌, ◌<◌, ◌≤◌, ◌==◌, ◌&&◌, ℕ, List, [], ◌∷◌, ◌++◌, Bool, true, false, not, cond, length, Option, Some, None, refl, sym, ap, subst, ◌∙◌, inl, inr, true≢false, arith}
use Rattle.std.proofs.Math.Dec.{eqb}
use Rattle.std.specs.List.{list_any, list_all, AllByRecursion, IsDistinct}
use Rattle.std.proofs.lemmas.Bool.{eqb-true, not-true, and_parts, or_parts, or_cases}
use Rattle.std.proofs.lemmas.Bool.Decides.{nat_tests}
use Rattle.std.proofs.lemmas.List.{length_push}
use Rattle.std.proofs.lemmas.List.Folds.{list_all-append}
use Rattle.std.proofs.lemmas.Map.Keys.{IsDistinct-cons}
use Rattle.std.proofs.lemmas.Map.Steps.{length-le_from_distinct_below}
use Rattle.serde_json.specs.Data.{Data}
use Rattle.fm_records.specs.Ids.{is_coordinator}
use Rattle.fm_records.specs.Options.{only_if}
use Rattle.fm_script.specs.Json.{whole_number}
use Rattle.fm_script.specs.Script.{coordinator_of, is_listed, are_distinct}
use Rattle.fm_script.proofs.Spelling.{are_distinct-push}

turned_round : (n m : ℕ) → (n == m) ≡ (m == n)
turned_round n m = grind arith

-- a number that is not listed is none of those that are
none_of : (ns : List ℕ) (n : ℕ) → is_listed ns n ≡ false → AllByRecursion (λ m. eqb n m ≡ false) ns
none_of [] n new = tt
none_of (m ∷ ns) n new =
    let apart = or_parts (m == n) (is_listed ns n) new in
    (turned_round n m ∙ apart.0, none_of ns n apart.1)

each_once : (ns : List ℕ) → are_distinct ns ≡ true → IsDistinct eqb ns
unfolding IsDistinct
each_once [] h = tt
each_once (n ∷ ns) h =
    let parts = and_parts (not (is_listed ns n)) (are_distinct ns) h in
    (none_of ns n (not-true _ parts.0), each_once ns parts.1)

-- 0 is none of them
never_zero : (ns : List ℕ) → list_all is_coordinator ns ≡ true → AllByRecursion (λ m. eqb 0 m ≡ false) ns
never_zero [] h = tt
never_zero (n ∷ ns) h =
    let parts = and_parts (is_coordinator n) (list_all is_coordinator ns) h in
    let within : is_coordinator n ≡ true = parts.0 in
    (grind (arith, nat_tests), never_zero ns parts.1)

each_below : (ns : List ℕ) → list_all is_coordinator ns ≡ true → (q : ℕ) → list_any (eqb q) ns ≡ true → q < 65
each_below [] h q there = absurd (true≢false (sym there))
each_below (n ∷ ns) h q there =
    let parts = and_parts (is_coordinator n) (list_all is_coordinator ns) h in
    let within : is_coordinator n ≡ true = parts.0 in
    elim (or_cases (eqb q n) (list_any (eqb q) ns) there) [
      | inl same ↦ let is : q ≡ n = eqb-true q n same in grind (arith, nat_tests)
      | inr later ↦ each_below ns parts.1 q later
    ]

-- with 0, which is none of them, they are numbers below 65
at_most_64 : (ns : List ℕ) → are_distinct ns ≡ true → list_all is_coordinator ns ≡ true → length ns ≤ 64
at_most_64 ns once within =
    let each : (q : ℕ) → list_any (eqb q) (0 ∷ ns) ≡ true → q < 65 =
    λ q there. elim (or_cases (eqb q 0) (list_any (eqb q) ns) there) [
      | inl zero ↦ let is : q ≡ 0 = eqb-true q 0 zero in omega arith
      | inr later ↦ each_below ns within q later
    ] in
    let with_zero : length (0 ∷ ns) ≤ 65 = length-le_from_distinct_below (0 ∷ ns) 65 (IsDistinct-cons eqb 0 ns (never_zero ns within) (each_once ns once)) each in
    omega arith

passed : (test : ℕ → Bool) (o : Option ℕ) (n : ℕ) → only_if test o ≡ Some n → test n ≡ true
passed test None n none = absurd (let wrong : ⊥ = cc in wrong)
passed test (Some m) n is =
    elim (test m) as (λ b. test m ≡ b → cond b (Some m) None ≡ Some n → test n ≡ true) [
      | true ↦ λ passes same. let it : m ≡ n = cc in subst (λ z. test z ≡ true) it passes
      | false ↦ λ _ none. absurd (let wrong : ⊥ = cc in wrong)
    ] refl is

-- a number that a value names is within
pub named_within : (d : Data) (n : ℕ) → coordinator_of d ≡ Some n → is_coordinator n ≡ true
named_within d n is = passed is_coordinator (whole_number d) n is

-- one more is within
pub within_more : (ns : List ℕ) (n : ℕ) → list_all is_coordinator ns ≡ true → is_coordinator n ≡ true → list_all is_coordinator (ns ++ n ∷ []) ≡ true
within_more ns n all one = list_all-append is_coordinator ns (n ∷ []) ∙ ap (λ b. b && (is_coordinator n && true)) all ∙ ap (λ b. b && true) one

-- so there is room for one that is new
pub room_for : (ns : List ℕ) (n : ℕ) → are_distinct ns ≡ true → list_all is_coordinator ns ≡ true → is_listed ns n ≡ false → is_coordinator n ≡ true → length ns < 64
room_for ns n once within new one =
    let more : length (ns ++ n ∷ []) ≤ 64 = at_most_64 (ns ++ n ∷ []) (are_distinct-push ns n once new) (within_more ns n within one) in
    let longer : length (ns ++ n ∷ []) ≡ length ns + 1 = length_push ns n in
    omega arith
