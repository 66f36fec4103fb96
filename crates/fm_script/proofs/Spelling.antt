-- What a list of values spells, one value after another: coordinators, and steps.
use Rattle.std.proofs.Common.{◌≡◌, ◌==◌, ◌+◌, ◌<◌, ℕ, List, [], ◌∷◌, ◌++◌, Bool, true, false, not, ◌||◌, cond, map, drop, length, get_or, Option, Some, None, is_some, option_map, unwrap_or, refl, sym, ap, subst, ◌∙◌, inl, inr, true≢false, append_assoc, arith}
use Rattle.std.proofs.lemmas.List.{drop_more}
use Rattle.std.proofs.lemmas.Bool.{eq-eqb, not-true, and_parts, and_from, and_left, and_right, or_cases}
use Rattle.serde_json.specs.Data.{Data}
use Rattle.serde_json.specs.View.{view}
use Rattle.serde_json.specs.declared.value.Value.{Value}
use Rattle.fm_records.specs.Options.{only_if}
use Rattle.fm_records.specs.Sets.{IsMember}
use Rattle.fm_coord.specs.Numbers.{AreDistinct}
use Rattle.fm_script.specs.Json.{bind}
use Rattle.fm_script.specs.Script.{coordinator_of, all_there, is_listed, are_distinct, are_coordinators, listed_of}

-- numbers of a list, and one more

neither : (a b : Bool) → (a || b) ≡ false → (a ≡ false) × (b ≡ false)
neither true b h = absurd (true≢false h)
neither false b h = (refl, h)

is_listed-push : (ns : List ℕ) (n m : ℕ) → is_listed ns m ≡ false → (n == m) ≡ false → is_listed (ns ++ n ∷ []) m ≡ false
is_listed-push [] n m h e = ap (λ b. b || false) e
is_listed-push (x ∷ ns) n m h e =
    elim (x == m) as (λ b. (b || is_listed ns m) ≡ false → (b || is_listed (ns ++ n ∷ []) m) ≡ false) [
      | true ↦ λ no. no
      | false ↦ λ rest. is_listed-push ns n m rest e
    ] h

turned_round : (n m : ℕ) → (n == m) ≡ (m == n)
turned_round n m = grind arith

-- a number that is new keeps them distinct
pub are_distinct-push : (ns : List ℕ) (n : ℕ) → are_distinct ns ≡ true → is_listed ns n ≡ false → are_distinct (ns ++ n ∷ []) ≡ true
are_distinct-push [] n h new = refl
are_distinct-push (x ∷ ns) n h new =
    let parts = and_parts (not (is_listed ns x)) (are_distinct ns) h in
    let apart = neither (x == n) (is_listed ns n) new in
    and_from _ _ (ap not (is_listed-push ns n x (not-true _ parts.0) (turned_round n x ∙ apart.0))) (are_distinct-push ns n parts.1 apart.1)

is_listed-within : (ns : List ℕ) (n m : ℕ) (rest : List ℕ) → (n == m) ≡ true → is_listed (ns ++ n ∷ rest) m ≡ true
is_listed-within [] n m rest e = ap (λ b. b || is_listed rest m) e
is_listed-within (x ∷ ns) n m rest e =
    elim (x == m) as (λ b. (b || is_listed (ns ++ n ∷ rest) m) ≡ true) [ true ↦ refl | false ↦ is_listed-within ns n m rest e ]

-- one that is there and comes again does not
are_distinct-again : (ns : List ℕ) (n : ℕ) (rest : List ℕ) → is_listed ns n ≡ true → are_distinct (ns ++ n ∷ rest) ≡ false
are_distinct-again [] n rest h = absurd (true≢false (sym h))
are_distinct-again (x ∷ ns) n rest h =
    elim (or_cases (x == n) (is_listed ns n) h) [
      | inl e ↦ and_left _ _ (ap not (is_listed-within ns n x rest (turned_round n x ∙ e)))
      | inr later ↦ and_right _ _ (are_distinct-again ns n rest later)
    ]

are_coordinators-again : (ns : List ℕ) (n : ℕ) (rest : List ℕ) → is_listed ns n ≡ true → are_coordinators ((ns ++ n ∷ []) ++ rest) ≡ false
are_coordinators-again [] n rest h = absurd (true≢false (sym h))
are_coordinators-again (x ∷ ns) n rest h = ap are_distinct (append_assoc (x ∷ ns) (n ∷ []) rest) ∙ are_distinct-again (x ∷ ns) n rest h

IsMember-listed : (ns : List ℕ) (n : ℕ) → is_listed ns n ≡ false → IsMember n ns → ⊥
IsMember-listed [] n h m = m
IsMember-listed (x ∷ ns) n h m =
    let apart = neither (x == n) (is_listed ns n) h in
    elim m [ inl e ↦ absurd (true≢false (sym (eq-eqb x n e) ∙ apart.0)) | inr later ↦ IsMember-listed ns n apart.1 later ]

-- distinct by the test are distinct
AreDistinct-tested : (ns : List ℕ) → are_distinct ns ≡ true → AreDistinct ns
AreDistinct-tested [] h = tt
AreDistinct-tested (n ∷ ns) h =
    let parts = and_parts (not (is_listed ns n)) (are_distinct ns) h in
    (IsMember-listed ns n (not-true _ parts.0), AreDistinct-tested ns parts.1)

-- coordinators

are_distinct-coordinators : (ns : List ℕ) → are_coordinators ns ≡ true → are_distinct ns ≡ true
are_distinct-coordinators [] h = absurd (true≢false (sym h))
are_distinct-coordinators (n ∷ ns) h = h

-- the coordinators that are listed are distinct
pub AreDistinct-listed : (ds : List Data) (ns : List ℕ) → Some ns ≡ listed_of ds → AreDistinct ns
AreDistinct-listed ds ns h =
    elim (all_there (map coordinator_of ds)) as (λ o. Some ns ≡ only_if are_coordinators o → AreDistinct ns) [
      | None ↦ λ no. absurd (true≢false (ap is_some no))
      | Some ms ↦ elim (are_coordinators ms) as (λ b. are_coordinators ms ≡ b → Some ns ≡ cond b (Some ms) None → AreDistinct ns) [
        | true ↦ λ e same. subst AreDistinct (sym (ap (λ o. unwrap_or o ns) same)) (AreDistinct-tested ms (are_distinct-coordinators ms e))
        | false ↦ λ e no. absurd (true≢false (ap is_some no))
      ] refl
    ] h

-- what the whole list comes to, if the values before the rest come to these numbers
abbrev pub all_after : List ℕ → List Value → Option (List ℕ)
all_after ns rest = option_map (λ more. ns ++ more) (all_there (map coordinator_of (map view rest)))

-- one value more that is a coordinator's number
pub all_after-more : (ns : List ℕ) (vs : List Value) (i : ℕ) (v : Value) (n : ℕ) → i < length vs → v ≡ get_or vs i v → coordinator_of (view v) ≡ Some n → all_after ns (drop i vs) ≡ all_after (ns ++ n ∷ []) (drop (i + 1) vs)
all_after-more ns vs i v n h e is =
    let rest = all_there (map coordinator_of (map view (drop (i + 1) vs))) in
    ap (all_after ns) (drop_more vs i v h ∙ ap (λ w. w ∷ drop (i + 1) vs) (sym e))
    ∙ ap (λ o. option_map (λ more. ns ++ more) (bind o (λ a. option_map (λ more. a ∷ more) rest))) is
    ∙ elim rest as (λ o. option_map (λ more. ns ++ more) (option_map (λ more. n ∷ more) o) ≡ option_map (λ more. (ns ++ n ∷ []) ++ more) o) [
      | None ↦ refl
      | Some more ↦ ap Some (sym (append_assoc ns (n ∷ []) more))
    ]

-- a number that comes again: no coordinators are listed
pub listed_again : (ns : List ℕ) (vs : List Value) (i : ℕ) (v : Value) (n : ℕ) → all_there (map coordinator_of (map view vs)) ≡ all_after ns (drop i vs) → i < length vs → v ≡ get_or vs i v → coordinator_of (view v) ≡ Some n → is_listed ns n ≡ true → None ≡ listed_of (map view vs)
listed_again ns vs i v n all h e is again =
    sym (ap (only_if are_coordinators) (all ∙ all_after-more ns vs i v n h e is)
    ∙ elim (all_there (map coordinator_of (map view (drop (i + 1) vs)))) as (λ o. only_if are_coordinators (option_map (λ more. (ns ++ n ∷ []) ++ more) o) ≡ None) [
      | None ↦ refl
      | Some more ↦ ap (λ b. cond b (Some ((ns ++ n ∷ []) ++ more)) None) (are_coordinators-again ns n more again)
    ])
