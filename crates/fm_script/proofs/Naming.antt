-- Names in a list, and a list of names as the keys of a map.
use Rattle.std.proofs.Common.{◌≡◌, ℕ, suc, ◌+◌, ◌≤◌, List, [], ◌∷◌, ◌++◌, Bool, true, false, cond, not, ◌||◌, if◌then◌else◌, nat_lt, length, map, position, codes, string_bytes, String, Global, Some, None, is_some, unwrap_or, refl, sym, ap, ◌∙◌, arith}
use Rattle.std.specs.List.{list_any, position_or_len}
use Rattle.std.specs.Map.{lookup, keys_of}
use Rattle.std.specs.String.{string_eq}
use Rattle.indexmap.specs.IndexMap.{insert_entry}
use Rattle.serde_json.specs.Data.{Data}
use Rattle.serde_json.specs.Find.{as_str}
use Rattle.fm_records.specs.Options.{when}
use Rattle.fm_coord.specs.declared.entry.Range.{Range}
use Rattle.fm_script.specs.declared.script.ScriptAct.TheVariants.{Cut}
use Rattle.fm_script.specs.Json.{bind, text_at}
use Rattle.fm_script.specs.Script.{is_text, is_named, range_of, cut_of}
use Rattle.fm_script.specs.Requests.{Cuts, cut_under}

module _ {X : Type 0} (p : X → Bool) where
  -- an item that passes has its place within the list
  place_within : (xs : List X) → nat_lt (position_or_len p xs) (length xs) ≡ list_any p xs
  place_within [] = refl
  place_within (x ∷ xs) =
      elim (p x) as (λ b. nat_lt (cond (not b) (1 + position_or_len p xs) 0) (suc (length xs)) ≡ (b || list_any p xs)) [
        | true ↦ grind arith
        | false ↦ grind (arith, place_within xs)
      ]

  -- if an item passes there is a place
  pub is_some-position : (xs : List X) → is_some (position p xs) ≡ list_any p xs
  is_some-position xs =
      elim (nat_lt (position_or_len p xs) (length xs)) as (λ b. is_some (cond b (Some (position_or_len p xs)) None) ≡ b) [ true ↦ refl | false ↦ refl ]
      ∙ place_within xs

  place_at_most : (xs : List X) → position_or_len p xs ≤ length xs
  place_at_most [] = omega arith
  place_at_most (x ∷ xs) =
      elim (p x) as (λ b. cond (not b) (1 + position_or_len p xs) 0 ≤ suc (length xs)) [ true ↦ omega arith | false ↦ omega (arith, place_at_most xs) ]

  -- the place, or after all
  pub unwrap_or-position : (xs : List X) → unwrap_or (position p xs) (length xs) ≡ position_or_len p xs
  unwrap_or-position xs =
      let most = place_at_most xs in
      elim (nat_lt (position_or_len p xs) (length xs)) as (λ b. nat_lt (position_or_len p xs) (length xs) ≡ b → unwrap_or (cond b (Some (position_or_len p xs)) None) (length xs) ≡ position_or_len p xs) [
        | true ↦ λ _. refl
        | false ↦ λ e. grind arith
      ] refl

-- the texts of a map's keys
abbrev pub Keyed : Type 0
Keyed = List (String Global × Unit {0})

abbrev pub texts : Keyed → List (List ℕ)
texts es = map (λ e. string_bytes e.0) es

module _ (test : List ℕ → Bool) where
  place_of_text : (es : Keyed) → position_or_len (λ k. test (string_bytes k)) (keys_of es) ≡ position_or_len test (texts es)
  place_of_text [] = refl
  place_of_text (e ∷ es) = ap (λ n. cond (not (test (string_bytes e.0))) (1 + n) 0) (place_of_text es)

  length_of_texts : (es : Keyed) → length (keys_of es) ≡ length (texts es)
  length_of_texts [] = refl
  length_of_texts (e ∷ es) = ap suc (length_of_texts es)

  -- a key's place is that of its text
  pub position-texts : (es : Keyed) → position (λ k. test (string_bytes k)) (keys_of es) ≡ position test (texts es)
  position-texts es =
      let n = place_of_text es in let m = length_of_texts es in
      λ i. cond (nat_lt (n i) (m i)) (Some (n i)) None

  -- a look-up finds a text that a key has
  pub is_some-lookup : (es : Keyed) → is_some (lookup (λ k. test (string_bytes k)) es) ≡ list_any test (texts es)
  is_some-lookup [] = refl
  is_some-lookup (e ∷ es) =
      elim (test (string_bytes e.0)) as (λ b. is_some (cond b (Some e.1) (lookup (λ k. test (string_bytes k)) es)) ≡ (b || list_any test (texts es))) [ true ↦ refl | false ↦ is_some-lookup es ]

-- the one is what the other is not
pub not-turned : (a b : Bool) → a ≡ not b → b ≡ not a
not-turned a true h = ap not (sym h)
not-turned a false h = ap not (sym h)

-- the texts once a key is inserted
pub texts-insert_entry : (k : String Global) (es : Keyed) → texts (insert_entry string_eq es k tt) ≡ (if is_named (texts es) (string_bytes k) then texts es else texts es ++ string_bytes k ∷ [])
texts-insert_entry k [] = refl
texts-insert_entry k (e ∷ es) =
    elim (string_eq k e.0) as (λ b. texts (if b then (e.0, tt) ∷ es else e ∷ insert_entry string_eq es k tt) ≡ (if (b || is_named (texts es) (string_bytes k)) then texts (e ∷ es) else texts (e ∷ es) ++ string_bytes k ∷ [])) [
      | true ↦ refl
      | false ↦ ap (λ ts. string_bytes e.0 ∷ ts) (texts-insert_entry k es)
          ∙ elim (is_named (texts es) (string_bytes k)) as (λ b. (string_bytes e.0 ∷ (if b then texts es else texts es ++ string_bytes k ∷ [])) ≡ (if b then texts (e ∷ es) else texts (e ∷ es) ++ string_bytes k ∷ [])) [ true ↦ refl | false ↦ refl ]
    ]

-- what a cut of a name and a range comes to
pub cut_of-parts : (names : List (List ℕ)) (d : Data) (name : List ℕ) (range : Range) (placed : Bool) → Some name ≡ text_at (codes "name") d → Some range ≡ range_of d → placed ≡ is_some (position (is_text name) names) → when (not placed) (Cut range) ≡ cut_of names d
cut_of-parts names d name range placed named ranged there =
    ap (λ b. when (not b) (Cut range)) (there ∙ is_some-position (is_text name) names)
    ∙ (λ i. bind (named i) (λ name. bind (ranged i) (λ range. when (not (is_named names name)) (Cut range))))

-- what a cut under the name that a value is comes to
pub cut_under-parts : (names : List (List ℕ)) (at : ℕ) (range : Range) (d : Data) (name : List ℕ) (placed : Bool) → Some name ≡ as_str d → placed ≡ is_some (position (is_text name) names) → when (not placed) (Cuts at range (Some name)) ≡ cut_under names at range d
cut_under-parts names at range d name placed named there =
    ap (λ b. when (not b) (Cuts at range (Some name))) (there ∙ is_some-position (is_text name) names)
    ∙ ap (λ o. bind o (λ name. when (not (is_named names name)) (Cuts at range (Some name)))) named
