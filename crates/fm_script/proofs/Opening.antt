-- The coordinators with which a script begins, one after another.
use Rattle.std.proofs.Common.{◌≡◌, ◌<◌, ◌≤◌, ◌+◌, ℕ, List, [], ◌∷◌, ◌++◌, length, map, take, get_or, sym, ap, ◌∙◌, subst}
use Rattle.std.proofs.lemmas.List.{map-append, take_more, take_all}
use Rattle.fm_coord.specs.States.{WithKeeper, new_state}
use Rattle.fm_world.specs.Represents.{number_of, opening_of, AreUnused}
use Rattle.fm_script.specs.Openings.{history_limit}

abbrev pub limited : ℕ → ℕ × ℕ
limited n = (n, history_limit)

unused-append : {N : Type 0} (cs : List (WithKeeper N)) (c : WithKeeper N) → AreUnused cs → c.state.history ≡ [] → AreUnused (cs ++ c ∷ [])
unused-append [] c h e = (e, tt)
unused-append (d ∷ cs) c h e = (h.0, unused-append cs c h.1 e)

module _ {N : Type 0} (cs : List (WithKeeper N)) (c : WithKeeper N) (more : List (WithKeeper N)) (listed : List ℕ) (i n : ℕ) (lt : i < length listed) (is : n ≡ get_or listed i n) (grown : more ≡ cs ++ c ∷ []) (new : c.state ≡ new_state n history_limit) where
  listed_more : take (i + 1) listed ≡ take i listed ++ n ∷ []
  listed_more = take_more listed i n lt ∙ ap (λ m. take i listed ++ m ∷ []) (sym is)

  pub numbers_more : map number_of cs ≡ take i listed → map number_of more ≡ take (i + 1) listed
  numbers_more h = ap (map number_of) grown ∙ map-append number_of cs (c ∷ []) ∙ (λ j. h j ++ (new j).number ∷ []) ∙ sym listed_more

  pub openings_more : map opening_of cs ≡ map limited (take i listed) → map opening_of more ≡ map limited (take (i + 1) listed)
  openings_more h =
      ap (map opening_of) grown ∙ map-append opening_of cs (c ∷ []) ∙ (λ j. h j ++ ((new j).number, (new j).limit) ∷ [])
      ∙ sym (map-append limited (take i listed) (n ∷ [])) ∙ ap (map limited) (sym listed_more)

  pub unused_more : AreUnused cs → AreUnused more
  unused_more h = subst AreUnused (sym grown) (unused-append cs c h (ap (λ s. s.history) new))

-- all of the list
pub all_taken : (listed : List ℕ) (n : ℕ) → length listed ≤ n → take n listed ≡ listed
all_taken listed n h = take_all n listed h
