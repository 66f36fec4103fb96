-- A script has no fault of form, and its first fault is that of the steps that are read from it.
use Rattle.std.proofs.Common.{◌≡◌, ℕ, ◌+◌, List, [], ◌∷◌, ◌++◌, length, map, Bool, true, false, cond, not, codes, Option, Some, None, is_some, is_none, option_map, unwrap_or, refl, sym, ap, ◌∙◌, true≢false, subst}
use Rattle.std.specs.Prelude.{◌↔◌, IfSome}
use Rattle.std.specs.Option.{option_or, option_to_list}
use Rattle.std.specs.List.{flat_map}
use Rattle.std.proofs.lemmas.List.{length-append}
use Rattle.serde_json.specs.Data.{Data}
use Rattle.serde_json.specs.Find.{get, as_bool, as_str}
use Rattle.fm_records.specs.Options.{when}
use Rattle.fm_coord.specs.declared.entry.Range.{Range}
use Rattle.fm_script.specs.declared.script.ScriptAct.{ScriptAct}
use Rattle.fm_script.specs.declared.script.ScriptAct.TheVariants as act
use Rattle.fm_script.specs.declared.script.RoundKind.TheVariants.{Share, Relief}
use Rattle.fm_script.specs.declared.script.ScriptStep.{ScriptStep}
use Rattle.fm_script.specs.declared.script_fault.ScriptFault.TheVariants as script
use Rattle.fm_script.specs.Json.{bind, either, whole_number, number_8_at, text_at, has_size, items_at}
use Rattle.fm_script.specs.ShareJson.{share_in}
use Rattle.fm_share.specs.Shares.{whole}
use Rattle.fm_script.specs.Script.{op_of, range_of, is_named, cut_of, delivery_of, round_by, round_of, relief_of, act_of, script_step_of, names_in, steps_of, coordinators_of, IsScriptOf}
use Rattle.fm_script.specs.ScriptFaults.{step_form, step_refused, refused_of, first_at_fault, steps_form, form_fault, asking_fault, value_fault, cuts_of_act, first_asking, IsScript}
use Rattle.fm_script.proofs.Faults.{told-step, form-next}

-- ---- the names that a step gives are as many as its cuts

abbrev Cuts : ℕ → Option ScriptAct → Type 0
Cuts n o = IfSome o (λ a. n ≡ cuts_of_act a)

cuts-either : (n : ℕ) (o : Option Data) (f : Data → Option ScriptAct) (other : Option ScriptAct) → ((v : Data) → Cuts n (f v)) → Cuts n other → Cuts n (either o f other)
cuts-either n None f other each rest = rest
cuts-either n (Some v) f other each rest = each v

cuts-map : {A : Type 0} (n : ℕ) (o : Option A) (f : A → ScriptAct) → ((a : A) → n ≡ cuts_of_act (f a)) → Cuts n (option_map f o)
cuts-map n None f each = tt
cuts-map n (Some a) f each = each a

cuts-when : (n : ℕ) (b : Bool) (a : ScriptAct) → n ≡ cuts_of_act a → Cuts n (when b a)
cuts-when n true a h = h
cuts-when n false a h = tt

cuts-round : (o : Option Bool) (d : Data) → Cuts 0 (round_by o d)
cuts-round (Some b) d = cuts-when 0 b (act.Round (Share whole)) refl
cuts-round None d = cuts-map 0 (share_in d) (λ share. act.Round (Share share)) (λ share. refl)

cuts-relief : (o : Option Bool) → Cuts 0 (bind o (λ b. when b (act.Round Relief)))
cuts-relief None = tt
cuts-relief (Some b) = cuts-when 0 b (act.Round Relief) refl

cuts-cut : (names : List (List ℕ)) (t : Option (List ℕ)) (r : Option Range) → Cuts (length (option_to_list t)) (bind t (λ name. bind r (λ range. when (not (is_named names name)) (act.Cut range))))
cuts-cut names None r = tt
cuts-cut names (Some name) None = tt
cuts-cut names (Some name) (Some range) = cuts-when 1 (not (is_named names name)) (act.Cut range) refl

-- what happens in a step that is no cut
abbrev act_but_cut : List (List ℕ) → Data → Option ScriptAct
act_but_cut names d =
    either (get (codes "tell") d) (λ v. option_map act.Tell (op_of v)) (
    either (get (codes "deliver") d) (delivery_of names) (
    either (get (codes "trim") d) (λ v. option_map act.Trim (whole_number v)) (
    either (get (codes "round") d) round_of (
    either (get (codes "relieve") d) relief_of None))))

cuts-none : (names : List (List ℕ)) (d : Data) → Cuts 0 (act_but_cut names d)
cuts-none names d =
    cuts-either 0 (get (codes "tell") d) (λ v. option_map act.Tell (op_of v)) _ (λ v. cuts-map 0 (op_of v) act.Tell (λ op. refl)) (
    cuts-either 0 (get (codes "deliver") d) (delivery_of names) _ (λ v. cuts-map 0 (as_str v) _ (λ name. refl)) (
    cuts-either 0 (get (codes "trim") d) (λ v. option_map act.Trim (whole_number v)) _ (λ v. cuts-map 0 (whole_number v) act.Trim (λ n. refl)) (
    cuts-either 0 (get (codes "round") d) round_of _ (λ v. cuts-round (as_bool v) v) (
    cuts-either 0 (get (codes "relieve") d) relief_of None (λ v. cuts-relief (as_bool v)) tt))))

cuts-act : (names : List (List ℕ)) (d : Data) → Cuts (length (names_in d)) (act_of names d)
cuts-act names d =
    elim (get (codes "cut") d) as (λ o. Cuts (length (option_to_list (bind o (text_at (codes "name"))))) (either o (cut_of names) (act_but_cut names d))) [
      | None ↦ cuts-none names d
      | Some v ↦ cuts-cut names (text_at (codes "name") v) (range_of v)
    ]

abbrev step_with : ℕ → ScriptAct → ScriptStep
step_with at act = record { at = at; act = act }

abbrev CutsIn : ℕ → Option ScriptStep → Type 0
CutsIn n o = IfSome o (λ s. n ≡ cuts_of_act s.act)

cuts-sized : (n : ℕ) (b : Bool) (d : Data) (f : Data → Option ScriptStep) → CutsIn n (f d) → CutsIn n (bind (when b d) f)
cuts-sized n false d f h = tt
cuts-sized n true d f h = h

cuts-made : (n : ℕ) (at : Option ℕ) (o : Option ScriptAct) → Cuts n o → CutsIn n (bind at (λ at. bind o (λ act. Some (step_with at act))))
cuts-made n None o h = tt
cuts-made n (Some at) None h = tt
cuts-made n (Some at) (Some a) h = h

-- a step by its members
abbrev numbered_step : List (List ℕ) → Data → Option ScriptStep
numbered_step names d = bind (number_8_at (codes "at") d) (λ at. bind (act_of names d) (λ act. Some (step_with at act)))

cuts-named : (names : List (List ℕ)) (d : Data) → CutsIn (length (names_in d)) (script_step_of names d)
cuts-named names d =
    cuts-sized (length (names_in d)) (has_size 2 d) d (numbered_step names) (cuts-made (length (names_in d)) (number_8_at (codes "at") d) (act_of names d) (cuts-act names d))

cuts-there : (names : List (List ℕ)) (d : Data) (s : ScriptStep) → script_step_of names d ≡ Some s → length (names_in d) ≡ cuts_of_act s.act
cuts-there names d s h = subst (CutsIn (length (names_in d))) h (cuts-named names d)

-- ---- lists of values that are steps

abbrev head_or : {X : Type 0} → X → List X → X
head_or x [] = x
head_or x (y ∷ ys) = y

abbrev tail_of : {X : Type 0} → List X → List X
tail_of [] = []
tail_of (y ∷ ys) = ys

abbrev is_cons : {X : Type 0} → List X → Bool
is_cons [] = false
is_cons (y ∷ ys) = true

-- none of them has a fault of form
all-formed : (names : List (List ℕ)) (place : ℕ) (ds : List Data) (steps : List ScriptStep) → steps_of names ds ≡ map Some steps → first_at_fault step_form names place ds ≡ None
all-formed names place [] steps h = refl
all-formed names place (d ∷ ds) [] h = absurd (true≢false (ap is_cons h))
all-formed names place (d ∷ ds) (s ∷ steps) h =
    form-next names place d ds s (sym (ap (head_or None) h)) ∙ all-formed (names ++ names_in d) (place + 1) ds steps (ap tail_of h)

-- what they ask for is what the steps ask for
all-asking : (listed : List ℕ) (names : List (List ℕ)) (place : ℕ) (ds : List Data) (steps : List ScriptStep) → steps_of names ds ≡ map Some steps
    → first_at_fault (refused_of listed) names place ds ≡ first_asking listed (length names) place steps
all-asking listed names place [] [] h = refl
all-asking listed names place [] (s ∷ steps) h = absurd (true≢false (sym (ap is_cons h)))
all-asking listed names place (d ∷ ds) [] h = absurd (true≢false (ap is_cons h))
all-asking listed names place (d ∷ ds) (s ∷ steps) h =
    let here : script_step_of names d ≡ Some s = ap (head_or None) h in
    let cuts : length (names ++ names_in d) ≡ length names + cuts_of_act s.act = length-append names (names_in d) ∙ ap (λ n. length names + n) (cuts-there names d s here) in
    let later = all-asking listed (names ++ names_in d) (place + 1) ds steps (ap tail_of h) ∙ ap (λ n. first_asking listed n (place + 1) steps) cuts in
    ap (λ o. option_or (option_map (script.Step place) (bind o (step_refused listed (length names)))) (first_at_fault (refused_of listed) (names ++ names_in d) (place + 1) ds)) here
    ∙ ap (option_or (option_map (script.Step place) (step_refused listed (length names) s))) later

-- where no value has a fault of form, each is a step
steps-there : (names : List (List ℕ)) (place : ℕ) (ds : List Data) → first_at_fault step_form names place ds ≡ None → (steps : List ScriptStep) × (steps_of names ds ≡ map Some steps)
steps-there names place [] h = ([], refl)
steps-there names place (d ∷ ds) h =
    let later = first_at_fault step_form (names ++ names_in d) (place + 1) ds in
    elim (step_form names d) as (λ o. is_none o ≡ is_some (script_step_of names d) → option_or (option_map (script.Step place) o) later ≡ None → (steps : List ScriptStep) × (steps_of names (d ∷ ds) ≡ map Some steps)) [
      | None ↦ λ e none.
          let rest = steps-there (names ++ names_in d) (place + 1) ds none in
          elim (script_step_of names d) as (λ o. script_step_of names d ≡ o → true ≡ is_some o → (steps : List ScriptStep) × (steps_of names (d ∷ ds) ≡ map Some steps)) [
            | None ↦ λ _ no. absurd (true≢false no)
            | Some s ↦ λ here _. (s ∷ rest.0, (λ i. here i ∷ rest.1 i))
          ] refl e
      | Some k ↦ λ e no. absurd (true≢false (ap is_some no))
    ] (told-step names d) h

-- ---- the whole

module _ (d : Data) where
  formed-of : (listed : List ℕ) (names : List (List ℕ)) (steps : List ScriptStep) → IsScriptOf d listed names steps → form_fault d ≡ None
  formed-of listed names steps h =
      ap (λ o. cond (is_none o) (Some script.Coordinators) (steps_form (items_at (codes "steps") d))) h.coordinators_listed
      ∙ elim (items_at (codes "steps") d) as (λ o. option_map (steps_of []) o ≡ Some (map Some steps) → steps_form o ≡ None) [
        | None ↦ λ no. absurd (true≢false (sym (ap is_some no)))
        | Some ds ↦ λ e. all-formed [] 1 ds steps (ap (λ o. unwrap_or o []) e)
      ] h.steps_listed

  spelled : (c : Option (List ℕ)) (o : Option (List Data)) → coordinators_of d ≡ c → items_at (codes "steps") d ≡ o → cond (is_none c) (Some script.Coordinators) (steps_form o) ≡ None → IsScript d
  spelled None o at is never = absurd (true≢false (ap is_some never))
  spelled (Some listed) None at is never = absurd (true≢false (ap is_some never))
  spelled (Some listed) (Some ds) at is none =
      let steps = steps-there [] 1 ds none in (
        listed,
        flat_map names_in ds,
        steps.0,
        record {
          coordinators_listed = at;
          names_given = ap (option_map (flat_map names_in)) is;
          steps_listed = ap (option_map (steps_of [])) is ∙ ap (λ os. Some os) steps.1;
        },
      )

  -- a script has no fault of form, and only a script has none
  pub form-script : form_fault d ≡ None ↔ IsScript d
  form-script = (spelled (coordinators_of d) (items_at (codes "steps") d) refl refl, λ h. formed-of h.0 h.1 h.2 h.3)

  -- the first fault of a script is that of its steps
  pub value-asking : (listed : List ℕ) (names : List (List ℕ)) (steps : List ScriptStep) → IsScriptOf d listed names steps → value_fault d ≡ first_asking listed 0 1 steps
  value-asking listed names steps h =
      ap (λ o. option_or o (asking_fault (coordinators_of d) (items_at (codes "steps") d))) (formed-of listed names steps h)
      ∙ ap (λ o. asking_fault o (items_at (codes "steps") d)) h.coordinators_listed
      ∙ elim (items_at (codes "steps") d) as (λ o. option_map (steps_of []) o ≡ Some (map Some steps) → asking_fault (Some listed) o ≡ first_asking listed 0 1 steps) [
        | None ↦ λ no. absurd (true≢false (sym (ap is_some no)))
        | Some ds ↦ λ e. all-asking listed [] 1 ds steps (ap (λ o. unwrap_or o []) e)
      ] h.steps_listed
