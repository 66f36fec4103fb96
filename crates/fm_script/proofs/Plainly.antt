-- What a line asks for is plain: the coordinators with which a stream begins are distinct, and a step cuts no packet.
use Rattle.std.proofs.Common.{◌≡◌, ℕ, List, Bool, true, false, cond, codes, Option, Some, None, option_map, is_some, not, refl, subst}
use Rattle.std.specs.Prelude.{IfSome}
use Rattle.serde_json.specs.Data.{Data}
use Rattle.serde_json.specs.Find.{get, as_bool, as_str, as_object}
use Rattle.fm_records.specs.Options.{when}
use Rattle.fm_coord.specs.declared.entry.Range.{Range}
use Rattle.fm_script.specs.declared.script.ScriptAct.{ScriptAct}
use Rattle.fm_script.specs.declared.script.ScriptAct.TheVariants as act
use Rattle.fm_script.specs.declared.script.RoundKind.TheVariants.{Share, Relief}
use Rattle.fm_script.specs.declared.script.ScriptStep.{ScriptStep}
use Rattle.fm_question.specs.declared.question.Question.{Question}
use Rattle.fm_script.specs.Json.{bind, whole_number, number_8_at, text_at, has_size, items_at}
use Rattle.fm_script.specs.Script.{is_text, either, op_of, range_of, is_named, delivery_of, round_by, round_of, relief_of, act_of, script_step_of, listed_of, coordinators_of}
use Rattle.fm_script.specs.Requests.{RequestModel, Opens, Does, Cuts, News, OwnNews, Takes, Asks, Agrees, Versions, Renews, question_named, question_of_one, question_of_two, cut_under, cut_asked, when_true, general_asked, alone_of, asked_at, question_asked, own_news_asked, asked_by_three, request_from, CutsNothing, IsPlain}
use Rattle.fm_script.specs.ShareJson.{share_in}
use Rattle.fm_share.specs.Shares.{whole}
use Rattle.fm_script.proofs.Spelling.{AreDistinct-listed}

-- what is there, if anything is, has the property

module _ {B : Type 0} (P : B → Type 0) where
  IfSome-when : (b : Bool) (x : B) → P x → IfSome (when b x) P
  IfSome-when true x h = h
  IfSome-when false x h = tt

  IfSome-cond : (b : Bool) (x y : Option B) → IfSome x P → IfSome y P → IfSome (cond b x y) P
  IfSome-cond true x y h k = h
  IfSome-cond false x y h k = k

  IfSome-given : {A : Type 0} (o : Option A) (f : A → Option B) → ((a : A) → IfSome (f a) P) → IfSome (bind o f) P
  IfSome-given None f each = tt
  IfSome-given (Some a) f each = each a

  IfSome-given_when : {A : Type 0} (b : Bool) (a : A) (f : A → Option B) → IfSome (f a) P → IfSome (bind (when b a) f) P
  IfSome-given_when true a f h = h
  IfSome-given_when false a f h = tt

  IfSome-map : {A : Type 0} (o : Option A) (f : A → B) → ((a : A) → P (f a)) → IfSome (option_map f o) P
  IfSome-map None f each = tt
  IfSome-map (Some a) f each = each a

  IfSome-map_of : {A : Type 0} (o : Option A) (f : A → B) → IfSome o (λ a. P (f a)) → IfSome (option_map f o) P
  IfSome-map_of None f h = tt
  IfSome-map_of (Some a) f h = h

  IfSome-either : (o : Option Data) (f : Data → Option B) (other : Option B) → ((d : Data) → IfSome (f d) P) → IfSome other P → IfSome (either o f other) P
  IfSome-either None f other each rest = rest
  IfSome-either (Some d) f other each rest = each d

-- the step of an act, and if the act cuts nothing
abbrev step_with : ℕ → ScriptAct → ScriptStep
step_with at act = record { at = at; act = act }

abbrev StepCutsNothing : ScriptStep → Type 0
StepCutsNothing step = CutsNothing step.act

IfSome-step : (at : ℕ) (o : Option ScriptAct) → IfSome o CutsNothing → IfSome (bind o (λ act. Some (step_with at act))) StepCutsNothing
IfSome-step at None h = tt
IfSome-step at (Some act) h = h

-- what is beside the number of a coordinator and is no cut

round_by-cuts_nothing : (o : Option Bool) (d : Data) → IfSome (round_by o d) CutsNothing
round_by-cuts_nothing (Some b) d = IfSome-when CutsNothing b (act.Round (Share whole)) tt
round_by-cuts_nothing None d = IfSome-map CutsNothing (share_in d) (λ share. act.Round (Share share)) (λ share. tt)

round-cuts_nothing : (d : Data) → IfSome (round_of d) CutsNothing
round-cuts_nothing d = round_by-cuts_nothing (as_bool d) d

relief-cuts_nothing : (d : Data) → IfSome (relief_of d) CutsNothing
relief-cuts_nothing d = IfSome-given CutsNothing (as_bool d) (λ b. when b (act.Round Relief)) (λ b. IfSome-when CutsNothing b (act.Round Relief) tt)

act-cuts_nothing : (names : List (List ℕ)) (d : Data) → get (codes "cut") d ≡ None → IfSome (act_of names d) CutsNothing
act-cuts_nothing names d none =
    rw none (
    IfSome-either CutsNothing (get (codes "tell") d) (λ v. option_map act.Tell (op_of v)) _ (λ v. IfSome-map CutsNothing (op_of v) act.Tell (λ op. tt)) (
    IfSome-either CutsNothing (get (codes "deliver") d) (delivery_of names) _ (λ v. IfSome-map CutsNothing (as_str v) _ (λ name. tt)) (
    IfSome-either CutsNothing (get (codes "trim") d) (λ v. option_map act.Trim (whole_number v)) _ (λ v. IfSome-map CutsNothing (whole_number v) act.Trim (λ n. tt)) (
    IfSome-either CutsNothing (get (codes "round") d) round_of _ round-cuts_nothing (
    IfSome-either CutsNothing (get (codes "relieve") d) relief_of None relief-cuts_nothing tt)))))

-- a step of the number that an object has
abbrev numbered_step : List (List ℕ) → Data → Option ScriptStep
numbered_step names d = bind (number_8_at (codes "at") d) (λ at. bind (act_of names d) (λ act. Some (step_with at act)))

step-cuts_nothing : (names : List (List ℕ)) (d : Data) → get (codes "cut") d ≡ None → IfSome (script_step_of names d) StepCutsNothing
step-cuts_nothing names d none =
    IfSome-given_when StepCutsNothing (has_size 2 d) d (numbered_step names) (
    IfSome-given StepCutsNothing (number_8_at (codes "at") d) (λ at. bind (act_of names d) (λ act. Some (step_with at act))) (λ at.
    IfSome-step at (act_of names d) (act-cuts_nothing names d none)))

-- what is asked for

cut_under-plain : (names : List (List ℕ)) (at : ℕ) (range : Range) (d : Data) → IfSome (cut_under names at range d) IsPlain
cut_under-plain names at range d =
    IfSome-given IsPlain (as_str d) _ (λ name. IfSome-when IsPlain (not (is_named names name)) (Cuts at range (Some name)) tt)

-- a cut of the range under a name or none
abbrev ranged_cut : List (List ℕ) → ℕ → Data → Range → Option RequestModel
ranged_cut names at d range = either (get (codes "name") d) (cut_under names at range) (Some (Cuts at range None))

cut_asked-plain : (names : List (List ℕ)) (at : ℕ) (d : Data) → IfSome (cut_asked names at d) IsPlain
cut_asked-plain names at d =
    IfSome-given_when IsPlain (is_some (as_object d)) d (λ d. bind (range_of d) (ranged_cut names at d)) (
    IfSome-given IsPlain (range_of d) (ranged_cut names at d) (λ range.
    IfSome-either IsPlain (get (codes "name") d) (cut_under names at range) (Some (Cuts at range None)) (cut_under-plain names at range) tt))

when_true-plain : (asked : RequestModel) → IsPlain asked → (d : Data) → IfSome (when_true asked d) IsPlain
when_true-plain asked h d = IfSome-given IsPlain (as_bool d) _ (λ b. IfSome-when IsPlain b asked h)

general_asked-plain : (d : Data) → IfSome (general_asked d) IsPlain
general_asked-plain d =
    IfSome-given IsPlain (as_str d) _ (λ word.
    IfSome-cond IsPlain (is_text word (codes "agree")) (Some Agrees) (when (is_text word (codes "version")) Versions) tt (
    IfSome-when IsPlain (is_text word (codes "version")) Versions tt))

listed-plain : (ds : List Data) → IfSome (option_map Opens (listed_of ds)) IsPlain
listed-plain ds =
    elim (listed_of ds) as (λ o. o ≡ listed_of ds → IfSome (option_map Opens o) IsPlain) [
      | None ↦ λ _. tt
      | Some ns ↦ λ e. AreDistinct-listed ds ns e
    ] refl

opens-plain : (d : Data) → IfSome (option_map Opens (coordinators_of d)) IsPlain
opens-plain d =
    elim (items_at (codes "coordinators") d) as (λ o. IfSome (option_map Opens (bind o listed_of)) IsPlain) [
      | None ↦ tt
      | Some ds ↦ listed-plain ds
    ]

alone-plain : (d : Data) → IfSome (alone_of d) IsPlain
alone-plain d =
    IfSome-either IsPlain (get (codes "coordinators") d) (λ v. option_map Opens (coordinators_of d)) _ (λ v. opens-plain d) (
    IfSome-either IsPlain (get (codes "renew") d) (when_true Renews) _ (when_true-plain Renews tt) (
    IfSome-either IsPlain (get (codes "ask") d) general_asked None general_asked-plain tt))

-- what is asked of a coordinator by no cut
abbrev but_cut : List (List ℕ) → ℕ → Data → Option RequestModel
but_cut names at d =
    either (get (codes "news") d) (when_true (News at)) (
    either (get (codes "take") d) (λ v. option_map (Takes at) (as_str v)) (
    either (get (codes "ask") d) (λ v. option_map (Asks at) (bind (as_str v) question_named)) (
    option_map Does (script_step_of names d))))

but_cut-plain : (names : List (List ℕ)) (at : ℕ) (d : Data) → get (codes "cut") d ≡ None → IfSome (but_cut names at d) IsPlain
but_cut-plain names at d none =
    IfSome-either IsPlain (get (codes "news") d) (when_true (News at)) _ (when_true-plain (News at) tt) (
    IfSome-either IsPlain (get (codes "take") d) (λ v. option_map (Takes at) (as_str v)) _ (λ v. IfSome-map IsPlain (as_str v) (Takes at) (λ digits. tt)) (
    IfSome-either IsPlain (get (codes "ask") d) (λ v. option_map (Asks at) (bind (as_str v) question_named)) _ (λ v. IfSome-map IsPlain (bind (as_str v) question_named) (Asks at) (λ question. tt)) (
    IfSome-map_of IsPlain (script_step_of names d) Does (step-cuts_nothing names d none))))

asked_at-plain : (names : List (List ℕ)) (at : ℕ) (d : Data) → IfSome (asked_at names at d) IsPlain
asked_at-plain names at d =
    elim (get (codes "cut") d) as (λ o. get (codes "cut") d ≡ o → IfSome (either o (cut_asked names at) (but_cut names at d)) IsPlain) [
      | None ↦ λ none. but_cut-plain names at d none
      | Some v ↦ λ _. cut_asked-plain names at v
    ] refl

-- what the coordinator is asked for whose number an object has
abbrev numbered_asked : List (List ℕ) → Data → Option RequestModel
numbered_asked names d = bind (number_8_at (codes "at") d) (λ at. asked_at names at d)

-- a question that needs more than its word
question-plain : (question_of : List ℕ → Data → Option Question) (d : Data) → IfSome (question_asked question_of d) IsPlain
question-plain question_of d =
    IfSome-given IsPlain (number_8_at (codes "at") d) _ (λ at.
    IfSome-given IsPlain (text_at (codes "ask") d) _ (λ word.
    IfSome-map IsPlain (question_of word d) (Asks at) (λ question. tt)))

-- a coordinator's own news
own_news-plain : (d news : Data) → IfSome (own_news_asked d news) IsPlain
own_news-plain d news =
    IfSome-given IsPlain (number_8_at (codes "at") d) _ (λ at.
    IfSome-given IsPlain (as_bool news) _ (λ wanted.
    IfSome-given_when IsPlain wanted d _ (
    IfSome-given IsPlain (get (codes "mine") d) (when_true (OwnNews at)) (when_true-plain (OwnNews at) tt))))

-- of three members
three-plain : (d : Data) → IfSome (asked_by_three d) IsPlain
three-plain d = IfSome-either IsPlain (get (codes "news") d) (own_news_asked d) (question_asked question_of_one d) (own_news-plain d) (question-plain question_of_one d)

-- of two members
abbrev paired : List (List ℕ) → Data → Option RequestModel
paired names d = bind (when (has_size 2 d) d) (numbered_asked names)

paired-plain : (names : List (List ℕ)) (d : Data) → IfSome (paired names d) IsPlain
paired-plain names d =
    IfSome-given_when IsPlain (has_size 2 d) d (numbered_asked names) (
    IfSome-given IsPlain (number_8_at (codes "at") d) (λ at. asked_at names at d) (λ at. asked_at-plain names at d))

request-plain : (names : List (List ℕ)) (d : Data) → IfSome (request_from names d) IsPlain
request-plain names d =
    IfSome-cond IsPlain (has_size 1 d) (alone_of d) _ (alone-plain d) (
    IfSome-cond IsPlain (has_size 3 d) (asked_by_three d) _ (three-plain d) (
    IfSome-cond IsPlain (has_size 4 d) (question_asked question_of_two d) (paired names d) (question-plain question_of_two d) (
    paired-plain names d)))

-- what a value asks for is plain
pub IsPlain-asked : (names : List (List ℕ)) (d : Data) (asked : RequestModel) → request_from names d ≡ Some asked → IsPlain asked
IsPlain-asked names d asked e = subst (λ o. IfSome o IsPlain) e (request-plain names d)
