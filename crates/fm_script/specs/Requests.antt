-- What a line of a stream asks for, by the JSON value that it spells (this project's profile).
use Rattle.std.specs.Prelude.{◌≡◌, ◌⊎◌, ℕ, List, not, cond, codes, string_bytes, Option, Some, None, is_some, option_map, IsUtf8}
use Rattle.serde_json.specs.Data.{Data}
use Rattle.serde_json.specs.Find.{get, as_bool, as_str, as_object}
use Rattle.serde_json.specs.Read.{read as read_text}
use Rattle.fm_records.specs.declared.refusal.Refusal.{Refusal}
use Rattle.fm_records.specs.declared.refusal.Refusal.TheVariants.{OutOfMemory, BadScript}
use Rattle.fm_records.specs.Options.{when}
use Rattle.fm_coord.specs.declared.entry.Range.{Range}
use Rattle.fm_coord.specs.Numbers.{AreDistinct}
use Rattle.fm_script.specs.declared.script.ScriptAct.{ScriptAct}
use Rattle.fm_script.specs.declared.script.ScriptAct.TheVariants as act
use Rattle.fm_script.specs.declared.script.ScriptStep.{ScriptStep}
use Rattle.fm_question.specs.declared.question.Question.{Question}
use Rattle.fm_question.specs.declared.question.Question.TheVariants as question
use Rattle.fm_question.specs.declared.question.Listing.{Listing}
use Rattle.fm_question.specs.declared.question.Listing.TheVariants as listing
use Rattle.fm_question.specs.declared.question.Subject.{Subject}
use Rattle.fm_question.specs.declared.question.Subject.TheVariants as subject
use Rattle.fm_script.specs.declared.request.Request.{Request}
use Rattle.fm_script.specs.declared.request.Request.TheVariants as request
use Rattle.fm_script.specs.Json.{bind, number_at, number_8_at, text_at, id_at, has_size}
use Rattle.fm_script.specs.Script.{is_text, either, range_of, is_named, script_step_of, coordinators_of}

-- what a line asks for, with texts as the bytes that they are
pub data RequestModel : Type 0 where
  Opens : (listed : List ℕ) → RequestModel
  Does : (step : ScriptStep) → RequestModel
  Cuts : (at : ℕ) (range : Range) (name : Option (List ℕ)) → RequestModel
  News : (at : ℕ) → RequestModel
  OwnNews : (at : ℕ) → RequestModel
  Takes : (at : ℕ) (digits : List ℕ) → RequestModel
  Asks : (at : ℕ) (question : Question) → RequestModel
  Agrees : RequestModel
  Versions : RequestModel
  Renews : RequestModel

abbrev pub request_model : Request → RequestModel
request_model (request.Open listed) = Opens listed.items
request_model (request.Do step) = Does step
request_model (request.Cut at range name) = Cuts at range (option_map string_bytes name)
request_model (request.News at) = News at
request_model (request.OwnNews at) = OwnNews at
request_model (request.Take at digits) = Takes at (string_bytes digits)
request_model (request.Ask at question) = Asks at question
request_model request.Agree = Agrees
request_model request.Version = Versions
request_model request.Renew = Renews

-- a question that needs nothing beside its word; without a kind, all records are listed
abbrev pub question_named : List ℕ → Option Question
question_named word =
    cond (is_text word (codes "graph")) (Some question.Graph) (
    cond (is_text word (codes "solve")) (Some question.Solve) (
    cond (is_text word (codes "plan")) (Some question.Plan) (
    cond (is_text word (codes "winners")) (Some question.Winners) (
    cond (is_text word (codes "stops")) (Some question.Stops) (
    cond (is_text word (codes "end")) (Some question.End) (
    cond (is_text word (codes "size")) (Some question.Size) (
    cond (is_text word (codes "over")) (Some question.Over) (
    when (is_text word (codes "list")) (question.List listing.All)))))))))

-- the records of a kind, by its name
abbrev pub listing_named : List ℕ → Option Listing
listing_named kind =
    cond (is_text kind (codes "jobs")) (Some listing.Jobs) (
    cond (is_text kind (codes "machines")) (Some listing.Machines) (
    cond (is_text kind (codes "tasks")) (Some listing.Tasks) (
    when (is_text kind (codes "waiting")) listing.Waiting)))

-- a job or a task, by its id
abbrev pub job_or_task_in : Data → Option Subject
job_or_task_in d =
    cond (is_some (get (codes "job") d)) (option_map subject.Job (id_at (codes "job") d))
    (option_map subject.Task (id_at (codes "task") d))

-- a machine at an incarnation
abbrev pub machine_in : Data → Option Subject
machine_in d = bind (id_at (codes "machine") d) (λ id. option_map (subject.Machine id) (number_at (codes "incarnation") d))

-- a question that needs one member beside its word: the id of a task, the kind of a list, or the id of a job or a task
abbrev pub question_of_one : List ℕ → Data → Option Question
question_of_one word d =
    cond (is_text word (codes "why")) (option_map question.Why (id_at (codes "task") d)) (
    cond (is_text word (codes "list")) (option_map question.List (bind (text_at (codes "of") d) listing_named)) (
    cond (is_text word (codes "next")) (option_map question.Next (job_or_task_in d)) None))

-- a question that needs two members beside its word: a machine and its incarnation
abbrev pub question_of_two : List ℕ → Data → Option Question
question_of_two word d = cond (is_text word (codes "next")) (option_map question.Next (machine_in d)) None

-- a cut under the name that a value is, which no packet before has
abbrev pub cut_under : List (List ℕ) → ℕ → Range → Data → Option RequestModel
cut_under names at range v =
    bind (as_str v) (λ name.
    when (not (is_named names name)) (Cuts at range (Some name)))

-- a cut: an object with both ends of an interval or neither, and with a name that no packet before has, or with none
abbrev pub cut_asked : List (List ℕ) → ℕ → Data → Option RequestModel
cut_asked names at d =
    bind (when (is_some (as_object d)) d) (λ d.
    bind (range_of d) (λ range.
    either (get (codes "name") d) (cut_under names at range) (Some (Cuts at range None))))

-- what is asked for by true
abbrev pub when_true : RequestModel → Data → Option RequestModel
when_true asked d = bind (as_bool d) (λ b. when b asked)

-- a question to no coordinator: whether all of them know the same, or the version of the program
abbrev pub general_asked : Data → Option RequestModel
general_asked d =
    bind (as_str d) (λ word.
    cond (is_text word (codes "agree")) (Some Agrees) (
    when (is_text word (codes "version")) Versions))

-- an object of one member
abbrev pub alone_of : Data → Option RequestModel
alone_of d =
    either (get (codes "coordinators") d) (λ v. option_map Opens (coordinators_of d)) (
    either (get (codes "renew") d) (when_true Renews) (
    either (get (codes "ask") d) general_asked None))

-- an object of two members, the number of a coordinator and what it is asked for
-- what is none of these is a step as in a script
abbrev pub asked_at : List (List ℕ) → ℕ → Data → Option RequestModel
asked_at names at d =
    either (get (codes "cut") d) (cut_asked names at) (
    either (get (codes "news") d) (when_true (News at)) (
    either (get (codes "take") d) (λ v. option_map (Takes at) (as_str v)) (
    either (get (codes "ask") d) (λ v. option_map (Asks at) (bind (as_str v) question_named)) (
    option_map Does (script_step_of names d)))))

-- an object of more than two members: the number of a coordinator, the word of a question, and what that needs
abbrev pub question_asked : (List ℕ → Data → Option Question) → Data → Option RequestModel
question_asked question_of d =
    bind (number_8_at (codes "at") d) (λ at.
    bind (text_at (codes "ask") d) (λ word.
    option_map (Asks at) (question_of word d)))

-- an object of three members, the number of a coordinator and two times true: its own news
abbrev pub own_news_asked : Data → Data → Option RequestModel
own_news_asked d news =
    bind (number_8_at (codes "at") d) (λ at.
    bind (as_bool news) (λ wanted.
    bind (when wanted d) (λ d.
    bind (get (codes "mine") d) (when_true (OwnNews at)))))

-- an object of three members
abbrev pub asked_by_three : Data → Option RequestModel
asked_by_three d = either (get (codes "news") d) (own_news_asked d) (question_asked question_of_one d)

-- what a value asks for, given that packets of the names were cut before
abbrev pub request_from : List (List ℕ) → Data → Option RequestModel
request_from names d =
    cond (has_size 1 d) (alone_of d) (
    cond (has_size 3 d) (asked_by_three d) (
    cond (has_size 4 d) (question_asked question_of_two d) (
    bind (when (has_size 2 d) d) (λ d.
    bind (number_8_at (codes "at") d) (λ at.
    asked_at names at d)))))

-- the line that a value asks to check: it is an object of two members, an `ask` that is `check` and a `line` that is an object
abbrev pub line_checked : Data → Option Data
line_checked d =
    bind (when (has_size 2 d) d) (λ d.
    bind (text_at (codes "ask") d) (λ word.
    bind (when (is_text word (codes "check")) d) (λ d.
    bind (get (codes "line") d) (λ line.
    when (is_some (as_object line)) line))))

-- the value asks for nothing known, and to check nothing, given that packets of the names were cut before
abbrev pub AsksNothing : List (List ℕ) → Data → Type 0
AsksNothing names d = (line_checked d ≡ None) × (request_from names d ≡ None)

-- the line is JSON, and its value asks for that, given that packets of the names were cut before
pub record Requests (names : List (List ℕ)) (line : List ℕ) (asked : RequestModel) : Type 0 where
  pub value : Data
  pub read : read_text line ≡ Some value
  pub asks : request_from names value ≡ Some asked

-- the line is no JSON, or its value asks for nothing; or memory ran out
abbrev pub RequestsNothing : List (List ℕ) → List ℕ → Refusal → Type 0
RequestsNothing names line refusal =
    (refusal ≡ OutOfMemory)
    ⊎ ((refusal ≡ BadScript 0)
    × ((IsUtf8 line → read_text line ≡ None)
    ⊎ ((d : Data) × (read_text line ≡ Some d) × AsksNothing names d)))

-- a step cuts no packet
abbrev pub CutsNothing : ScriptAct → Type 0
CutsNothing (act.Cut range) = ⊥
CutsNothing _ = Unit {0}

-- coordinators with which a stream begins are distinct, and a step cuts no packet: a cut is asked for as one
abbrev pub IsPlain : RequestModel → Type 0
IsPlain (Opens listed) = AreDistinct listed
IsPlain (Does step) = CutsNothing step.act
IsPlain _ = Unit {0}
