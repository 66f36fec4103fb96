-- What a command answers to a text, and why it does not (this project's profile).
use Rattle.std.specs.Prelude.{◌≡◌, ◌⊎◌, ℕ, List, cond, option_map, position, Option, Some, None, Result, Ok, Err}
use Rattle.fm_records.specs.declared.refusal.Refusal.{Refusal}
use Rattle.fm_records.specs.declared.refusal.Refusal.TheVariants.{OutOfMemory, NoPacket}
use Rattle.fm_world.specs.Worlds.{WorldOfSets}
use Rattle.fm_script.specs.declared.script.ScriptStep.{ScriptStep}
use Rattle.fm_script.specs.Script.{is_text}
use Rattle.fm_script.specs.Texts.{IsScriptText, SpellsNone}
use Rattle.fm_script.specs.declared.script_fault.ScriptFault.{ScriptFault}
use Rattle.fm_script.specs.ScriptFaults.{IsFirstFault}
use Rattle.fm_query.specs.declared.query.Query.{Query}
use Rattle.fm_query.specs.declared.query.Query.TheVariants as query
use Rattle.fm_query.specs.Queries.{IsText, differs_in, Lacks}
use Rattle.fm_query.specs.Unpacked.{IsUnpacked, IsNotUnpacked}
use Rattle.fm_args.specs.declared.words.ScriptQuestion.{ScriptQuestion}
use Rattle.fm_args.specs.declared.words.ScriptQuestion.TheVariants as question
use Rattle.fm_question.specs.declared.question.Question.TheVariants as asked
use Rattle.fm_question.specs.declared.question.Listing.TheVariants as listing
use Rattle.fm_args.specs.Invocation.{ArgsModel, ask, agree, check, pack, unpack, why}
use Rattle.fm_serve.specs.declared.fault.Fault.{Fault}
use Rattle.fm_serve.specs.declared.ending.Ending.{Ending}
use Rattle.fm_serve.specs.declared.ending.Ending.TheVariants.{Done, Differ}
use Rattle.fm_serve.specs.Faults.{fault_of, script_fault_of}
use Rattle.fm_serve.specs.Endings.{coordinator_asked, ending_checked}
use Rattle.fm_serve.specs.CheckTexts.{check_text}
use Rattle.fm_script.specs.Openings.{new_world}
use Rattle.fm_serve.specs.ScriptSteps.{Come, StopsScript, After}

-- the text was not read as a script, and why
pub record IsNoScript (text : List ℕ) (fault : Fault) : Type 0 where
  pub refusal : Refusal
  pub named : fault ≡ script_fault_of refusal
  pub cause : SpellsNone text refusal

-- the question about the coordinator of the number
abbrev pub query_at : ScriptQuestion → ℕ → Query
query_at question.Graph n = query.About n asked.Graph
query_at question.List n = query.About n (asked.List listing.All)
query_at question.Solve n = query.About n asked.Solve
query_at question.Plan n = query.About n asked.Plan
query_at question.Winners n = query.About n asked.Winners

abbrev pub query_about : ScriptQuestion → Result ℕ Fault → Result (Option Query) Fault
query_about q (Ok n) = Ok (Some (query_at q n))
query_about q (Err fault) = Err fault

-- why the task waits or runs, by what a coordinator knows
abbrev pub why_about : ℕ → Result ℕ Fault → Result (Option Query) Fault
why_about task (Ok n) = Ok (Some (query.About n (asked.Why task)))
why_about task (Err fault) = Err fault

-- the query of a command, for a script of these coordinators and names of packets: none if no packet has the name,
-- and a fault if the coordinator that is asked is not listed
abbrev pub query_of : ArgsModel → List ℕ → List (List ℕ) → Result (Option Query) Fault
query_of (ask q at) listed names = query_about q (coordinator_asked listed at)
query_of agree listed names = Ok (Some query.Agree)
query_of check listed names = Ok None
query_of (pack name) listed names = Ok (option_map query.Packet (position (is_text name) names))
query_of unpack listed names = Ok None
query_of (why task at) listed names = why_about task (coordinator_asked listed at)

-- the output is the world's text for the query, and the ending says whether coordinators know different things
abbrev pub AnswersIn : Option Query → WorldOfSets → Ending → List ℕ → Type 0
AnswersIn None w ending output = ⊥
AnswersIn (Some q) w ending output = (ending ≡ cond (differs_in q w) Differ Done) × IsText q w output

-- the steps of the text's script led to a world that answers the command so
pub record IsOfScript (c : ArgsModel) (text : List ℕ) (ending : Ending) (output : List ℕ) : Type 0 where
  pub listed : List ℕ
  pub names : List (List ℕ)
  pub steps : List ScriptStep
  pub spelled : IsScriptText text listed names steps
  pub query : Option Query
  pub asked : query_of c listed names ≡ Ok query
  pub world : WorldOfSets
  pub came : Come (new_world listed) steps world
  pub answered : AnswersIn query world ending output

-- the line of the text's first fault as a script, or the line that there is none; no step ran
pub record IsChecked (text : List ℕ) (ending : Ending) (output : List ℕ) : Type 0 where
  pub fault : Option ScriptFault
  pub found : IsFirstFault text fault
  pub ends : ending ≡ ending_checked fault
  pub line : output ≡ check_text fault

-- the complete output of the command for the text, and the ending; `unpack` reads no script, and `check` runs none
abbrev pub Wants : ArgsModel → List ℕ → Ending → List ℕ → Type 0
Wants check text ending output = IsChecked text ending output
Wants unpack text ending output = (ending ≡ Done) × IsUnpacked text output
Wants c text ending output = IsOfScript c text ending output

-- what is asked for is not there once the steps ran
abbrev pub LacksIn : Option Query → WorldOfSets → Fault → Type 0
LacksIn None w fault = fault ≡ fault_of NoPacket
LacksIn (Some q) w fault = (refusal : Refusal) × Lacks q w refusal × (fault ≡ fault_of refusal)

-- the first cause why a script has no answer: the coordinator that is asked is not listed; else a step is refused; else
-- what is asked for is not there
abbrev pub StopsFor : Result (Option Query) Fault → List ℕ → List ScriptStep → Fault → Type 0
StopsFor (Err unlisted) listed steps fault = fault ≡ unlisted
StopsFor (Ok query) listed steps fault = StopsScript listed steps fault ⊎ After listed steps (λ w. LacksIn query w fault)

-- the text spells a script that has no answer to the command
pub record IsScriptStopped (c : ArgsModel) (text : List ℕ) (fault : Fault) : Type 0 where
  pub listed : List ℕ
  pub names : List (List ℕ)
  pub steps : List ScriptStep
  pub spelled : IsScriptText text listed names steps
  pub cause : StopsFor (query_of c listed names) listed steps fault

-- why the command has no answer to the text
abbrev pub IsCommandRefused : ArgsModel → List ℕ → Fault → Type 0
IsCommandRefused check text fault = fault ≡ fault_of OutOfMemory
IsCommandRefused unpack text fault = (refusal : Refusal) × (fault ≡ fault_of refusal) × IsNotUnpacked text refusal
IsCommandRefused c text fault = (fault ≡ fault_of OutOfMemory) ⊎ (IsNoScript text fault ⊎ IsScriptStopped c text fault)
