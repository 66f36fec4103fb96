-- What the program answers, from what its parts answer.
use Rattle.std.proofs.Common.{◌≡◌, ◌⊎◌, ℕ, List, Bool, true, false, cond, Option, Some, None, inl, inr}
use Rattle.fm_world.specs.Worlds.{WorldOfSets}
use Rattle.fm_query.specs.declared.query.Query.{Query}
use Rattle.fm_query.specs.Queries.{differs_in}
use Rattle.fm_args.specs.Invocation.{ArgsModel, ask, agree, check, pack, unpack, run, why}
use Rattle.fm_script.specs.declared.script_fault.ScriptFault.{ScriptFault}
use Rattle.fm_serve.specs.declared.fault.Fault.{Fault}
use Rattle.fm_serve.specs.declared.ending.Ending.{Ending}
use Rattle.fm_serve.specs.declared.ending.Ending.TheVariants.{Done, Differ, AtFault, Wrong, Stopped, Unusable}
use Rattle.fm_serve.specs.Answers.{AnswersIn, Wants}
use Rattle.fm_serve.specs.Endings.{ending_checked}
use Rattle.fm_serve.specs.Responses.{Responds}

-- a run that has an answer ends well
abbrev EndsWell : Ending → Type 0
EndsWell ending = (ending ≡ Done) ⊎ ((ending ≡ Differ) ⊎ (ending ≡ AtFault))

by_difference : (b : Bool) (ending : Ending) → ending ≡ cond b Differ Done → EndsWell ending
by_difference true ending e = inr (inl e)
by_difference false ending e = inl e

by_fault : (o : Option ScriptFault) (ending : Ending) → ending ≡ ending_checked o → EndsWell ending
by_fault None ending e = inl e
by_fault (Some fault) ending e = inr (inr e)

answers_well : (q : Option Query) (w : WorldOfSets) (ending : Ending) (output : List ℕ) → AnswersIn q w ending output → EndsWell ending
answers_well None w ending output h = absurd h
answers_well (Some q) w ending output h = by_difference (differs_in q w) ending h.0

wants_well : (c : ArgsModel) (text : List ℕ) (ending : Ending) (output : List ℕ) → Wants c text ending output → EndsWell ending
wants_well (ask q at) text ending output h = answers_well h.query h.world ending output h.answered
wants_well agree text ending output h = answers_well h.query h.world ending output h.answered
wants_well check text ending output h = by_fault h.fault ending h.ends
wants_well (pack name) text ending output h = answers_well h.query h.world ending output h.answered
wants_well unpack text ending output h = inl h.0
wants_well (why task at) text ending output h = answers_well h.query h.world ending output h.answered

stopped_not : (fault : Fault) → EndsWell (Stopped fault) → ⊥
stopped_not fault (inl e) = cc
stopped_not fault (inr (inl e)) = cc
stopped_not fault (inr (inr e)) = cc

-- what a command wants is what the program answers
pub settled : (c : ArgsModel) (text : List ℕ) (ending : Ending) (output : List ℕ) → Wants c text ending output → Responds (run c) text ending output
settled c text Done output h = h
settled c text Differ output h = h
settled c text AtFault output h = h
settled c text (Wrong said) output h = h
settled c text (Unusable fault) output h = h
settled c text (Stopped fault) output h = absurd (stopped_not fault (wants_well c text (Stopped fault) output h))
