-- What a check of a script says of its runs (this project's profile).
use Rattle.std.specs.Prelude.{◌≡◌, ℕ, List, take, Bool, true, false, Some}
use Rattle.std.specs.List.{slice_get}
use Rattle.fm_records.specs.declared.refusal.Refusal.{Refusal}
use Rattle.fm_records.specs.declared.refusal.Refusal.TheVariants as refusal
use Rattle.fm_world.specs.Worlds.{WorldOfSets}
use Rattle.fm_script.specs.Openings.{new_world}
use Rattle.fm_script.specs.declared.script.ScriptStep.{ScriptStep}
use Rattle.fm_serve.specs.ScriptSteps.{Come}

-- the refusals of steps that a check looks for
abbrev pub is_looked_for : Refusal → Bool
is_looked_for refusal.NoCoordinator = true
is_looked_for refusal.NoPacket = true
is_looked_for (refusal.BadOp field) = true
is_looked_for _ = false

-- the steps before the place make w, where the step is asked for; a round asks for a view first
pub record ComesTo (listed : List ℕ) (steps : List ScriptStep) (place : ℕ) (step : ScriptStep) (w : WorldOfSets) : Type 0 where
  pub there : slice_get steps place ≡ Some step
  pub came : Come (new_world listed) (take place steps) w
