-- What the steps of a script make of a world, and why one is refused (this project's profile).
use Rattle.std.specs.Prelude.{◌≡◌, ◌⊎◌, ℕ, ◌+◌, List, [], ◌∷◌, take, slice_get, Some}
use Rattle.fm_records.specs.declared.refusal.Refusal.{Refusal}
use Rattle.fm_records.specs.declared.refusal.Refusal.TheVariants.{OutOfMemory}
use Rattle.fm_round.specs.declared.plan.Plan.{Plan}
use Rattle.fm_world.specs.declared.step.Act.{Act as WorldAct}
use Rattle.fm_world.specs.declared.step.Act.TheVariants as world
use Rattle.fm_world.specs.Worlds.{WorldOfSets, refusal_of}
use Rattle.fm_world.specs.Represents.{Kept, WorldRepresents}
use Rattle.fm_world.specs.Agreement.{EachKnows, SameAgree}
use Rattle.fm_serve.specs.declared.fault.Fault.{Fault}
use Rattle.fm_script.specs.declared.script.ScriptAct.{ScriptAct}
use Rattle.fm_script.specs.declared.script.ScriptAct.TheVariants as act
use Rattle.fm_script.specs.declared.script.ScriptStep.{ScriptStep}
use Rattle.fm_script.specs.Openings.{new_world}
use Rattle.fm_script.specs.declared.script.RoundKind.{RoundKind}
use Rattle.fm_service.specs.WorldSteps.{step_at, IsRoundPlanAt, WorldStep}
use Rattle.fm_serve.specs.Faults.{fault_of}

-- what a step asks a coordinator for; a round asks it for a view first
abbrev pub world_act_of : ScriptAct → WorldAct
world_act_of (act.Tell op) = world.Tell op
world_act_of (act.Cut range) = world.Cut range
world_act_of (act.Deliver i) = world.Deliver i
world_act_of (act.Trim n) = world.Trim n
world_act_of (act.Round kind) = world.View

-- a round makes v of w: the view, and then the commit of what the round is for, by what was known
pub record ScriptRoundStep (w : WorldOfSets) (at : ℕ) (kind : RoundKind) (v : WorldOfSets) : Type 0 where
  pub plan : Plan
  pub plan_at : IsRoundPlanAt w at kind plan
  pub seen : WorldOfSets
  pub view : WorldStep w (step_at at world.View) seen
  pub commit : WorldStep seen (step_at at (world.Commit plan)) v

-- what happens in a step of the script makes v of w
abbrev pub ScriptActStep : WorldOfSets → ℕ → ScriptAct → WorldOfSets → Type 0
ScriptActStep w at (act.Round kind) v = ScriptRoundStep w at kind v
ScriptActStep w at a v = WorldStep w (step_at at (world_act_of a)) v

-- steps, one after another, make v of w
abbrev pub Come : WorldOfSets → List ScriptStep → WorldOfSets → Type 0
Come w [] v = w ≡ v
Come w (s ∷ ss) v = (u : WorldOfSets) × ScriptActStep w s.at s.act u × Come u ss v

-- the steps of the script led to a world of which this holds
abbrev pub After : List ℕ → List ScriptStep → (WorldOfSets → Type 0) → Type 0
After listed steps Holds = (w : WorldOfSets) × Come (new_world listed) steps w × Holds w

-- after its view a round is refused: memory ran out for a plan, or the commit is
pub record StopsAfterView (w : WorldOfSets) (at : ℕ) (kind : RoundKind) (refusal : Refusal) : Type 0 where
  pub seen : WorldOfSets
  pub view : WorldStep w (step_at at world.View) seen
  pub stopped : (refusal ≡ OutOfMemory) ⊎ ((plan : Plan) × IsRoundPlanAt w at kind plan × (refusal ≡ refusal_of seen (step_at at (world.Commit plan))))

-- what happens in a step of the script is refused, and why
abbrev pub Refuses : WorldOfSets → ℕ → ScriptAct → Refusal → Type 0
Refuses w at (act.Round kind) refusal = (refusal ≡ refusal_of w (step_at at world.View)) ⊎ StopsAfterView w at kind refusal
Refuses w at a refusal = refusal ≡ refusal_of w (step_at at (world_act_of a))

-- a step of the script is refused, and named, counted from 1; those before it made a world of w
pub record StopsIn (w : WorldOfSets) (steps : List ScriptStep) (fault : Fault) : Type 0 where
  pub place : ℕ
  pub step : ScriptStep
  pub there : slice_get steps place ≡ Some step
  pub before : WorldOfSets
  pub came : Come w (take place steps) before
  pub refused : Refuses before step.at step.act fault.refusal
  pub named : fault.step ≡ Some (place + 1)

-- memory ran out before the first step, or a step is refused
abbrev pub StopsScript : List ℕ → List ScriptStep → Fault → Type 0
StopsScript listed steps fault = (fault ≡ fault_of OutOfMemory) ⊎ StopsIn (new_world listed) steps fault

-- all steps ran: the coordinators stand for a world to which the steps lead, each knows what it took in, and those that
-- took in the same operations agree
pub record IsRun (listed : List ℕ) (steps : List ScriptStep) (kept : Kept) : Type 0 where
  pub world : WorldOfSets
  pub came : Come (new_world listed) steps world
  pub stands : WorldRepresents kept world
  pub each_knows : EachKnows kept world
  pub same_agree : SameAgree kept world
