-- What steps make of a world, and what is said of them (this project's profile).
use Rattle.std.specs.Prelude.{◌≡◌, ℕ, List, Some, None, Result, OnOk, IfErr}
use Rattle.fm_records.specs.Know.{table_of}
use Rattle.fm_round.specs.declared.plan.Plan.{Plan}
use Rattle.fm_coord.specs.declared.entry.Range.{Range}
use Rattle.fm_coord.specs.Events.{Replica, packet_of, admitted_by}
use Rattle.fm_world.specs.declared.step.Act.{Act}
use Rattle.fm_world.specs.declared.step.Act.TheVariants as act
use Rattle.fm_world.specs.declared.step.Step.{Step}
use Rattle.fm_world.specs.Worlds.{WorldOfSets, with_number, cause_of, step_of}
use Rattle.fm_world.specs.Represents.{Kept, WorldRepresents}
use Rattle.fm_script.specs.declared.script.RoundKind.{RoundKind}
use Rattle.fm_script.specs.RoundPlans.{IsRoundPlan}
use Rattle.fm_query.specs.QueryTexts.{packet_line}
use Rattle.fm_query.specs.RoundText.{round_text}

-- a step of the world at the coordinator with the number
abbrev pub step_at : ℕ → Act → Step
step_at at act = record { at = at; by = 0; act = act }

-- a step of the world that has no cause of refusal makes v of w
pub record WorldStep (w : WorldOfSets) (s : Step) (v : WorldOfSets) : Type 0 where
  pub accepted : cause_of w s ≡ None
  pub made : v ≡ step_of w s

-- what a round of the coordinator with the number commits, by what it took in
pub record IsRoundPlanAt (w : WorldOfSets) (at : ℕ) (kind : RoundKind) (plan : Plan) : Type 0 where
  pub replica : Replica
  pub there : with_number w.replicas at ≡ Some replica
  pub plan_of : IsRoundPlan (table_of replica.taken) kind plan

-- the line of the packet that the coordinator with the number would cut of the range
pub record IsCutLine (w : WorldOfSets) (at : ℕ) (range : Range) (text : List ℕ) : Type 0 where
  pub replica : Replica
  pub there : with_number w.replicas at ≡ Some replica
  pub is : text ≡ packet_line (packet_of replica range)

-- a cut makes v of w, and its packet is told
pub record Cuts (w : WorldOfSets) (at : ℕ) (range : Range) (text : List ℕ) (v : WorldOfSets) : Type 0 where
  pub told : IsCutLine w at range text
  pub cut : WorldStep w (step_at at (act.Cut range)) v

-- a round makes v of w: what it is for is committed, by what is known; what admission answers to each entry of that is told
pub record StreamRoundStep (w : WorldOfSets) (at : ℕ) (kind : RoundKind) (text : List ℕ) (v : WorldOfSets) : Type 0 where
  pub replica : Replica
  pub there : with_number w.replicas at ≡ Some replica
  pub plan : Plan
  pub plan_of : IsRoundPlan (table_of replica.taken) kind plan
  pub commit : WorldStep w (step_at at (act.Commit plan)) v
  pub told : text ≡ round_text plan (admitted_by replica plan)

-- of a call on a world that answers ok: whatever world of sets its coordinators stood for, they then stand for one that is made of it so
abbrev pub Makes : {T E : Type 0} → Result T E → Kept → Kept → (WorldOfSets → WorldOfSets → Type 0) → Type 0
Makes r old new Made = (w : WorldOfSets) → WorldRepresents old w → OnOk r ((v : WorldOfSets) × Made w v × WorldRepresents new v)

-- of a call on a world that is refused: why, for whatever world of sets its coordinators stood for
abbrev pub EnsuresErr : {T E : Type 0} → Result T E → Kept → (WorldOfSets → E → Type 0) → Type 0
EnsuresErr r old Why = (w : WorldOfSets) → WorldRepresents old w → IfErr r (Why w)
