-- A round at a coordinator of a world that stands for a world of sets.
use Rattle.std.proofs.Common.{◌≡◌, ◌⊎◌, ℕ, Option, Some, None, Result, Ok, Err, IfErr, OnOk, refl, ◌∙◌, subst, inr}
use Rattle.fm_records.specs.declared.refusal.Refusal.{Refusal}
use Rattle.fm_round.specs.declared.plan.Plan.{Plan}
use Rattle.fm_coord.specs.declared.view.View.{View}
use Rattle.fm_coord.specs.States.{State}
use Rattle.fm_world.specs.declared.step.Act.TheVariants as world
use Rattle.fm_world.specs.Worlds.{WorldOfSets, with_number, cause_of, refusal_of, step_of}
use Rattle.fm_world.specs.Represents.{Kept, WorldRepresents, state_with, view_shown}
use Rattle.fm_world.proofs.Places.{Stood, stood}
use Rattle.fm_world.proofs.Runs.{if_err}
use Rattle.fm_script.specs.declared.script.RoundKind.{RoundKind}
use Rattle.fm_script.specs.RoundPlans.{IsRoundPlan}
use Rattle.fm_service.specs.WorldSteps.{step_at, IsRoundPlanAt, WorldStep}
use Rattle.fm_serve.specs.ScriptSteps.{ScriptRoundStep, StopsAfterView}

-- what is shown of a coordinator is what it knows
record IsShown (o : Option State) (view : View) : Type 0 where
  state : State
  there : o ≡ Some state
  knowledge : view.knowledge ≡ state.knowledge

is_shown : (o : Option State) (view : View) → view_shown o world.View ≡ Some view → IsShown o view
is_shown None view e = absurd (let no : ⊥ = cc in no)
is_shown (Some s) view e = record { state = s; there = refl; knowledge = cc }

on_ok : {T E : Type 0} {P Q : Type 0} (r : Result T E) → (P → Q) → OnOk r P → OnOk r Q
on_ok (Ok t) f h = f h
on_ok (Err e) f h = tt

module _ (k : Kept) (w : WorldOfSets) (at : ℕ) (h : WorldRepresents k w) where
  pub plan_at : (view : View) (kind : RoundKind) (plan : Plan) → view_shown (state_with k.coordinators at) world.View ≡ Some view → IsRoundPlan view.knowledge kind plan → IsRoundPlanAt w at kind plan
  plan_at view kind plan e p =
      let s : IsShown (state_with k.coordinators at) view = is_shown _ view e in
      let q : Stood (with_number w.replicas at) s.state = stood at k.coordinators w.replicas h.coordinators s.state s.there in
      record { replica = q.replica; there = q.at; plan_of = subst (λ t. IsRoundPlan t kind plan) (s.knowledge ∙ q.stands.knowledge) p }

module _ (w : WorldOfSets) (at : ℕ) (kind : RoundKind) (plan : Plan) (accepted : cause_of w (step_at at world.View) ≡ None) (planned : IsRoundPlanAt w at kind plan) where
  viewed : WorldStep w (step_at at world.View) (step_of w (step_at at world.View))
  viewed = record { accepted = accepted; made = refl }

  pub rounds : {T E : Type 0} (r : Result T E) (new : Kept)
      → OnOk r ((v : WorldOfSets) × WorldStep (step_of w (step_at at world.View)) (step_at at (world.Commit plan)) v × WorldRepresents new v)
      → OnOk r ((v : WorldOfSets) × ScriptRoundStep w at kind v × WorldRepresents new v)
  rounds r new = on_ok r (λ t. (t.0, record { plan = plan; plan_at = planned; seen = _; view = viewed; commit = t.1 }, t.2))

  pub refuses : {T : Type 0} (r : Result T Refusal)
      → IfErr r (λ e. e ≡ refusal_of (step_of w (step_at at world.View)) (step_at at (world.Commit plan)))
      → IfErr r (λ e. (e ≡ refusal_of w (step_at at world.View)) ⊎ StopsAfterView w at kind e)
  refuses r = if_err r (λ e same. inr (record { seen = _; view = viewed; stopped = inr (plan, planned, same) }))
