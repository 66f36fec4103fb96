-- Steps at a coordinator of a world that stands for a world of sets.
use Rattle.std.proofs.Common.{◌≡◌, ◌==◌, ℕ, Bool, true, false, cond, nat_lt, List, [], ◌∷◌, Option, Some, None, length, refl, sym, ap, ◌∙◌, subst, inl, inr}
use Rattle.std.proofs.lemmas.Bool.{eqb-true}
use Rattle.std.proofs.lemmas.List.{length-map}
use Rattle.fm_records.specs.declared.refusal.Refusal.{Refusal}
use Rattle.fm_records.specs.declared.refusal.Refusal.TheVariants.{OutOfMemory, NoCoordinator}
use Rattle.fm_records.specs.Options.{or_else}
use Rattle.fm_delta.specs.declared.packet.Packet.{Packet}
use Rattle.fm_round.specs.declared.plan.Plan.{Plan}
use Rattle.fm_round.specs.declared.plan.Admitted.{Admitted}
use Rattle.fm_round.specs.Admission.{admission}
use Rattle.fm_script.specs.declared.script.RoundKind.{RoundKind}
use Rattle.fm_script.specs.RoundPlans.{IsRoundPlan}
use Rattle.fm_coord.specs.declared.entry.Call.TheVariants as call
use Rattle.fm_coord.specs.declared.entry.Range.{Range}
use Rattle.fm_coord.specs.declared.entry.Range.TheVariants.{Interval, Full}
use Rattle.fm_delta.specs.Deltas.{end_of}
use Rattle.fm_coord.specs.Causes.{cause, refusal_for, room_fault}
use Rattle.fm_coord.specs.Events.{Replica, packet_of}
use Rattle.fm_coord.specs.Events as event
use Rattle.fm_coord.specs.Replays.{seen_packet}
use Rattle.fm_coord.specs.States.{State, bounds, Represents}
use Rattle.fm_coord.proofs.StepLaws.{same_bounds}
use Rattle.fm_world.specs.declared.step.Act.{Act}
use Rattle.fm_world.specs.declared.step.Act.TheVariants as act
use Rattle.fm_world.specs.Worlds.{WorldOfSets, with_number, event_asked, cause_at, cause_of, refusal_of}
use Rattle.fm_world.specs.Represents.{Kept, WorldRepresents, state_with}
use Rattle.fm_world.proofs.Places.{Stood, stood, absent}
use Rattle.fm_question.specs.declared.question.Question.{Question}
use Rattle.fm_query.specs.QueryTexts.{line_of}
use Rattle.fm_query.specs.declared.query.Query.TheVariants as query
use Rattle.fm_query.specs.Queries.{IsUnanswered}
use Rattle.fm_query.specs.RoundText.{round_text}
use Rattle.fm_service.specs.StreamSteps.{news_since, news_of, own_news_of}
use Rattle.fm_service.specs.OwnNews.{own_news_since}
use Rattle.fm_service.specs.WorldSteps.{step_at, WorldStep, IsCutLine, StreamRoundStep}

-- the coordinator with the number has the number
numbered_by : (b : Bool) (x s : State) (n : ℕ) (rest : Option State) → (x.number == n) ≡ b → cond b (Some x) rest ≡ Some s → (rest ≡ Some s → s.number ≡ n) → s.number ≡ n
numbered_by true x s n rest is e later = let same : x ≡ s = cc in ap (λ (t : State). t.number) (sym same) ∙ eqb-true x.number n is
numbered_by false x s n rest is e later = later e

pub numbered_so : (ss : List State) (n : ℕ) (s : State) → state_with ss n ≡ Some s → s.number ≡ n
numbered_so [] n s e = absurd (let no : ⊥ = cc in no)
numbered_so (x ∷ ss) n s e = numbered_by (x.number == n) x s n (state_with ss n) refl e (numbered_so ss n s)

-- no memory for a step that has no cause of refusal
pub no_memory : (w : WorldOfSets) (at : ℕ) (a : Act) → cause_of w (step_at at a) ≡ None → OutOfMemory ≡ refusal_of w (step_at at a)
no_memory w at a none = sym (ap (or_else OutOfMemory) none)

-- as many packets as were cut
pub counted : (k : Kept) (w : WorldOfSets) → WorldRepresents k w → length k.packets ≡ length w.packets
counted k w h = ap length h.packets ∙ length-map w.packets seen_packet

-- a commit is refused as a view would be
same_cause : (o : Option Replica) (plan : Plan) → cause_at o (Some (event.Commit plan)) ≡ cause_at o (Some event.View)
same_cause None plan = refl
same_cause (Some r) plan = refl

pub as_a_view : (w : WorldOfSets) (at : ℕ) (plan : Plan) → refusal_of w (step_at at (act.Commit plan)) ≡ refusal_of w (step_at at act.View)
as_a_view w at plan = ap (or_else OutOfMemory) (same_cause (with_number w.replicas at) plan)

module _ (k : Kept) (w : WorldOfSets) (at : ℕ) (h : WorldRepresents k w) where
  pub nobody_there : None ≡ state_with k.coordinators at → (a : Act) → NoCoordinator ≡ refusal_of w (step_at at a)
  nobody_there none a = ap (λ o. or_else OutOfMemory (cause_at o (event_asked w.packets a))) (sym (absent at k.coordinators w.replicas h.coordinators (sym none)))

  pub nobody_asked : None ≡ state_with k.coordinators at → (question : Question) → IsUnanswered (query.About at question) w NoCoordinator
  nobody_asked none question = inr (inl (absent at k.coordinators w.replicas h.coordinators (sym none), refl))

  pub nobody_tells : None ≡ state_with k.coordinators at → (mark : ℕ) → own_news_of mark (with_number w.replicas at) ≡ Some Full
  nobody_tells none mark = ap (own_news_of mark) (absent at k.coordinators w.replicas h.coordinators (sym none))

  module _ (s : State) (there : Some s ≡ state_with k.coordinators at) where
    pub here : Stood (with_number w.replicas at) s
    here = stood at k.coordinators w.replicas h.coordinators s (sym there)

    -- what is news of it
    pub news_is : (mark m floor end : ℕ) → m ≡ mark → floor ≡ s.deltas.floor → end ≡ end_of s.deltas
        → cond (nat_lt m floor) Full (Interval m end) ≡ news_since mark here.replica
    news_is mark m floor end is f e = λ i. cond (nat_lt (is i) ((f ∙ here.stands.floor) i)) Full (Interval (is i) ((e ∙ here.stands.end) i))

    pub news_there : (mark : ℕ) → news_of mark (with_number w.replicas at) ≡ news_since mark here.replica
    news_there mark = ap (news_of mark) here.at

    pub own_there : (mark : ℕ) → own_news_since mark here.replica ≡ own_news_of mark (with_number w.replicas at)
    own_there mark = sym (ap (own_news_of mark) here.at)

    -- the cause at the coordinator is that of the step
    pub cut_cause : (range : Range) → cause (bounds s) (call.Cut range) ≡ cause_of w (step_at at (act.Cut range))
    cut_cause range = ap (λ b. cause b (call.Cut range)) (same_bounds s here.replica here.stands) ∙ ap (λ o. cause_at o (Some (event.Cut range))) (sym here.at)

    pub view_cause : cause (bounds s) call.View ≡ cause_of w (step_at at act.View)
    view_cause = ap (λ b. cause b call.View) (same_bounds s here.replica here.stands) ∙ ap (λ o. cause_at o (Some event.View)) (sym here.at)

    -- a full history refuses a view
    pub full : (refusal : Refusal) → room_fault (bounds s) ≡ Some refusal → refusal ≡ refusal_of w (step_at at act.View)
    full refusal is = sym (ap (or_else OutOfMemory) (sym view_cause ∙ is))

    pub roomy : room_fault (bounds s) ≡ None → OutOfMemory ≡ refusal_of w (step_at at act.View)
    roomy none = no_memory w at act.View (sym view_cause ∙ none)

    -- a commit is refused as a view would be
    pub commit_refused : (plan : Plan) (refusal : Refusal) → refusal ≡ refusal_for (bounds s) (call.Commit plan) → refusal ≡ refusal_of w (step_at at act.View)
    commit_refused plan refusal is = is ∙ ap (or_else OutOfMemory) view_cause

    pub cut_refused : (range : Range) (refusal : Refusal) → refusal ≡ refusal_for (bounds s) (call.Cut range) → refusal ≡ refusal_of w (step_at at (act.Cut range))
    cut_refused range refusal is = is ∙ ap (or_else OutOfMemory) (cut_cause range)

    -- the line of the packet that would be cut
    pub cut_told : (range : Range) (packet : Packet) (text : List ℕ) → ((r : Replica) → Represents s r → packet ≡ seen_packet (packet_of r range)) → text ≡ line_of packet → IsCutLine w at range text
    cut_told range packet text seen_so told = record { replica = here.replica; there = here.at; is = told ∙ ap line_of (seen_so here.replica here.stands) }

    -- a round
    pub round_told : (kind : RoundKind) (plan : Plan) (answered : Admitted) (text : List ℕ) (v : WorldOfSets) → IsRoundPlan s.knowledge kind plan → answered ≡ admission s.knowledge s.number plan
        → text ≡ round_text plan answered → WorldStep w (step_at at (act.Commit plan)) v → StreamRoundStep w at kind text v
    round_told kind plan answered text v plan_of is told commit =
        let known = here.stands.knowledge in
        let number = here.stands.number in
        record {
          replica = here.replica;
          there = here.at;
          plan = plan;
          plan_of = subst (λ t. IsRoundPlan t kind plan) known plan_of;
          commit = commit;
          told = told ∙ ap (round_text plan) (is ∙ (λ i. admission (known i) (number i) plan));
        }
