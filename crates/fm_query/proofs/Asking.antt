-- What is asked of a world, and of the world of sets for which it stands.
use Rattle.std.proofs.Common.{◌≡◌, ℕ, List, Bool, Option, Some, None, Result, Ok, Err, IfOk, MatchOption, option_map, slice_get, refl, sym, ap, ◌∙◌, subst, inl, inr}
use Rattle.std.proofs.lemmas.Option.{slice_get-map}
use Rattle.fm_records.specs.declared.refusal.Refusal.{Refusal}
use Rattle.fm_records.specs.declared.refusal.Refusal.TheVariants.{NoCoordinator}
use Rattle.fm_records.specs.Know.{table_of}
use Rattle.fm_records.specs.Table.{Table}
use Rattle.fm_delta.specs.declared.packet.Packet.{Packet}
use Rattle.fm_dimacs.specs.Sending.{StopsBy}
use Rattle.fm_round.specs.declared.plan.Plan.{Plan}
use Rattle.fm_round.specs.Schedules.{IsPlanOf}
use Rattle.fm_coord.specs.Events.{Sent, Replica}
use Rattle.fm_coord.specs.Replays.{seen_packet}
use Rattle.fm_coord.specs.States.{State, Represents}
use Rattle.fm_world.specs.Worlds.{WorldOfSets, with_number}
use Rattle.fm_world.specs.Represents.{Kept, WorldRepresents, state_with}
use Rattle.fm_world.proofs.Places.{Stood, stood, absent}
use Rattle.fm_query.specs.PlanText.{plan_text, IsPlanText}
use Rattle.fm_question.specs.declared.question.Subject.{Subject}
use Rattle.fm_question.specs.declared.question.Question.TheVariants.{Next}
use Rattle.fm_query.specs.declared.query.Query.TheVariants.{About}
use Rattle.fm_query.specs.NextText.{HasNoNext, IsNoNext}
use Rattle.fm_query.specs.Queries.{IsUnanswered}
use Rattle.std.specs.Option.{IsSomeAnd}

-- what holds if there is no replica holds if there is no coordinator, and what holds of a replica holds of the one
-- that a coordinator stands for
module _ (k : Kept) (w : WorldOfSets) (at : ℕ) (h : WorldRepresents k w) (P : Option Replica → Type 0) where
  pub of_none : None ≡ state_with k.coordinators at → P None → P (with_number w.replicas at)
  of_none e p = subst P (sym (absent at k.coordinators w.replicas h.coordinators (sym e))) p

  pub of_represented : (s : State) → Some s ≡ state_with k.coordinators at → ((r : Replica) → Represents s r → P (Some r)) → P (with_number w.replicas at)
  of_represented s e p =
      let q : Stood (with_number w.replicas at) s = stood at k.coordinators w.replicas h.coordinators s (sym e) in
      subst P (sym q.at) (p q.replica q.stands)

  pub of_some : (s : State) → Some s ≡ state_with k.coordinators at → ((r : Replica) → s.knowledge ≡ table_of r.taken → P (Some r)) → P (with_number w.replicas at)
  of_some s e p = of_represented s e (λ r stands. p r stands.knowledge)

no_packet : (o : Option Sent) → None ≡ option_map seen_packet o → o ≡ None
no_packet None e = refl
no_packet (Some p) e = absurd (let no : ⊥ = cc in no)

record IsSeen (o : Option Sent) (p : Packet) : Type 0 where
  sent : Sent
  there : o ≡ Some sent
  is : p ≡ seen_packet sent

is_seen : (o : Option Sent) (p : Packet) → Some p ≡ option_map seen_packet o → IsSeen o p
is_seen None p e = absurd (let no : ⊥ = cc in no)
is_seen (Some s) p e = record { sent = s; there = refl; is = cc }

-- the same of packets
module _ (k : Kept) (w : WorldOfSets) (n : ℕ) (h : WorldRepresents k w) (P : Option Sent → Type 0) where
  packet_seen : slice_get k.packets n ≡ option_map seen_packet (slice_get w.packets n)
  packet_seen = ap (λ ps. slice_get ps n) h.packets ∙ slice_get-map seen_packet w.packets n

  pub of_no_packet : None ≡ slice_get k.packets n → P None → P (slice_get w.packets n)
  of_no_packet e p = subst P (sym (no_packet _ (e ∙ packet_seen))) p

  pub of_packet : (p : Packet) → Some p ≡ slice_get k.packets n → ((s : Sent) → p ≡ seen_packet s → P (Some s)) → P (slice_get w.packets n)
  of_packet p e f =
      let s : IsSeen (slice_get w.packets n) p = is_seen _ p (e ∙ packet_seen) in
      subst P (sym s.there) (f s.sent s.is)

-- a dump that is refused because there is no such coordinator
pub not_there : (k : Kept) (w : WorldOfSets) (at : ℕ) → WorldRepresents k w → (refusal : Refusal) (had has : Bool) → refusal ≡ NoCoordinator
    → MatchOption (state_with k.coordinators at) (refusal ≡ NoCoordinator) (λ s. StopsBy refusal had has) → with_number w.replicas at ≡ None
not_there k w at h refusal had has is = by_state (state_with k.coordinators at) refl where
  by_state : (o : Option State) → o ≡ state_with k.coordinators at → MatchOption o (refusal ≡ NoCoordinator) (λ s. StopsBy refusal had has) → with_number w.replicas at ≡ None
  by_state None e m = absent at k.coordinators w.replicas h.coordinators (sym e)
  by_state (Some s) e m = absurd (subst (λ r. StopsBy r had has) is m)

-- why there is no next version or attempt
pub no_next : (k : Kept) (w : WorldOfSets) (at : ℕ) → WorldRepresents k w → (subject : Subject) (refusal : Refusal) (s : State) → Some s ≡ state_with k.coordinators at
    → IsNoNext s.knowledge subject refusal → IsUnanswered (About at (Next subject)) w refusal
no_next k w at h subject refusal s there (inl memory) = inl memory
no_next k w at h subject refusal s there (inr none) =
    inr (inr (of_some k w at h (λ o. IsSomeAnd o (λ r. HasNoNext (table_of r.taken) subject refusal)) s there (λ r same. subst (λ (t : Table). HasNoNext t subject refusal) same none)))

-- the text of a plan of what is known
pub planned_text : {S E : Type 0} (bytes : S → List ℕ) (r : Result S E) (k l : Table) (plan : Plan) → l ≡ k → IsPlanOf l plan → IfOk r (λ t. bytes t ≡ plan_text plan) → IfOk r (λ t. IsPlanText k (bytes t))
planned_text bytes (Ok t) k l plan same p h = record { plan = plan; plan_of = subst (λ j. IsPlanOf j plan) same p; is = h }
planned_text bytes (Err e) k l plan same p h = tt
