-- What is said beforehand of requests, by the causes of steps.
use Rattle.std.proofs.Common.{◌≡◌, ◌⊎◌, ℕ, List, Bool, true, false, cond, nat_le, nat_lt, ◌||◌, Option, Some, None, option_map, IsTrue, refl, sym, ap, ◌∙◌, subst, inl, inr}
use Rattle.std.specs.Prelude.{IsSomeAnd}
use Rattle.fm_records.specs.declared.ops.Field.{Field}
use Rattle.fm_records.specs.declared.refusal.Refusal.{Refusal}
use Rattle.fm_records.specs.declared.refusal.Refusal.TheVariants.{OutOfMemory, BadOp, HistoryFull, BadInterval, Trimmed, NoCoordinator, NoPacket, BadScript}
use Rattle.fm_records.specs.Ops.{op_fault}
use Rattle.fm_records.specs.Options.{when, or_else}
use Rattle.fm_delta.specs.declared.packet.Packet.{Packet}
use Rattle.fm_coord.specs.declared.entry.Call.{Call}
use Rattle.fm_coord.specs.declared.entry.Call.TheVariants as call
use Rattle.fm_coord.specs.declared.entry.Range.{Range}
use Rattle.fm_coord.specs.declared.entry.Range.TheVariants.{Interval, Full}
use Rattle.fm_coord.specs.Causes.{Bounds, range_fault, call_fault, room_fault, first_some, cause, bounds_of}
use Rattle.fm_coord.specs.Events.{Replica, Event}
use Rattle.fm_coord.specs.Events as event
use Rattle.fm_coord.specs.Replays.{call_of}
use Rattle.fm_world.specs.declared.step.Act.TheVariants as act
use Rattle.fm_world.specs.declared.step.Step.{Step}
use Rattle.fm_world.specs.Worlds.{WorldOfSets, with_number, event_asked, spelled_out, cause_at, cause_of, refusal_of}
use Rattle.fm_question.specs.declared.question.Question.{Question}
use Rattle.fm_question.specs.declared.question.Question.TheVariants as question
use Rattle.fm_question.specs.declared.question.Subject.{Subject}
use Rattle.fm_script.specs.Script.{is_named}
use Rattle.fm_script.specs.Requests.{Cuts, Takes, Asks}
use Rattle.fm_query.specs.Unpacked.{IsPacketIn, IsNoPacketIn, IsFaultOf}
use Rattle.fm_query.proofs.PacketFaults.{encoded, only_memory}
use Rattle.fm_query.specs.Queries.{HasNoAnswer}
use Rattle.fm_service.specs.WorldSteps.{step_at}
use Rattle.fm_service.specs.StreamSteps.{Following, RefusesAt, IsVerdict, CutRefused}

-- no cause of a step is that memory ran out
abbrev IsOther : Option Refusal → Type 0
IsOther None = Unit {0}
IsOther (Some e) = e ≡ OutOfMemory → ⊥

when_other : (b : Bool) (e : Refusal) → (e ≡ OutOfMemory → ⊥) → IsOther (when b e)
when_other true e other = other
when_other false e other = tt

cond_other : (b : Bool) (x y : Option Refusal) → IsOther x → IsOther y → IsOther (cond b x y)
cond_other true x y h k = h
cond_other false x y h k = k

first_other : (x y : Option Refusal) → IsOther x → IsOther y → IsOther (first_some x y)
first_other None y h k = k
first_other (Some e) y h k = h

op_other : (f : Option Field) → IsOther (option_map BadOp f)
op_other None = tt
op_other (Some f) = λ e. let no : ⊥ = cc in no

full : HistoryFull ≡ OutOfMemory → ⊥
full e = cc

bad : BadInterval ≡ OutOfMemory → ⊥
bad e = cc

cut_off : (n : ℕ) → Trimmed n ≡ OutOfMemory → ⊥
cut_off n e = cc

range_other : (b : Bounds) (range : Range) → IsOther (range_fault b range)
range_other b (Interval from to) =
    cond_other (nat_lt to from || nat_lt b.end to) (Some BadInterval) (when (nat_lt from b.floor) (Trimmed b.floor)) bad (when_other (nat_lt from b.floor) (Trimmed b.floor) (cut_off b.floor))
range_other b Full = tt

call_other : (b : Bounds) (c : Call) → IsOther (call_fault b c)
call_other b (call.Tell op) = op_other (op_fault op)
call_other b (call.Merge packet) = tt
call_other b (call.Cut range) = range_other b range
call_other b (call.Trim n) = when_other (nat_lt n b.floor || nat_lt b.end n) BadInterval bad
call_other b call.View = tt
call_other b (call.Commit plan) = tt

cause_other : (b : Bounds) (c : Call) → IsOther (cause b c)
cause_other b c = first_other (call_fault b c) (room_fault b) (call_other b c) (when_other (nat_le b.limit b.entries) HistoryFull full)

pub unknown : NoCoordinator ≡ OutOfMemory → ⊥
unknown e = cc

nothing_sent : NoPacket ≡ OutOfMemory → ⊥
nothing_sent e = cc

at_other : (o : Option Replica) (e : Option Event) → IsOther (cause_at o e)
at_other None e = unknown
at_other (Some r) None = nothing_sent
at_other (Some r) (Some e) = cause_other (bounds_of r) (call_of e)

-- what is said beforehand of a step is its cause
by_cause : (o : Option Refusal) → IsOther o → IsVerdict (λ e. e ≡ or_else OutOfMemory o) o
by_cause None other = λ e is. is
by_cause (Some x) other = (refl, other)

pub of_step : (w : WorldOfSets) (s : Step) (c : Option Refusal) → c ≡ cause_of w s → IsVerdict (λ e. e ≡ refusal_of w s) c
of_step w s c is =
    subst (IsVerdict (λ e. e ≡ refusal_of w s)) (sym is)
    (by_cause (cause_of w s) (at_other (with_number w.replicas s.at) (event_asked w.packets s.act)))

-- where the same refusals may come but that memory runs out, the same is said

memory_or : (P : Type 0) (e : Refusal) → (e ≡ OutOfMemory) ⊎ P → (P → e ≡ OutOfMemory) → e ≡ OutOfMemory
memory_or P e (inl is) f = is
memory_or P e (inr p) f = f p

pub alike : (P Q : Refusal → Type 0) (c : Option Refusal) → ((e : Refusal) → P e → Q e) → ((e : Refusal) → Q e → (e ≡ OutOfMemory) ⊎ P e) → IsVerdict P c → IsVerdict Q c
alike P Q None to from v = λ e q. memory_or (P e) e (from e q) (v e)
alike P Q (Some e) to from v = (to e v.0, v.1)

-- a cut under a name that no packet has is refused as one without a name

by_name : (k : Following) (at : ℕ) (range : Range) (name : List ℕ) (e : Refusal) → (IsTrue (is_named k.named.names name) → ⊥)
    → (e ≡ refusal_of k.world (step_at at (act.Cut range))) ⊎ (IsTrue (is_named k.named.names name) × (e ≡ BadScript 0)) → (e ≡ OutOfMemory) ⊎ (e ≡ refusal_of k.world (step_at at (act.Cut range)))
by_name k at range name e new (inl is) = inr is
by_name k at range name e new (inr (named, is)) = absurd (new named)

pub unnamed : (k : Following) (at : ℕ) (range : Range) (name : List ℕ) (c : Option Refusal) → (IsTrue (is_named k.named.names name) → ⊥)
    → IsVerdict (λ e. e ≡ refusal_of k.world (step_at at (act.Cut range))) c → IsVerdict (RefusesAt k (Cuts at range (Some name))) c
unnamed k at range name c new v =
    alike (λ e. e ≡ refusal_of k.world (step_at at (act.Cut range))) (RefusesAt k (Cuts at range (Some name))) c (λ e is. inl is) (λ e may. by_name k at range name e new may) v

pub unread : BadScript 0 ≡ OutOfMemory → ⊥
unread e = cc

pub not_both : (b : Bool) → b ≡ false → IsTrue b → ⊥
not_both b is t = cc

same_range : (x y : Range) → Some x ≡ Some y → x ≡ y
same_range x y e = cc

-- a cut of a range is refused as that of the same range
pub of_cut : (k : Following) (at : ℕ) (range : Range) (c : Option Refusal) → c ≡ cause_of k.world (step_at at (act.Cut range)) → IsVerdict (CutRefused k at (Some range)) c
of_cut k at range c is =
    alike (λ e. e ≡ refusal_of k.world (step_at at (act.Cut range))) (CutRefused k at (Some range)) c
    (λ e so. (range, refl, so))
    (λ e so. inr (so.2 ∙ ap (λ r. refusal_of k.world (step_at at (act.Cut r))) (sym (same_range range so.0 so.1))))
    (of_step k.world (step_at at (act.Cut range)) c is)

-- what is not cut is not refused
no_range : (range : Range) → None ≡ Some range → ⊥
no_range range e = cc

pub no_cut : (k : Following) (at : ℕ) → IsVerdict (CutRefused k at None) None
no_cut k at = λ e so. absurd (no_range so.0 so.1)

-- packets

-- the packet of a delivery has no say in why it is refused
as_a_view : (o : Option Replica) (packet : Packet) → cause_at o (Some (event.Merge (spelled_out packet))) ≡ cause_at o (Some event.View)
as_a_view None packet = refl
as_a_view (Some r) packet = refl

view_so : (w : WorldOfSets) (at : ℕ) (packet : Packet) → refusal_of w (step_at at (act.Take packet)) ≡ refusal_of w (step_at at act.View)
view_so w at packet = ap (or_else OutOfMemory) (as_a_view (with_number w.replicas at) packet)

module _ (k : Following) (at : ℕ) (digits : List ℕ) (encodes : IsFaultOf digits None) where
  taken : (e : Refusal) → IsNoPacketIn digits e ⊎ ((packet : Packet) × IsPacketIn digits packet × (e ≡ refusal_of k.world (step_at at (act.Take packet))))
      → (e ≡ OutOfMemory) ⊎ (e ≡ refusal_of k.world (step_at at act.View))
  taken e (inl none) = inl (only_memory digits encodes e none)
  taken e (inr (packet, there, is)) = inr (is ∙ view_so k.world at packet)

  takes : (e : Refusal) → e ≡ refusal_of k.world (step_at at act.View) → RefusesAt k (Takes at digits) e
  takes e so = let p = encoded digits encodes in inr (p.0, p.1, so ∙ sym (view_so k.world at p.0))

  -- of digits that encode a packet, it is said whether there is room for an entry
  pub of_packet : (c : Option Refusal) → c ≡ cause_of k.world (step_at at act.View) → IsVerdict (RefusesAt k (Takes at digits)) c
  of_packet c is =
      alike (λ e. e ≡ refusal_of k.world (step_at at act.View)) (RefusesAt k (Takes at digits)) c
      (λ e so. takes e so) (λ e may. taken e may) (of_step k.world (step_at at act.View) c is)

-- questions

no_answer : (q : Question) → ((s : Subject) → q ≡ question.Next s → ⊥) → (r : Replica) (e : Refusal) → HasNoAnswer q r e → ⊥
no_answer question.Graph never r e h = h
no_answer question.Solve never r e h = h
no_answer question.Plan never r e h = h
no_answer question.Winners never r e h = h
no_answer question.Stops never r e h = h
no_answer question.End never r e h = h
no_answer (question.Why task) never r e h = h
no_answer (question.List listing) never r e h = h
no_answer (question.Next s) never r e h = never s refl
no_answer question.Size never r e h = h
no_answer question.Over never r e h = h

nobody_there : (o : Option Replica) (r : Replica) → o ≡ Some r → o ≡ None → ⊥
nobody_there o r is so = cc

module _ (k : Following) (at : ℕ) (r : Replica) (there : with_number k.world.replicas at ≡ Some r) where
  lacks : (q : Question) (e : Refusal)
      → (e ≡ OutOfMemory) ⊎ (((with_number k.world.replicas at ≡ None) × (e ≡ NoCoordinator)) ⊎ IsSomeAnd (with_number k.world.replicas at) (λ x. HasNoAnswer q x e))
      → (e ≡ OutOfMemory) ⊎ HasNoAnswer q r e
  lacks q e (inl is) = inl is
  lacks q e (inr (inl (none, is))) = absurd (nobody_there (with_number k.world.replicas at) r there none)
  lacks q e (inr (inr h)) = inr (subst (λ o. IsSomeAnd o (λ x. HasNoAnswer q x e)) there h)

  gives : (q : Question) (e : Refusal) → (e ≡ OutOfMemory) ⊎ HasNoAnswer q r e → RefusesAt k (Asks at q) e
  gives q e (inl is) = inl is
  gives q e (inr h) = inr (inr (subst (λ o. IsSomeAnd o (λ x. HasNoAnswer q x e)) (sym there) h))

  -- what may be refused a question is what the coordinator has no answer to
  pub of_question : (q : Question) (c : Option Refusal) → IsVerdict (λ e. (e ≡ OutOfMemory) ⊎ HasNoAnswer q r e) c → IsVerdict (RefusesAt k (Asks at q)) c
  of_question q c v =
      alike (λ e. (e ≡ OutOfMemory) ⊎ HasNoAnswer q r e) (RefusesAt k (Asks at q)) c (λ e may. gives q e may) (λ e may. inr (lacks q e may)) v

  -- any question but that for the next version is answered
  pub answered : (q : Question) → ((s : Subject) → q ≡ question.Next s → ⊥) → IsVerdict (RefusesAt k (Asks at q)) None
  answered q never = λ e may. memory_or (HasNoAnswer q r e) e (lacks q e may) (λ h. absurd (no_answer q never r e h))
