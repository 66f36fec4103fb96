-- Coordinators that do what a request asks for, and where their stream is then.
use Rattle.std.proofs.Common.{◌≡◌, ◌⊎◌, ℕ, List, [], Some, None, Result, Ok, Err, IfOk, IfErr, OnErr, refl, sym, subst, inl, inr}
use Rattle.std.specs.Global.{Vec}
use Rattle.fm_records.specs.declared.ops.Op.{Op}
use Rattle.fm_records.specs.declared.refusal.Refusal.{Refusal}
use Rattle.fm_records.specs.declared.refusal.Refusal.TheVariants.{BadScript}
use Rattle.fm_records.specs.Ranges.{CanBe}
use Rattle.fm_records.specs.OpsOfTable.{ops}
use Rattle.fm_records.proofs.SpelledLaws.{know_ops}
use Rattle.fm_delta.specs.declared.packet.Packet.{Packet}
use Rattle.fm_coord.specs.Replays.{seen_packet}
use Rattle.fm_world.specs.declared.step.Act.{Act as WorldAct}
use Rattle.fm_world.specs.declared.step.Act.TheVariants as world
use Rattle.fm_world.specs.Worlds.{WorldOfSets, refusal_of}
use Rattle.fm_world.specs.Represents.{Kept, WorldRepresents}
use Rattle.fm_script.specs.declared.script.ScriptAct.TheVariants as act
use Rattle.fm_script.specs.declared.request.Request.{Request}
use Rattle.fm_script.specs.declared.request.Request.TheVariants as request
use Rattle.fm_script.specs.Requests.{RequestModel, Does, Renews, Requests, request_model}
use Rattle.fm_io.specs.Replies.{accepted_reply}
use Rattle.fm_service.specs.declared.session.Session.{Session}
use Rattle.fm_service.specs.WorldSteps.{step_at, WorldStep}
use Rattle.fm_service.specs.StreamSteps.{Following, StandBehind, packet_by_ops, packet_number_at, at_world, DoesAt, fresh, is_due, Answers, IsStreamState, RefusesIn}
use Rattle.fm_service.specs.Renewing.{renewed_world}
use Rattle.fm_service.specs.Sessions.{SessionAt}
use Rattle.fm_service.specs.inner.SessionSteps.{Goes, StopsRequest}
use Rattle.fm_service.proofs.Results.{if_ok}

-- a packet from elsewhere is seen as it came
pub seen_so : (behind : Packet → List Op) → StandBehind behind → (p : Packet) → CanBe p.value → p ≡ seen_packet (packet_by_ops behind p)
seen_so behind stand p can = λ i. record { sender = p.sender; number = p.number; value = (sym (stand p can)) i }

-- a world that is the same stands for the same
pub stays : (d : Session) (new : Kept) (k : Following) → SessionAt d k → new ≡ d.world → IsStreamState new d.named d.marks d.own_marks d.stored_marks k
stays d new k here same = record { stands = subst (λ (x : Kept). WorldRepresents x k.world) (sym same) here.stands; named_is = here.named_is; marks_is = here.marks_is; own_marks_is = here.own_marks_is; stored_marks_is = here.stored_marks_is }

-- a step of which there is nothing to tell
module _ (old new : Session) (r : Result (Vec ℕ) Refusal) (at : ℕ) where
  abbrev Steps : WorldAct → Type 0
  Steps a = (k : Following) → SessionAt old k → IfOk r (λ text. (text.items ≡ []) × ((v : WorldOfSets) × WorldStep k.world (step_at at a) v × SessionAt new (at_world k v)))

  pub told : (op : Op) → Steps (world.Tell op) → Goes r old new (Does (record { at = at; act = act.Tell op }))
  told op s = λ behind stand k here. if_ok r (λ text h. (at_world k h.1.0, (h.1.0, (h.0, h.1.1), refl), h.1.2)) (s k here)

  pub trimmed : (n : ℕ) → Steps (world.Trim n) → Goes r old new (Does (record { at = at; act = act.Trim n }))
  trimmed n s = λ behind stand k here. if_ok r (λ text h. (at_world k h.1.0, (h.1.0, (h.0, h.1.1), refl), h.1.2)) (s k here)

  pub delivered : (place n : ℕ) → ((k : Following) → SessionAt old k → n ≡ packet_number_at k place) → Steps (world.Deliver n) → Goes r old new (Does (record { at = at; act = act.Deliver place }))
  delivered place n is s = λ behind stand k here.
      if_ok r (λ text h. (at_world k h.1.0, (h.1.0, (h.0, subst (λ m. WorldStep k.world (step_at at (world.Deliver m)) h.1.0) (is k here) h.1.1), refl), h.1.2)) (s k here)

  pub undelivered : (place n : ℕ) → ((k : Following) → SessionAt old k → n ≡ packet_number_at k place)
      → ((k : Following) → SessionAt old k → IfErr r (λ e. e ≡ refusal_of k.world (step_at at (world.Deliver n)))) → StopsRequest r old (Does (record { at = at; act = act.Deliver place }))
  undelivered place n is s = λ k here. subst (λ m. IfErr r (λ e. e ≡ refusal_of k.world (step_at at (world.Deliver m)))) (is k here) (s k here)

-- between two lines
abbrev pub Settled : ℕ → Session → Session → Following → Type 0
Settled most mid new j = (new ≡ mid) ⊎ (is_due most j.world × SessionAt new (fresh (renewed_world j.world)))

pub accepts : (most : ℕ) (behind : Packet → List Op) (mid new : Session) (k j : Following) (line text : List ℕ) (asked : RequestModel)
    → Requests k.named.names line asked → DoesAt behind k asked text j → SessionAt mid j → Settled most mid new j
    → (i : Following) × Answers most behind (Some k) line (accepted_reply text) (Some i) × SessionAt new i
accepts most behind mid new k j line text asked requests does at (inl same) =
    (j, inl (record { asked = asked; requests = requests; text = text; made = Some j; does = (j, does, refl); settles = inl refl; is = refl }), subst (λ (d : Session). SessionAt d j) (sym same) at)
accepts most behind mid new k j line text asked requests does at (inr (due, anew)) =
    (fresh (renewed_world j.world), inl (record { asked = asked; requests = requests; text = text; made = Some j; does = (j, does, refl); settles = inr (j, refl, due, refl); is = refl }), anew)

-- before coordinators are listed every other request is refused
pub too_early : (q : Request) → ((listed : Vec ℕ) → q ≡ request.Open listed → ⊥) → RefusesIn None (request_model q) (BadScript 0)
too_early (request.Open listed) never = absurd (never listed refl)
too_early (request.Do step) never = refl
too_early (request.Cut at range name) never = refl
too_early (request.News at) never = refl
too_early (request.OwnNews at) never = refl
too_early (request.Take at digits) never = refl
too_early (request.Ask at question) never = refl
too_early request.Agree never = refl
too_early request.Version never = refl
too_early request.Renew never = refl

-- what packets spell out may stand behind them
pub spelled : StandBehind (λ p. ops p.value)
spelled = λ p can. sym (know_ops p.value can.table)

-- coordinators are renewed, or there was no memory for it
pub settled : (most : ℕ) (r : Result (Vec ℕ) Refusal) (old new : Session) (k : Following) → Goes r old new Renews → OnErr r (new ≡ old) → SessionAt old k → is_due most k.world → Settled most old new k
settled most (Ok text) old new k goes same here due = let went = goes (λ p. ops p.value) spelled k here in inr (due, subst (λ (j : Following). SessionAt new j) went.1.1 went.2)
settled most (Err e) old new k goes same here due = inl same
