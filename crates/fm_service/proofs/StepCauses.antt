-- Why a step would be refused, by what its coordinator keeps.
use Rattle.std.proofs.Common.{◌≡◌, ℕ, Option, Some, None, slice_get, option_map, refl, sym, ap, ◌∙◌}
use Rattle.std.proofs.lemmas.Option.{slice_get-map}
use Rattle.fm_records.specs.declared.ops.Op.{Op}
use Rattle.fm_records.specs.declared.refusal.Refusal.TheVariants.{NoCoordinator, NoPacket}
use Rattle.fm_delta.specs.declared.packet.Packet.{Packet}
use Rattle.fm_coord.specs.declared.entry.Call.TheVariants as call
use Rattle.fm_coord.specs.Causes.{cause, room_fault}
use Rattle.fm_coord.specs.Events.{Replica, Sent}
use Rattle.fm_coord.specs.Events as event
use Rattle.fm_coord.specs.Replays.{seen_packet}
use Rattle.fm_coord.specs.States.{State, bounds}
use Rattle.fm_coord.proofs.StepLaws.{same_bounds}
use Rattle.fm_world.specs.declared.step.Act.{Act}
use Rattle.fm_world.specs.declared.step.Act.TheVariants as act
use Rattle.fm_world.specs.Worlds.{WorldOfSets, event_asked, cause_at, cause_of}
use Rattle.fm_world.specs.Represents.{Kept, WorldRepresents, state_with}
use Rattle.fm_world.proofs.Places.{absent}
use Rattle.fm_service.specs.WorldSteps.{step_at}
use Rattle.fm_service.proofs.Steps.{here}

-- there is no packet to deliver where none was cut under the number, and there is one where one was
absent_packet : (o : Option Sent) → option_map seen_packet o ≡ None → (r : Replica) → Some NoPacket ≡ cause_at (Some r) (option_map event.Merge o)
absent_packet None e r = refl
absent_packet (Some p) e r = absurd (let no : ⊥ = cc in no)

cut_packet_there : (o : Option Sent) (p : Packet) → option_map seen_packet o ≡ Some p → (r : Replica) → cause_at (Some r) (option_map event.Merge o) ≡ cause_at (Some r) (Some event.View)
cut_packet_there None p e r = absurd (let no : ⊥ = cc in no)
cut_packet_there (Some q) p e r = refl

module _ (k : Kept) (w : WorldOfSets) (at : ℕ) (h : WorldRepresents k w) where
  pub nobody : None ≡ state_with k.coordinators at → (a : Act) → Some NoCoordinator ≡ cause_of w (step_at at a)
  nobody none a = ap (λ o. cause_at o (event_asked w.packets a)) (sym (absent at k.coordinators w.replicas h.coordinators (sym none)))

  cut_so : (n : ℕ) → slice_get k.packets n ≡ option_map seen_packet (slice_get w.packets n)
  cut_so n = ap (λ ps. slice_get ps n) h.packets ∙ slice_get-map seen_packet w.packets n

  module _ (s : State) (there : Some s ≡ state_with k.coordinators at) where
    pub tell_there : (op : Op) → cause (bounds s) (call.Tell op) ≡ cause_of w (step_at at (act.Tell op))
    tell_there op =
        let r = here k w at h s there in
        ap (λ b. cause b (call.Tell op)) (same_bounds s r.replica r.stands) ∙ ap (λ o. cause_at o (Some (event.Tell op))) (sym r.at)

    pub trim_there : (n : ℕ) → cause (bounds s) (call.Trim n) ≡ cause_of w (step_at at (act.Trim n))
    trim_there n =
        let r = here k w at h s there in
        ap (λ b. cause b (call.Trim n)) (same_bounds s r.replica r.stands) ∙ ap (λ o. cause_at o (Some (event.Trim n))) (sym r.at)

    pub view_there : room_fault (bounds s) ≡ cause_of w (step_at at act.View)
    view_there =
        let r = here k w at h s there in
        ap room_fault (same_bounds s r.replica r.stands) ∙ ap (λ o. cause_at o (Some event.View)) (sym r.at)

    pub no_packet_there : (n : ℕ) → None ≡ slice_get k.packets n → Some NoPacket ≡ cause_of w (step_at at (act.Deliver n))
    no_packet_there n none =
        let r = here k w at h s there in
        absent_packet (slice_get w.packets n) (sym (none ∙ cut_so n)) r.replica
        ∙ ap (λ o. cause_at o (event_asked w.packets (act.Deliver n))) (sym r.at)

    pub packet_there : (n : ℕ) (p : Packet) → Some p ≡ slice_get k.packets n → room_fault (bounds s) ≡ cause_of w (step_at at (act.Deliver n))
    packet_there n p is =
        let r = here k w at h s there in
        ap room_fault (same_bounds s r.replica r.stands)
        ∙ sym (cut_packet_there (slice_get w.packets n) p (sym (is ∙ cut_so n)) r.replica)
        ∙ ap (λ o. cause_at o (event_asked w.packets (act.Deliver n))) (sym r.at)
