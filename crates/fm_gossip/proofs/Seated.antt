-- A coordinator that two seats used.
use Rattle.std.proofs.Common.{◌≡◌, ℕ, zero, suc, List, [], ◌∷◌, ◌++◌, map, subst, sym, refl, ap, ◌∙◌}
use Rattle.std.specs.Prelude.{Option}
use Rattle.fm_records.specs.declared.ops.Op.{Op}
use Rattle.fm_delta.specs.declared.packet.Packet.{Packet}
use Rattle.fm_gossip.specs.declared.early.Early.{Early}
use Rattle.fm_inbox.specs.Ports.{InboxModel, PortModel}
use Rattle.fm_coord.specs.States.{State}
use Rattle.fm_coord.specs.declared.entry.Range.TheVariants.{Full}
use Rattle.fm_coord.specs.declared.entry.Call.TheVariants as call
use Rattle.fm_coord.specs.declared.entry.Reply.TheVariants as reply
use Rattle.fm_fleet.specs.Seats.{SeatModel, after_call}
use Rattle.fm_gossip.specs.Served.{Task, member_task, all_told, all_merged, AreRounds, IsIntake, IsServed, new_seat, seat_in}
use Rattle.fm_gossip.specs.inner.EndedMember.{IsEnded}
use Rattle.fm_gossip.specs.Passing.{passed_in}
use Rattle.fm_gossip.specs.inner.Used.{new_port, used_ports}
use Rattle.fm_gossip.specs.inner.Works.{WorkModel, work, done_work, IsDone}

told_number : (s : SeatModel) (ops : List Op) → (all_told s ops).number ≡ s.number
told_number s [] = refl
told_number s (op ∷ ops) = told_number (after_call s (call.Tell op) reply.Nothing) ops

merged_number : (s : SeatModel) (ps : List Packet) → (all_merged s ps).number ≡ s.number
merged_number s [] = refl
merged_number s (p ∷ ps) = merged_number (after_call s (call.Merge p) reply.Nothing) ps

rounds_number : (base n : ℕ) (s t : SeatModel) → AreRounds base n s t → t.number ≡ s.number
rounds_number base zero s t h = ap (λ (z : SeatModel). z.number) h
rounds_number base (suc n) s t (m, admitted, before, round) = ap (λ (z : SeatModel). z.number) round.listed ∙ rounds_number base n s m before

intake_number : (tells : List Op) (others : List ℕ) (s t : SeatModel) → IsIntake tells others s t → t.number ≡ s.number
intake_number tells others s t h = ap (λ (z : SeatModel). z.number) h.merges.merges ∙ merged_number (after_call (all_told s tells) (call.Cut Full) (reply.Packet h.packet)) h.merges.packets ∙ told_number s tells

module _ (t : Task) (s : State) (one two : SeatModel) (base : ℕ) (from_start : base ≡ 0) (ended : IsEnded t.number t.limit (one ∷ two ∷ []) s) (intake : IsIntake t.tells t.others (new_seat 1) one) (rounds : AreRounds base t.rounds (new_seat 2) two) where
  first : one ≡ seat_in s.history 1
  first = ended.seats_match 0 one refl ∙ ap (seat_in s.history) (intake_number t.tells t.others (new_seat 1) one intake)

  second : two ≡ seat_in s.history 2
  second = ended.seats_match 1 two refl ∙ ap (seat_in s.history) (rounds_number base t.rounds (new_seat 2) two rounds)

  -- what two seats did, and what the closed coordinator has of them
  did : IsServed t s
  did =
      record {
        number = ended.number;
        limit = ended.limit;
        legal = ended.legal;
        intake = subst (IsIntake t.tells t.others (new_seat 1)) first intake;
        rounds = subst (λ b. AreRounds b t.rounds (new_seat 2) (seat_in s.history 2)) from_start (subst (AreRounds base t.rounds (new_seat 2)) second rounds);
        no_other = ended.no_other;
      }

pub served : (early : Option Early) (w : WorkModel) (s : State) (seats some room new : List SeatModel) (tells : List Op) (number its limit allowed : ℕ) (others : List ℕ) (rounds base place : ℕ) (ports after : List PortModel) (none one nothing two : SeatModel) → work (member_task its allowed tells others rounds) place ports ≡ w → number ≡ its → limit ≡ allowed → 0 ≡ base
    → seats ≡ some ++ two ∷ [] → some ≡ room ++ one ∷ [] → room ≡ new → new ≡ [] → none ≡ new_seat 1 → nothing ≡ new_seat 2
    → IsIntake tells others none one → AreRounds base rounds nothing two → ((bs : List InboxModel) → none.log ≡ [] → ports ≡ map new_port bs → after ≡ used_ports place 0 (passed_in one) bs) → IsEnded number limit seats s → IsDone w (done_work s after early)
served early w s seats some room new tells number its limit allowed others rounds base place ports after none one nothing two is named limited from_start second_pushed first_pushed reserved empty new_one new_two intake ran used ended =
    let these : seats ≡ one ∷ two ∷ [] = second_pushed ∙ ap (λ xs. xs ++ two ∷ []) (first_pushed ∙ ap (λ xs. xs ++ one ∷ []) (reserved ∙ empty)) in
    let over : IsEnded its allowed (one ∷ two ∷ []) s = subst (λ l. IsEnded its allowed l s) these (subst (λ n. IsEnded its n seats s) limited (subst (λ n. IsEnded n limit seats s) named ended)) in
    let t = member_task its allowed tells others rounds in
    let its_intake : IsIntake tells others (new_seat 1) one = subst (λ z. IsIntake tells others z one) new_one intake in
    let its_rounds : AreRounds base rounds (new_seat 2) two = subst (λ z. AreRounds base rounds z two) new_two ran in
    subst (λ u. IsDone u (done_work s after early)) is
    record {
      served = did t s one two base (sym from_start) over its_intake its_rounds;
      used = λ bs new_ports. used bs (ap (λ (z : SeatModel). z.log) new_one) new_ports ∙ ap (λ z. used_ports place 0 (passed_in z) bs) (first t s one two base (sym from_start) over its_intake its_rounds);
    }
