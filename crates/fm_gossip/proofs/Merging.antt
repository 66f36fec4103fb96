-- Packets that are merged one after another.
use Rattle.std.proofs.Common.{◌≡◌, ℕ, zero, suc, List, [], ◌∷◌, ◌++◌, All, map, subst, sym, refl, ap, ◌∙◌, arith, get_or}
use Rattle.std.specs.Prelude.{slice_get, Some}
use Rattle.std.specs.List.{remove}
use Rattle.std.specs.List.Sorted.{IsPermutation}
use Rattle.std.proofs.lemmas.List.{map-append, append-nil}
use Rattle.std.proofs.lemmas.List.Elements.{All-append, All-nil}
use Rattle.std.proofs.lemmas.List.Sorted.{IsPermutation-more, IsPermutation-refl}
use Rattle.std.proofs.lemmas.Option.{slice_get_within, get_or_from_slice_get}
use Rattle.fm_delta.specs.declared.packet.Packet.{Packet}
use Rattle.fm_inbox.specs.Ports.{PortModel, after_take}
use Rattle.fm_coord.specs.declared.entry.Call.TheVariants as call
use Rattle.fm_coord.specs.declared.entry.Reply.TheVariants as reply
use Rattle.fm_fleet.specs.Seats.{SeatModel, after_call}
use Rattle.fm_gossip.specs.Served.{all_merged, sender_of, IsFirst, AreMerged}
use Rattle.fm_gossip.specs.inner.Used.{after_takes}

-- packets were merged so far, and those of the others are still awaited
pub record AreSoFar (others left : List ℕ) (s t : SeatModel) (q r : PortModel) : Type 0 where
  pub packets : List Packet
  pub senders : IsPermutation others (map sender_of packets ++ left)
  pub first : All IsFirst packets
  pub merges : t ≡ all_merged s packets
  pub takes : r ≡ after_takes q packets

merged_last : (s : SeatModel) (ps : List Packet) (p : Packet) → all_merged s (ps ++ p ∷ []) ≡ after_call (all_merged s ps) (call.Merge p) reply.Nothing
merged_last s [] p = refl
merged_last s (q ∷ ps) p = merged_last (after_call s (call.Merge q) reply.Nothing) ps p

taken_last : (q : PortModel) (ps : List Packet) (p : Packet) → after_takes q (ps ++ p ∷ []) ≡ after_take (after_takes q ps) p
taken_last q [] p = refl
taken_last q (x ∷ ps) p = taken_last (after_take q x) ps p

alone : (p : Packet) → IsFirst p → All IsFirst (p ∷ [])
alone p h zero d lt = h
alone p h (suc k) d lt = absurd (omega (arith, lt))

pub none_merged : (others : List ℕ) (s : SeatModel) (q : PortModel) → AreSoFar others others s s q q
none_merged others s q = record { packets = []; senders = IsPermutation-refl others; first = All-nil IsFirst; merges = refl; takes = refl }

pub one_merged : (others left now : List ℕ) (s t u : SeatModel) (q r w : PortModel) (p : Packet) (i : ℕ) → AreSoFar others left s t q r → IsFirst p → slice_get left i ≡ Some p.sender → now ≡ remove left i → u ≡ after_call t (call.Merge p) reply.Nothing → w ≡ after_take r p → AreSoFar others now s u q w
one_merged others left now s t u q r w p i so_far is_first at out merge take =
    let there = slice_get_within left i p.sender at in
    let read : p.sender ≡ get_or left i p.sender = sym (get_or_from_slice_get left i p.sender p.sender at) in
    let more : IsPermutation others ((map sender_of so_far.packets ++ p.sender ∷ []) ++ remove left i) = IsPermutation-more others (map sender_of so_far.packets) left i p.sender there read so_far.senders in
    record {
      packets = so_far.packets ++ p ∷ [];
      senders = subst (λ n. IsPermutation others (map sender_of (so_far.packets ++ p ∷ []) ++ n)) (sym out)
          (subst (λ z. IsPermutation others (z ++ remove left i)) (sym (map-append sender_of so_far.packets (p ∷ []))) more);
      first = All-append IsFirst so_far.packets (p ∷ []) so_far.first (alone p is_first);
      merges = merge ∙ ap (λ (z : SeatModel). after_call z (call.Merge p) reply.Nothing) so_far.merges ∙ sym (merged_last s so_far.packets p);
      takes = take ∙ ap (λ (z : PortModel). after_take z p) so_far.takes ∙ sym (taken_last q so_far.packets p);
    }

pub all_came : (others left : List ℕ) (s t : SeatModel) (q r : PortModel) → left ≡ [] → AreSoFar others left s t q r → (merged : AreMerged others s t) × (r ≡ after_takes q merged.packets)
all_came others left s t q r none so_far = (
  record {
    packets = so_far.packets;
    senders = subst (IsPermutation others) (append-nil (map sender_of so_far.packets)) (subst (λ n. IsPermutation others (map sender_of so_far.packets ++ n)) none so_far.senders);
    first = so_far.first;
    merges = so_far.merges;
  },
  so_far.takes,
)
