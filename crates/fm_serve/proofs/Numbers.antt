-- The numbers of a fleet's coordinators are those that are listed, before and after they exchanged what they know.
use Rattle.std.proofs.Common.{◌≡◌, ℕ, List, [], ◌∷◌, map, refl, ap, ◌∙◌}
use Rattle.fm_delta.specs.declared.packet.Packet.{Packet}
use Rattle.fm_coord.specs.declared.entry.Call.TheVariants as call
use Rattle.fm_coord.specs.declared.entry.Reply.TheVariants as reply
use Rattle.fm_coord.specs.States.{State, WithKeeper, history_entry, took}
use Rattle.fm_world.specs.Represents.{state_of, number_of}
use Rattle.fm_world.specs.Listings.{number_in}
use Rattle.fm_gossip.specs.Served.{AreServed}
use Rattle.fm_gossip.specs.Members.{MemberModel, task_of, member_tasks}
use Rattle.fm_gossip.specs.Exchanges.{whole_packet, cut_off, merged_in, of_others, told_by_others, after_exchange}
use Rattle.fm_script.specs.declared.script.Tell.{Tell}
use Rattle.fm_gossip.proofs.Numbers.{numbers_of}
use Rattle.fm_serve.specs.Musters.{members_of}

served_numbers : (numbers : List ℕ) (rounds : ℕ) (ms : List MemberModel) (ss : List State) → AreServed (map (task_of numbers rounds) ms) ss → map number_in ss ≡ map (λ m. m.number) ms
served_numbers numbers rounds [] [] h = refl
served_numbers numbers rounds [] (s ∷ ss) h = absurd h
served_numbers numbers rounds (m ∷ ms) [] h = absurd h
served_numbers numbers rounds (m ∷ ms) (s ∷ ss) h = λ i. h.0.number i ∷ served_numbers numbers rounds ms ss h.1 i

listed_numbers : (listed : List ℕ) (tells : List Tell) → map (λ m. m.number) (members_of listed tells) ≡ listed
listed_numbers [] tells = refl
listed_numbers (n ∷ ns) tells = ap (λ all. n ∷ all) (listed_numbers ns tells)

-- those that did what a member for each number was to do have these numbers
pub closed_numbers : (numbers : List ℕ) (rounds : ℕ) (listed : List ℕ) (tells : List Tell) (ss : List State) → AreServed (map (task_of numbers rounds) (members_of listed tells)) ss → map number_in ss ≡ listed
closed_numbers numbers rounds listed tells ss h = served_numbers numbers rounds (members_of listed tells) ss h ∙ listed_numbers listed tells

merged_number : (ps : List Packet) (s : State) → (merged_in s ps).number ≡ s.number
merged_number [] s = refl
merged_number (p ∷ ps) s = merged_number ps (took s p.value (history_entry 0 (call.Merge p) reply.Nothing))

told_numbers : (ps : List Packet) (ss : List State) → map number_in (map (told_by_others ps) (map cut_off ss)) ≡ map number_in ss
told_numbers ps [] = refl
told_numbers ps (s ∷ ss) = λ i. merged_number (of_others s.number ps) (cut_off s) i ∷ told_numbers ps ss i

pub exchanged_numbers : (ss : List State) → map number_in (after_exchange ss) ≡ map number_in ss
exchanged_numbers ss = told_numbers (map whole_packet ss) ss

-- so of the coordinators of a muster, before and after their exchange

pub listed_before : {N : Type 0} (rounds : ℕ) (listed : List ℕ) (tells : List Tell) (closed : List (WithKeeper N)) → AreServed (member_tasks rounds (members_of listed tells)) (map state_of closed) → map number_of closed ≡ listed
listed_before rounds listed tells closed served = numbers_of closed ∙ closed_numbers (map (λ m. m.number) (members_of listed tells)) rounds listed tells (map state_of closed) served

pub listed_after : {N : Type 0} (rounds : ℕ) (listed : List ℕ) (tells : List Tell) (closed now : List (WithKeeper N)) → AreServed (member_tasks rounds (members_of listed tells)) (map state_of closed) → map state_of now ≡ after_exchange (map state_of closed) → map number_of now ≡ listed
listed_after rounds listed tells closed now served after =
    numbers_of now ∙ ap (map number_in) after ∙ exchanged_numbers (map state_of closed) ∙ closed_numbers (map (λ m. m.number) (members_of listed tells)) rounds listed tells (map state_of closed) served
