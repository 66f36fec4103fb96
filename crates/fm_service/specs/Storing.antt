-- What of a stream is stored, and what is not stored yet (this project's profile). Packets are stored; what a coordinator took in since is in its
-- deltas from its stored mark on.
use Rattle.std.specs.Prelude.{◌≡◌, ℕ, ◌≤◌, ◌<◌, ◌==◌, ◌++◌, cond, nat_le, nat_lt, List, [], ◌∷◌, length, drop, map, filter, get_or, Option, Some, None, option_map}
use Rattle.std.specs.List.{filter_map, range_with_len}
use Rattle.fm_records.specs.declared.ops.Op.{Op}
use Rattle.fm_records.specs.declared.refusal.Refusal.{Refusal}
use Rattle.fm_records.specs.Options.{when}
use Rattle.fm_records.specs.Sets.{HaveSameMembers, union}
use Rattle.fm_delta.specs.declared.packet.Packet.{Packet}
use Rattle.fm_coord.specs.declared.entry.Range.{Range}
use Rattle.fm_coord.specs.declared.entry.Range.TheVariants.{Full}
use Rattle.fm_coord.specs.Events.{Sent, Replica, set_of}
use Rattle.fm_world.specs.declared.step.Act.TheVariants.{Take}
use Rattle.fm_world.specs.Worlds.{WorldOfSets, with_number, cause_of, refusal_of, taken_in}
use Rattle.fm_service.specs.Renewing.{whole_of}
use Rattle.fm_service.specs.WorldSteps.{step_at}
use Rattle.fm_service.specs.StreamSteps.{Following, at_world, news_since, packet_by_ops}

-- the numbers of the coordinators, in the order in which they were listed; none before that
abbrev pub numbers_listed : Option Following → List ℕ
numbers_listed None = []
numbers_listed (Some k) = map (λ r. r.number) k.world.replicas

-- up to which delta the deltas of the coordinator with the number are stored
abbrev pub stored_mark_at : Following → ℕ → ℕ
stored_mark_at k n = get_or k.stored_marks n 0

-- the deltas of a replica from the mark on; or all that it took in, if some of these were trimmed, or if its history is full, so that no
-- interval can be cut any more
abbrev pub unstored_range : ℕ → Replica → Range
unstored_range mark r = cond (nat_le r.limit (length r.steps)) Full (news_since mark r)

-- these as a packet with the number 0, if there are deltas from the mark on
abbrev pub unstored_packet : ℕ → Replica → Option Sent
unstored_packet mark r = when (nat_lt mark (length r.buffer)) (record { sender = r.number; number = 0; set = set_of r (unstored_range mark r) })

-- the same of a replica, if there is one
abbrev pub unstored_by : ℕ → Option Replica → Option Sent
unstored_by mark None = None
unstored_by mark (Some r) = unstored_packet mark r

abbrev pub unstored_at : Following → ℕ → Option Sent
unstored_at k n = unstored_by (stored_mark_at k n) (with_number k.world.replicas n)

-- what is not stored of each coordinator, in the order in which they were listed
abbrev pub unstored_of : Following → List Sent
unstored_of k = filter_map (unstored_at k) (numbers_listed (Some k))

-- the same of any stream: nothing before the coordinators are listed
abbrev pub unstored_in : Option Following → List Sent
unstored_in None = []
unstored_in (Some k) = unstored_of k

-- all that the coordinator with the number took in, as one packet, if there is one
abbrev pub full_packet_at : Following → ℕ → Option Sent
full_packet_at k n = option_map whole_of (with_number k.world.replicas n)

-- the same of each coordinator, in the order in which they were listed
abbrev pub full_packets_of : Following → List Sent
full_packets_of k = filter_map (full_packet_at k) (numbers_listed (Some k))

-- the same of any stream: nothing before the coordinators are listed
abbrev pub full_packets_in : Option Following → List Sent
full_packets_in None = []
full_packets_in (Some k) = full_packets_of k

-- how many deltas a replica has, if there is one
abbrev pub end_in : Option Replica → ℕ
end_in None = 0
end_in (Some r) = length r.buffer

-- up to which delta all deltas are stored: for each number from 0 to 255, how many the coordinator with the number has
abbrev pub ends_of : List Replica → List ℕ
ends_of rs = map (λ n. end_in (with_number rs n)) (range_with_len 0 256)

-- the same, with all deltas stored
abbrev pub all_stored : Following → Following
all_stored k = record { named = k.named; marks = k.marks; own_marks = k.own_marks; stored_marks = ends_of k.world.replicas; world = k.world }

-- the packets are merged one after another, each by the coordinator that is its sender
abbrev pub restored_world : (Packet → List Op) → WorldOfSets → List Packet → WorldOfSets
restored_world behind w [] = w
restored_world behind w (p ∷ ps) = restored_world behind (taken_in w p.sender 0 (packet_by_ops behind p)) ps

-- none of these merges has a cause of refusal
abbrev pub AreRestorable : (Packet → List Op) → WorldOfSets → List Packet → Type 0
AreRestorable behind w [] = Unit {0}
AreRestorable behind w (p ∷ ps) = (cause_of w (step_at p.sender (Take p)) ≡ None) × AreRestorable behind (taken_in w p.sender 0 (packet_by_ops behind p)) ps

abbrev pub restored : (Packet → List Op) → Following → List Packet → Following
restored behind k packets = at_world k (restored_world behind k.world packets)

-- stored packets are merged, and all is stored
pub record Restores (behind : Packet → List Op) (k : Following) (packets : List Packet) (j : Following) : Type 0 where
  pub accepted : AreRestorable behind k.world packets
  pub is : j ≡ all_stored (restored behind k packets)

-- a packet cannot be merged; those before it were
pub record RestoresUntil (behind : Packet → List Op) (k : Following) (packets : List Packet) (refusal : Refusal) (j : Following) : Type 0 where
  pub before : List Packet
  pub packet : Packet
  pub rest : List Packet
  pub are : packets ≡ before ++ packet ∷ rest
  pub accepted : AreRestorable behind k.world before
  pub cause : refusal ≡ refusal_of (restored behind k before).world (step_at packet.sender (Take packet))
  pub is : j ≡ restored behind k before

-- of a replica: the operations S are stored, and its deltas from the mark on are not; together they are all that it took in
pub record IsStoredUpTo (S : List Op) (mark : ℕ) (r : Replica) : Type 0 where
  pub within : mark ≤ length r.buffer
  pub together : HaveSameMembers (S ++ union (drop mark r.buffer)) r.taken

-- the same of each coordinator of a stream, of whose operations S are stored by its number, which is a byte
abbrev pub AreStored : (ℕ → List Op) → Following → Type 0
AreStored S k = (n : ℕ) (r : Replica) → n < 256 → with_number k.world.replicas n ≡ Some r → IsStoredUpTo (S n) (stored_mark_at k n) r

-- nothing is stored
abbrev pub nothing_stored : ℕ → List Op
nothing_stored n = []

-- the sets of the packets whose sender has the number
abbrev pub sets_from : ℕ → List Sent → List (List Op)
sets_from n packets = map (λ p. p.set) (filter (λ p. p.sender == n) packets)

-- what is stored once these packets are stored too
abbrev pub stored_also : (ℕ → List Op) → List Sent → ℕ → List Op
stored_also S packets n = S n ++ union (sets_from n packets)

-- no coordinator took anything in
abbrev pub HaveNothing : Following → Type 0
HaveNothing k = (n : ℕ) (r : Replica) → with_number k.world.replicas n ≡ Some r → r.taken ≡ []
