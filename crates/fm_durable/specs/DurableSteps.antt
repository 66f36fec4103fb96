-- A stream whose coordinators' knowledge is in a store (this project's profile): its lines are answered as those of any stream, and answers go
-- out once what they rest on is in the store.
use Rattle.std.specs.Prelude.{◌≡◌, ◌⊎◌, ◌<◌, ℕ, ◌++◌, List, [], map, All, Option, Some, None, IfSome}
use Rattle.fm_records.specs.declared.ops.Op.{Op}
use Rattle.fm_records.specs.Know.{table_of}
use Rattle.fm_records.specs.Ranges.{CanBe}
use Rattle.fm_delta.specs.declared.packet.Packet.{Packet}
use Rattle.fm_coord.specs.Events.{Replica}
use Rattle.fm_coord.specs.Replays.{seen_packet}
use Rattle.fm_world.specs.Worlds.{with_number}
use Rattle.fm_store.specs.Heads.{HeadModel}
use Rattle.fm_store.specs.Stores.{AreFoundIn, recovered}
use Rattle.fm_store.specs.KnownPackets.{known_packets}
use Rattle.fm_service.specs.StreamSteps.{Following, Answers}
use Rattle.fm_service.specs.Storing.{numbers_listed, unstored_of, full_packets_of, all_stored, Restores}

-- where such a stream is: where its lines led, and whose store it has, with which packets
pub record Durable : Type 0 where
  pub following : Option Following
  pub head : HeadModel
  pub packets : List Packet

-- whose store it is: the label that was given, and the coordinators in the order in which they were listed
abbrev pub store_head : List ℕ → Option Following → HeadModel
store_head label following = record { label = label; numbers = numbers_listed following }

-- before the first line
abbrev pub not_opened : List ℕ → Durable
not_opened label = record { following = None; head = store_head label None; packets = [] }

-- coordinators that were just listed begin with what they knew by the packets that are found in the content of the device
pub record OpensStore (behind : Packet → List Op) (label : List ℕ) (content : Option (List ℕ)) (k : Following) (t : Durable) : Type 0 where
  pub head : t.head ≡ store_head label (Some k)
  pub found : IfSome content (AreFoundIn t.head t.packets)
  pub can_be : All (λ p. CanBe p.value) t.packets
  pub begun : Following
  pub restores : Restores behind k (known_packets (numbers_listed (Some k)) t.packets) begun
  pub is : t.following ≡ Some begun

-- what a line that led so far does to the store: if it listed the coordinators, their store is opened; else nothing
abbrev pub GoesOn : (Packet → List Op) → List ℕ → Option (List ℕ) → Durable → Option Following → Option Following → Durable → Type 0
GoesOn behind label content s None (Some k) t = OpensStore behind label content k t
GoesOn behind label content s old mid t = t ≡ record { following = mid; head = s.head; packets = s.packets }

-- a line is answered as by any stream
pub record DurableAnswers (most : ℕ) (behind : Packet → List Op) (label : List ℕ) (content : Option (List ℕ)) (s : Durable) (line answer : List ℕ) (t : Durable) : Type 0 where
  pub mid : Option Following
  pub answered : Answers most behind s.following line answer mid
  pub goes_on : GoesOn behind label content s s.following mid t

-- with what is not stored added to the store
abbrev pub with_unstored : Durable → Option Following → Durable
with_unstored s None = record { following = None; head = s.head; packets = s.packets }
with_unstored s (Some k) = record { following = Some (all_stored k); head = s.head; packets = s.packets ++ map seen_packet (unstored_of k) }

-- with all that each coordinator knows in the place of what the store has: compaction
abbrev pub with_full : Durable → Option Following → Durable
with_full s None = record { following = None; head = s.head; packets = s.packets }
with_full s (Some k) = record { following = Some (all_stored k); head = s.head; packets = map seen_packet (full_packets_of k) }

abbrev pub DurableCommits : Durable → Durable → Type 0
DurableCommits s t = (t ≡ with_unstored s s.following) ⊎ (t ≡ with_full s s.following)

-- each coordinator, whose number is a byte, would know again, by its packets in the store, what it knows
abbrev pub AreRecoverable : Durable → Type 0
AreRecoverable t = (k : Following) (n : ℕ) (r : Replica) → n < 256 → t.following ≡ Some k → with_number k.world.replicas n ≡ Some r → recovered n t.packets ≡ table_of r.taken
