-- Packets that the members of a fleet pass on to one another (this project's profile).
use Rattle.std.specs.Prelude.{◌≡◌, ℕ, List, [], ◌∷◌, ◌++◌, slice_get, Some}
use Rattle.fm_delta.specs.declared.packet.Packet.{Packet}
use Rattle.fm_inbox.specs.Conservation.{SamePackets}
use Rattle.fm_coord.specs.declared.entry.Call.{Call}
use Rattle.fm_coord.specs.declared.entry.Call.TheVariants as call
use Rattle.fm_coord.specs.declared.entry.Reply.{Reply}
use Rattle.fm_coord.specs.declared.entry.Reply.TheVariants as reply
use Rattle.fm_coord.specs.declared.entry.Entry.{Entry}
use Rattle.fm_coord.specs.States.{State}
use Rattle.fm_fleet.specs.Seats.{SeatModel}
use Rattle.fm_gossip.specs.Served.{seat_in}

-- the packet that a call merges, and the one that a reply gives
abbrev pub merged_by : Call → List Packet
merged_by (call.Merge p) = p ∷ []
merged_by c = []

abbrev pub given_by : Reply → List Packet
given_by (reply.Packet p) = p ∷ []
given_by r = []

-- the packets that were merged, and those that were cut, in order
abbrev pub merges_in : List Entry → List Packet
merges_in [] = []
merges_in (e ∷ es) = merged_by e.call ++ merges_in es

abbrev pub cuts_in : List Entry → List Packet
cuts_in [] = []
cuts_in (e ∷ es) = given_by e.reply ++ cuts_in es

-- what a member sent to each of the others, and what it got from them, in order
pub record Passed : Type 0 where
  pub sent : List Packet
  pub got : List Packet

abbrev pub passing : List Packet → List Packet → Passed
passing sent got = record { sent = sent; got = got }

-- an intake sends what it cuts, and merges what it gets
abbrev pub passed_in : SeatModel → Passed
passed_in s = passing (cuts_in s.log) (merges_in s.log)

-- what a coordinator's intake sent and got
abbrev pub passed_at : State → Passed
passed_at s = passed_in (seat_in s.history 1)

-- all that members sent
abbrev pub all_sent : List Passed → List Packet
all_sent [] = []
all_sent (m ∷ ms) = m.sent ++ all_sent ms

-- nothing was lost, and nothing was given twice: what a member got and what it sent is what all sent, each packet as often
abbrev pub ArePassedOn : List Passed → Type 0
ArePassedOn ms = (i : ℕ) (m : Passed) → slice_get ms i ≡ Some m → SamePackets (m.got ++ m.sent) (all_sent ms)
