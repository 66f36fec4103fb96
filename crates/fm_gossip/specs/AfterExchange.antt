-- What coordinators agree on once they exchanged all that they know (delta-state CRDTs).
use Rattle.std.specs.Prelude.{◌≡◌, List}
use Rattle.fm_records.specs.Sets.{IsMember}
use Rattle.fm_delta.specs.declared.packet.Packet.{Packet}
use Rattle.fm_coord.specs.declared.entry.Entry.{Entry}
use Rattle.fm_coord.specs.declared.entry.Call.TheVariants as call
use Rattle.fm_coord.specs.declared.entry.Reply.TheVariants as reply
use Rattle.fm_coord.specs.States.{State}

-- any two of the coordinators know the same
abbrev pub KnowSame : List State → Type 0
KnowSame ss = (s t : State) → IsMember s ss → IsMember t ss → s.knowledge ≡ t.knowledge

-- the coordinator merged this packet; it cut this packet
abbrev pub HasMerged : State → Packet → Type 0
HasMerged s p = (e : Entry) × IsMember e s.history × (e.call ≡ call.Merge p)

abbrev pub HasCut : State → Packet → Type 0
HasCut s p = (e : Entry) × IsMember e s.history × (e.reply ≡ reply.Packet p)

-- the coordinator is the packet's sender, and cut it, and no other of its number
pub record IsCutOf (s : State) (p : Packet) : Type 0 where
  pub sender : s.number ≡ p.sender
  pub cut : HasCut s p
  pub only : (q : Packet) → HasCut s q → q.number ≡ p.number → q ≡ p

-- each packet that one of the coordinators merged was cut by the one that it names
abbrev pub AreCutBySenders : List State → Type 0
AreCutBySenders ss = (s : State) (p : Packet) → IsMember s ss → HasMerged s p → (r : State) × IsMember r ss × IsCutOf r p
