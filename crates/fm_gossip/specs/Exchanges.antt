-- Coordinators that exchange all that they know, once their threads have ended (this project's profile).
use Rattle.std.specs.Prelude.{◌≡◌, ◌⊎◌, ℕ, ◌==◌, not, List, [], ◌∷◌, ◌++◌, map, filter}
use Rattle.fm_records.specs.declared.refusal.Refusal.{Refusal}
use Rattle.fm_records.specs.declared.refusal.Refusal.TheVariants.{OutOfMemory, HistoryFull}
use Rattle.fm_delta.specs.declared.packet.Packet.{Packet}
use Rattle.fm_coord.specs.declared.entry.Range.TheVariants.{Full}
use Rattle.fm_coord.specs.declared.entry.Call.TheVariants as call
use Rattle.fm_coord.specs.declared.entry.Reply.TheVariants as reply
use Rattle.fm_coord.specs.States.{State, history_entry, gave, took, cut_packet}

-- the packet of all that a coordinator knows, and the coordinator once it was cut, by its owner
abbrev pub whole_packet : State → Packet
whole_packet s = cut_packet s Full

abbrev pub cut_off : State → State
cut_off s = gave s (history_entry 0 (call.Cut Full) (reply.Packet (whole_packet s)))

-- the coordinator once it merged these packets, in order
abbrev pub merged_in : State → List Packet → State
merged_in s [] = s
merged_in s (p ∷ ps) = merged_in (took s p.value (history_entry 0 (call.Merge p) reply.Nothing)) ps

-- the packets that others sent
abbrev pub of_others : ℕ → List Packet → List Packet
of_others n ps = filter (λ p. not (p.sender == n)) ps

-- the coordinator once it merged the packets of the others
abbrev pub told_by_others : List Packet → State → State
told_by_others ps s = merged_in s (of_others s.number ps)

-- each cut all that it knows, and then merged the packet of each of the others
abbrev pub after_exchange : List State → List State
after_exchange ss = map (told_by_others (map whole_packet ss)) (map cut_off ss)

-- by which numbers an exchange is refused: out of memory, or a full history. That a history is full is not said
abbrev pub StopsExchange : Refusal → Type 0
StopsExchange r = (r ≡ OutOfMemory) ⊎ (r ≡ HistoryFull)

-- what an exchange that was refused while they cut leaves: the first of them cut all that they know, and the others are as they were
pub record AreLeftCutting (olds news : List State) : Type 0 where
  pub cut : List State
  pub uncut : List State
  pub were : olds ≡ cut ++ uncut
  pub are : news ≡ map cut_off cut ++ uncut

-- the coordinator merged the packets of the others up to one that was refused, and none from there on
pub record IsLeftMerging (packets : List Packet) (old new : State) : Type 0 where
  pub merged : List Packet
  pub refused : Packet
  pub later : List Packet
  pub of : of_others old.number packets ≡ merged ++ refused ∷ later
  pub is : new ≡ merged_in old merged

-- and one that was refused while they merge: the first of them merged all packets of the others, the next one those up to the refused
-- one, and the others none
pub record AreLeftMerging (packets : List Packet) (olds news : List State) : Type 0 where
  pub told : List State
  pub old : State
  pub new : State
  pub untold : List State
  pub were : olds ≡ told ++ old ∷ untold
  pub are : news ≡ map (told_by_others packets) told ++ new ∷ untold
  pub midst : IsLeftMerging packets old new

-- what a refused exchange leaves: it was refused while they cut, or while they merge, once all had cut
abbrev pub AreLeft : List State → List State → Type 0
AreLeft olds news = AreLeftCutting olds news ⊎ AreLeftMerging (map whole_packet olds) (map cut_off olds) news
