-- Lists of steps that are made of the histories of coordinators. Linearizations of histories, after the happened-before
-- order of messages (Lamport): a packet is cut before it is merged.
use Rattle.std.specs.Prelude.{◌≡◌, ◌≤◌, ◌==◌, ℕ, nat_lt, cond, List, [], ◌∷◌, ◌++◌, length, Option, Some, None, map, filter}
use Rattle.std.specs.List.{position_or_len}
use Rattle.fm_records.specs.Sets.{IsMember}
use Rattle.fm_delta.specs.declared.packet.Packet.{Packet}
use Rattle.fm_delta.specs.Packets.{same_packet}
use Rattle.fm_coord.specs.declared.entry.Call.{Call}
use Rattle.fm_coord.specs.declared.entry.Call.TheVariants as call
use Rattle.fm_coord.specs.declared.entry.Reply.{Reply}
use Rattle.fm_coord.specs.declared.entry.Reply.TheVariants as reply
use Rattle.fm_coord.specs.declared.entry.Entry.{Entry}
use Rattle.fm_coord.specs.States.{State, IsCoordinator}
use Rattle.fm_world.specs.declared.step.Act.{Act}
use Rattle.fm_world.specs.declared.step.Act.TheVariants as act
use Rattle.fm_world.specs.declared.step.Step.{Step}
use Rattle.fm_world.specs.Worlds.{WorldOfSets, opening_world, run_of}
use Rattle.fm_world.specs.Represents.{state_with, WorldRepresents}

-- an entry, with the number of the coordinator in whose history it is
pub record Made : Type 0 where
  pub at : ℕ
  pub entry : Entry

-- the entries of the coordinator with the number, in order
abbrev pub entries_at : ℕ → List Made → List Entry
entries_at n [] = []
entries_at n (m ∷ ms) = cond (m.at == n) (m.entry ∷ entries_at n ms) (entries_at n ms)

abbrev pub history_in : Option State → List Entry
history_in None = []
history_in (Some s) = s.history

-- the history of the coordinator with the number, empty if there is none
abbrev pub history_at : List State → ℕ → List Entry
history_at ss n = history_in (state_with ss n)

-- the packet that a reply gives
abbrev pub packet_in : Reply → List Packet
packet_in (reply.Packet p) = p ∷ []
packet_in r = []

-- the packets that entries gave, in order
abbrev pub packets_of : List Made → List Packet
packets_of [] = []
packets_of (m ∷ ms) = packet_in m.entry.reply ++ packets_of ms

-- what a call needs of the packets that were cut before: a merge, that its own is one of them
abbrev pub IsGiven : List Packet → Call → Type 0
IsGiven ps (call.Merge p) = IsMember p ps
IsGiven ps c = Unit {0}

-- after these packets, each merge follows a cut of an equal packet
abbrev pub Follows : List Packet → List Made → Type 0
Follows ps [] = Unit {0}
Follows ps (m ∷ ms) = IsGiven ps m.entry.call × Follows (ps ++ packet_in m.entry.reply) ms

-- the entries that come after the first ones
pub record Continues (all first : List Entry) : Type 0 where
  pub rest : List Entry
  pub is : all ≡ first ++ rest

-- a listing: prefixes of the histories, merged into one list in which each merge follows its packet's cut
pub record IsListing (ss : List State) (ms : List Made) : Type 0 where
  pub prefixes : (n : ℕ) → Continues (history_at ss n) (entries_at n ms)
  pub follows : Follows [] ms

-- a whole listing: each history to its end, each entry once and no other
pub record IsWhole (ss : List State) (ms : List Made) : Type 0 where
  pub entries : (n : ℕ) → entries_at n ms ≡ history_at ss n
  pub follows : Follows [] ms

-- what is asked for by a call, given that these packets were cut before: a merge names the earliest equal packet
abbrev pub act_for : List Packet → Call → Act
act_for ps (call.Tell op) = act.Tell op
act_for ps (call.Merge p) = act.Deliver (position_or_len (λ q. same_packet q p) ps)
act_for ps (call.Cut range) = act.Cut range
act_for ps (call.Trim n) = act.Trim n
act_for ps call.View = act.View
act_for ps (call.Commit plan) = act.Commit plan

abbrev pub step_for : List Packet → Made → Step
step_for ps m = record { at = m.at; by = m.entry.by; act = act_for ps m.entry.call }

-- the entries as steps, given that these packets were cut before
abbrev pub steps_for : List Packet → List Made → List Step
steps_for ps [] = []
steps_for ps (m ∷ ms) = step_for ps m ∷ steps_for (ps ++ packet_in m.entry.reply) ms

-- no next entry, or a merge of a packet that is not there
abbrev pub CannotGo : List Packet → List Entry → Type 0
CannotGo ps [] = Unit {0}
CannotGo ps (e ∷ es) = IsGiven ps e.call → ⊥

-- the entries that come after the first ones, of which the next cannot be taken
pub record StopsAfter (packets : List Packet) (all first : List Entry) : Type 0 where
  pub rest : List Entry
  pub is : all ≡ first ++ rest
  pub stop : CannotGo packets rest

-- a listing is stuck: the next entry of each coordinator that has one is a merge of a packet that no listed cut gave
abbrev pub IsStuck : List State → List Made → Type 0
IsStuck ss ms = (n : ℕ) → StopsAfter (packets_of ms) (history_at ss n) (entries_at n ms)

-- a listing is maximal: no listing has more of any coordinator
abbrev pub IsMaximal : List State → List Made → Type 0
IsMaximal ss ms = (other : List Made) → IsListing ss other → (n : ℕ) → length (entries_at n other) ≤ length (entries_at n ms)

abbrev pub number_in : State → ℕ
number_in s = s.number

-- the numbers of the coordinators with entries beyond those that are listed, in order
abbrev pub left_of : List State → List Made → List ℕ
left_of ss ms = map number_in (filter (λ s. nat_lt (length (entries_at s.number ms)) (length s.history)) ss)

abbrev pub opening_in : State → ℕ × ℕ
opening_in s = (s.number, s.limit)

-- a world to which nothing happened, of replicas with these coordinators' numbers and limits
abbrev pub new_world_of : List State → WorldOfSets
new_world_of ss = opening_world (map opening_in ss)

-- the steps are a whole listing, and lead to a world for which the coordinators stand
pub record IsWholeRun (ss : List State) (steps : List Step) : Type 0 where
  pub made : List Made
  pub whole : IsWhole ss made
  pub as_steps : steps ≡ steps_for [] made
  pub stands : WorldRepresents (record { coordinators = ss; packets = packets_of made }) (run_of (new_world_of ss) steps)

-- the steps are a listing to which nothing can be added, and which leaves entries of exactly these coordinators, in
-- order
pub record Halts (ss : List State) (left : List ℕ) (steps : List Step) : Type 0 where
  pub made : List Made
  pub listing : IsListing ss made
  pub as_steps : steps ≡ steps_for [] made
  pub leaves : left ≡ left_of ss made
  pub stuck : IsStuck ss made
  pub maximal : IsMaximal ss made

-- what holds of every coordinator holds of each of these
abbrev pub AreCoordinators : List State → Type 0
AreCoordinators [] = Unit {0}
AreCoordinators (s ∷ ss) = IsCoordinator s × AreCoordinators ss
