-- What coordinators that received the same operations have in common.
use Rattle.std.specs.Prelude.{◌≡◌, ℕ, List, Option, Some, None}
use Rattle.std.specs.Io.KnownBytes.{Appends}
use Rattle.fm_records.specs.Sets.{HaveSameMembers}
use Rattle.fm_records.specs.Know.{table_of, winner}
use Rattle.fm_records.specs.Facts.{winner_of}
use Rattle.fm_net.specs.Network.{net_of}
use Rattle.fm_dimacs.specs.Text.{dump_text}
use Rattle.fm_coord.specs.Events.{Replica}
use Rattle.fm_coord.specs.States.{State}
use Rattle.fm_world.specs.Worlds.{WorldOfSets, with_number}
use Rattle.fm_world.specs.Represents.{Kept, state_with}

-- the coordinator with the number keeps s, if the world of sets has the replica r
pub record IsRepresentedAt (k : Kept) (w : WorldOfSets) (n : ℕ) (s : State) (r : Replica) : Type 0 where
  pub state : state_with k.coordinators n ≡ Some s
  pub replica : with_number w.replicas n ≡ Some r

-- its knowledge is the table of all that the replica received, with the winners of these operations
pub record Knows (s : State) (r : Replica) : Type 0 where
  pub knowledge : s.knowledge ≡ table_of r.taken
  pub winners : (task attempt : ℕ) → winner_of s.knowledge task attempt ≡ winner r.taken (task, attempt)

-- the coordinators have equal knowledge, name the same winner for each attempt of each task, and have one network
pub record Agree (s t : State) : Type 0 where
  pub knowledge : s.knowledge ≡ t.knowledge
  pub winners : (task attempt : ℕ) → winner_of s.knowledge task attempt ≡ winner_of t.knowledge task attempt
  pub networks : net_of s.knowledge ≡ net_of t.knowledge

-- each coordinator's knowledge is the table of what its replica received
abbrev pub EachKnows : Kept → WorldOfSets → Type 0
EachKnows k w = (n : ℕ) (s : State) (r : Replica) → IsRepresentedAt k w n s r → Knows s r

-- any two coordinators whose replicas received the same operations agree, in whatever order, number of times and
-- packets these arrived
abbrev pub SameAgree : Kept → WorldOfSets → Type 0
SameAgree k w =
    (m n : ℕ) (s t : State) (a b : Replica) → IsRepresentedAt k w m s a → IsRepresentedAt k w n t b → HaveSameMembers a.taken b.taken → Agree s t

-- what was written is the text of the network of what the replica received, and nothing else; there is such a replica
abbrev pub IsDumpOf : Option Replica → Option (List ℕ) → Option (List ℕ) → Type 0
IsDumpOf None old new = ⊥
IsDumpOf (Some r) old new = Appends old new (dump_text (net_of (table_of r.taken)))
