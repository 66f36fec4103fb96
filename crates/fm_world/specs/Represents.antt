-- The state of a world of coordinators, and for which world of sets it stands.
use Rattle.std.specs.Prelude.{◌≡◌, ◌==◌, ℕ, cond, List, [], ◌∷◌, length, Option, Some, None, map}
use Rattle.fm_delta.specs.declared.packet.Packet.{Packet}
use Rattle.fm_net.specs.Network.{net_of}
use Rattle.fm_coord.specs.declared.view.View.{View}
use Rattle.fm_coord.specs.Events.{Replica}
use Rattle.fm_coord.specs.Replays.{seen_packet}
use Rattle.fm_coord.specs.Numbers.{AreDistinct}
use Rattle.fm_coord.specs.States.{State, WithKeeper, Represents}
use Rattle.fm_world.specs.declared.step.Act.{Act}
use Rattle.fm_world.specs.declared.step.Act.TheVariants as act
use Rattle.fm_world.specs.declared.step.Step.{Step}
use Rattle.fm_world.specs.Worlds.{WorldOfSets, opening_world, run_of, AreAccepted}

-- what the coordinators keep, and the packets that were cut, in the order of their cuts
pub record Kept : Type 0 where
  pub coordinators : List State
  pub packets : List Packet

abbrev pub state_of : {N : Type 0} → WithKeeper N → State
state_of c = c.state

abbrev pub number_of : {N : Type 0} → WithKeeper N → ℕ
number_of c = c.state.number

-- a coordinator's number, and how many entries its history may have
abbrev pub opening_of : {N : Type 0} → WithKeeper N → ℕ × ℕ
opening_of c = (c.state.number, c.state.limit)

-- the coordinators are unused: nothing happened to them
abbrev pub AreUnused : {N : Type 0} → List (WithKeeper N) → Type 0
AreUnused [] = Unit {0}
AreUnused (c ∷ cs) = (c.state.history ≡ []) × AreUnused cs

-- each coordinator stands for the replica in its place
abbrev pub AllStand : List State → List Replica → Type 0
AllStand [] [] = Unit {0}
AllStand (s ∷ ss) (r ∷ rs) = Represents s r × AllStand ss rs
AllStand [] (r ∷ rs) = ⊥
AllStand (s ∷ ss) [] = ⊥

-- the coordinators stand for the replicas, and the packets are those of the world, with the tables of their sets
pub record WorldRepresents (k : Kept) (w : WorldOfSets) : Type 0 where
  pub coordinators : AllStand k.coordinators w.replicas
  pub packets : k.packets ≡ map seen_packet w.packets

-- accepted steps lead here, from unused coordinators of distinct numbers
pub record IsReached (k : Kept) : Type 0 where
  -- the numbers of the coordinators, and how many entries their histories may have
  pub openings : List (ℕ × ℕ)
  pub distinct : AreDistinct (map (λ c. c.0) openings)
  pub steps : List Step
  pub accepted : AreAccepted (opening_world openings) steps
  pub stands : WorldRepresents k (run_of (opening_world openings) steps)

-- what the coordinator with the number keeps
abbrev pub state_with : List State → ℕ → Option State
state_with [] n = None
state_with (s ∷ ss) n = cond (s.number == n) (Some s) (state_with ss n)

-- what a step shows: of a view the count of entries before it, what is known, and its network
abbrev pub view_shown : Option State → Act → Option View
view_shown (Some s) act.View = Some (record { at = length s.history; knowledge = s.knowledge; network = net_of s.knowledge })
view_shown _ _ = None
