-- What sweeps keep and do.
use Rattle.std.specs.Prelude.{◌≡◌, ◌≤◌, ◌<◌, ◌+◌, ◌-◌, ℕ, zero, suc, nat_lt, Bool, true, false, cond, List, [], ◌∷◌, ◌++◌, length, Option, Some, option_map, take, drop, map}
use Rattle.std.specs.List.{position}
use Rattle.fm_records.specs.Sets.{IsMember}
use Rattle.fm_delta.specs.declared.packet.Packet.{Packet}
use Rattle.fm_delta.specs.Packets.{same_packet}
use Rattle.fm_coord.specs.declared.entry.Call.{Call}
use Rattle.fm_coord.specs.declared.entry.Call.TheVariants as call
use Rattle.fm_coord.specs.declared.entry.Entry.{Entry}
use Rattle.fm_coord.specs.States.{State}
use Rattle.fm_world.specs.declared.step.Act.{Act}
use Rattle.fm_world.specs.declared.step.Act.TheVariants as act
use Rattle.fm_world.specs.declared.step.Step.{Step}
use Rattle.fm_world.specs.Listings.{Made, entries_at, packet_in, packets_of, IsGiven, Follows, step_for, steps_for, CannotGo, number_in}

-- a call as an act, if it can be taken after these packets
abbrev pub act_asked : List Packet → Call → Option Act
act_asked ps (call.Tell op) = Some (act.Tell op)
act_asked ps (call.Merge p) = option_map act.Deliver (position (λ q. same_packet q p) ps)
act_asked ps (call.Cut range) = Some (act.Cut range)
act_asked ps (call.Trim n) = Some (act.Trim n)
act_asked ps call.View = Some act.View
act_asked ps (call.Commit plan) = Some (act.Commit plan)

-- an entry was taken after these packets, or it cannot be
abbrev pub IsOneTaken : Made → Bool → List Step → List Step → List Packet → List Packet → Type 0
IsOneTaken m true steps new packets gave = (new ≡ steps ++ step_for packets m ∷ []) × (gave ≡ packets ++ packet_in m.entry.reply) × IsGiven packets m.entry.call
IsOneTaken m false steps new packets gave = (new ≡ steps) × (gave ≡ packets) × (IsGiven packets m.entry.call → ⊥)

-- entries of one coordinator
abbrev pub made_at : ℕ → List Entry → List Made
made_at n = map (λ e. record { at = n; entry = e })

-- the first k of these entries of one coordinator were taken after these packets
pub record AreFirstTaken (n : ℕ) (entries : List Entry) (k : ℕ) (steps new : List Step) (packets gave : List Packet) : Type 0 where
  pub as_steps : new ≡ steps ++ steps_for packets (made_at n (take k entries))
  pub given_too : gave ≡ packets ++ packets_of (made_at n (take k entries))
  pub follows : Follows packets (made_at n (take k entries))

-- the first entries of the histories are listed: as many of each coordinator as its place says
abbrev pub AreTaken : List State → List ℕ → List Made → Type 0
AreTaken [] [] ms = Unit {0}
AreTaken (s ∷ ss) (n ∷ ns) ms = ((entries_at s.number ms ≡ take n s.history) × (n ≤ length s.history)) × AreTaken ss ns ms
AreTaken [] (n ∷ ns) ms = ⊥
AreTaken (s ∷ ss) [] ms = ⊥

-- what the sweeps have: a listing up to these places, as steps, and the packets that it gave
pub record IsSwept (ss : List State) (places : List ℕ) (steps : List Step) (packets : List Packet) : Type 0 where
  pub made : List Made
  pub as_steps : steps ≡ steps_for [] made
  pub gave : packets ≡ packets_of made
  pub follows : Follows [] made
  pub taken : AreTaken ss places made
  pub only : (n : ℕ) → (IsMember n (map number_in ss) → ⊥) → entries_at n made ≡ []

-- the entries of the i-th coordinator from its place on
abbrev pub rest_at : List State → List ℕ → ℕ → List Entry
rest_at (s ∷ ss) (n ∷ ns) zero = drop n s.history
rest_at (s ∷ ss) (n ∷ ns) (suc i) = rest_at ss ns i
rest_at ss ns i = []

-- how many entries are left from these places on
abbrev pub count_left : List State → List ℕ → ℕ
count_left (s ∷ ss) (n ∷ ns) = (length s.history - n) + count_left ss ns
count_left ss ns = 0

-- entries were taken, so that fewer are left; or all is as it was
abbrev pub Moves : Bool → List State → List ℕ → List ℕ → List Packet → List Packet → Type 0
Moves true ss places new packets gave = count_left ss new < count_left ss places
Moves false ss places new packets gave = (new ≡ places) × (gave ≡ packets)

-- a visit of the i-th coordinator, which then cannot go on
pub record IsVisit (ss : List State) (i : ℕ) (moved : Bool) (places new : List ℕ) (packets gave : List Packet) : Type 0 where
  pub moves : Moves moved ss places new packets gave
  pub stops : CannotGo gave (rest_at ss new i)

-- a visit of each of the first coordinators, which then cannot go on if nothing moved
pub record IsSweep (ss : List State) (first : ℕ) (moved : Bool) (places new : List ℕ) (packets gave : List Packet) : Type 0 where
  pub moves : Moves moved ss places new packets gave
  pub stops : moved ≡ false → (i : ℕ) → i < first → CannotGo gave (rest_at ss new i)

-- none of the coordinators can go on from these places
abbrev pub AreStopped : List Packet → List State → List ℕ → Type 0
AreStopped packets ss places = (i : ℕ) → i < length ss → CannotGo packets (rest_at ss places i)

-- the numbers of the coordinators that have entries from these places on
abbrev pub left_at : List State → List ℕ → List ℕ
left_at (s ∷ ss) (n ∷ ns) = cond (nat_lt n (length s.history)) (s.number ∷ left_at ss ns) (left_at ss ns)
left_at ss ns = []
