-- What the checks of a claim test, of each task, move and machine of a tally.
use Rattle.std.specs.Prelude.{◌≡◌, ℕ, ◌+◌, ◌<◌, ◌≤◌, cond, List, [], ◌∷◌, Option, Some, None, option_map, ◌-◌, true}
use Rattle.std.specs.Ordering.{nat_cmp, is_eq}
use Rattle.fm_lattice.specs.Maps.{lookup}
use Rattle.fm_records.specs.declared.records.SpecReg.{SpecReg}
use Rattle.fm_records.specs.Options.{or_else}
use Rattle.fm_records.specs.Table.{Table}
use Rattle.fm_records.specs.Facts.{live_spec}
use Rattle.fm_tally.specs.declared.tally.LiveTask.{LiveTask}
use Rattle.fm_tally.specs.declared.tally.OpenMachine.{OpenMachine}
use Rattle.fm_tally.specs.declared.tally.Tally.{Tally}
use Rattle.fm_tally.specs.declared.way.Way.{Way}
use Rattle.fm_tally.specs.declared.way.Way.TheVariants.{ToJob, ByRequest, Straight}
use Rattle.fm_policy.specs.Rooms.{fitting_tasks}
use Rattle.fm_planner.specs.declared.claim.Claim.{Claim}
use Rattle.fm_planner.specs.declared.move_counts.Counts.{Counts}
use Rattle.fm_planner.specs.inner.Claims.{rise_of, offer_of}
use Rattle.fm_planner.specs.inner.Counts.{pairs_in, arriving_in, leaving_in}

-- all of the list are such
abbrev pub AllOf : {A : Type 0} → (A → Type 0) → List A → Type 0
AllOf P [] = Unit {0}
AllOf P (x ∷ xs) = P x × AllOf P xs

-- a task that does not move: if it is held, to preempt it costs no less than the rise of its machine; if it waits, that costs no
-- more than its request pays
abbrev pub IsFairAtRest : Claim → LiveTask → Option ℕ → Type 0
IsFairAtRest claim live (Some m) = rise_of claim m ≤ live.price
IsFairAtRest claim live None = live.price ≤ offer_of claim live.request + live.request

-- what it costs a task to go straight to a machine that it prefers, by a tally and the rise of the machine
abbrev pub load_in : Tally → ℕ → ℕ
load_in tally m = or_else 0 (option_map (λ o. o.load) (lookup nat_cmp m tally.machines))

abbrev pub straight_cost : Tally → Claim → ℕ → ℕ × ℕ → ℕ
straight_cost tally claim r e = r + load_in tally e.0 - e.1 + rise_of claim e.0

-- what a task costs on its way, or at rest if it does not move
abbrev pub own_cost : Tally → Claim → LiveTask → List (ℕ × ℕ) → Option Way → ℕ
own_cost tally claim live prefer None = live.price
own_cost tally claim live prefer (Some (ToJob j)) = live.price
own_cost tally claim live prefer (Some (ByRequest r m)) = offer_of claim r + r
own_cost tally claim live prefer (Some (Straight m)) = straight_cost tally claim live.request (m, or_else 0 (lookup nat_cmp m prefer))

-- the machine is open, with room for the request
pub record HasRoom (tally : Tally) (m r : ℕ) : Type 0 where
  pub machine : OpenMachine
  pub open_there : lookup nat_cmp m tally.machines ≡ Some machine
  pub spare : ℕ
  pub left : machine.spare ≡ Some spare
  pub room : r ≤ spare

-- a machine that a task prefers is no cheaper than this, if it has room
abbrev pub IsNoCheaper : Tally → Claim → ℕ → ℕ → ℕ × ℕ → Type 0
IsNoCheaper tally claim r cost e = HasRoom tally e.0 r → cost ≤ straight_cost tally claim r e

-- no machine that a task prefers is cheaper than its own way
abbrev pub IsPreferredFairly : Table → Tally → Claim → ℕ → LiveTask → Type 0
IsPreferredFairly k tally claim t live = (s : SpecReg) → live_spec k t ≡ Some s → AllOf (IsNoCheaper tally claim live.request (own_cost tally claim live s.prefer (lookup nat_cmp t claim.moves))) s.prefer

pub record IsFairTask (k : Table) (tally : Tally) (claim : Claim) (e : ℕ × LiveTask) : Type 0 where
  pub preferred : e.1.holder ≡ None → e.1.prefers ≡ true → IsPreferredFairly k tally claim e.0 e.1
  pub rests : lookup nat_cmp e.0 claim.moves ≡ None → IsFairAtRest claim e.1 e.1.holder

-- a held task that goes over its job costs no more to preempt than the rise of its machine
pub record Leaves (tally : Tally) (claim : Claim) (t j : ℕ) : Type 0 where
  pub task : LiveTask
  pub found : lookup nat_cmp t tally.tasks ≡ Some task
  pub own : task.job ≡ j
  pub machine : ℕ
  pub held : task.holder ≡ Some machine
  pub cheap : task.price ≤ rise_of claim machine

-- a waiting task that goes over its request to a machine with room for all that go so, and both pay the price
pub record Asks (tally : Tally) (claim : Claim) (counts : Counts) (t r m : ℕ) : Type 0 where
  pub task : LiveTask
  pub found : lookup nat_cmp t tally.tasks ≡ Some task
  pub own : task.request ≡ r
  pub waits : task.holder ≡ None
  pub pays : offer_of claim r + r ≤ task.price
  pub machine : OpenMachine
  pub open_there : lookup nat_cmp m tally.machines ≡ Some machine
  pub spare : ℕ
  pub left : machine.spare ≡ Some spare
  pub room : r ≤ spare
  pub few : pairs_in counts r m ≤ fitting_tasks machine.slots spare r
  pub price : machine.load + rise_of claim m ≤ offer_of claim r

-- a waiting task that goes straight to a machine which it prefers, and which has room, for no more than it would cost over its job
-- or its request
pub record GoesStraight (k : Table) (tally : Tally) (claim : Claim) (t m : ℕ) : Type 0 where
  pub task : LiveTask
  pub found : lookup nat_cmp t tally.tasks ≡ Some task
  pub waits : task.holder ≡ None
  pub spec : SpecReg
  pub live : live_spec k t ≡ Some spec
  pub credit : ℕ
  pub preferred : lookup nat_cmp m spec.prefer ≡ Some credit
  pub roomy : HasRoom tally m task.request
  pub below_waiting : straight_cost tally claim task.request (m, credit) ≤ task.price
  pub below_request : straight_cost tally claim task.request (m, credit) ≤ offer_of claim task.request + task.request

abbrev pub IsFairMove : Table → Tally → Claim → Counts → ℕ × Way → Type 0
IsFairMove k tally claim counts (t, ToJob j) = Leaves tally claim t j
IsFairMove k tally claim counts (t, ByRequest r m) = Asks tally claim counts t r m
IsFairMove k tally claim counts (t, Straight m) = GoesStraight k tally claim t m

-- more of the request fits
pub record HasMoreRoom (counts : Counts) (m : ℕ) (machine : OpenMachine) (r : ℕ) : Type 0 where
  pub spare : ℕ
  pub left : machine.spare ≡ Some spare
  pub room : r ≤ spare
  pub few : pairs_in counts r m < fitting_tasks machine.slots spare r

-- then it pays no more than the price of the machine
abbrev pub IsFairOffer : Claim → Counts → ℕ → OpenMachine → ℕ × ℕ → Type 0
IsFairOffer claim counts m machine o = HasMoreRoom counts m machine o.0 → o.1 ≤ machine.load + rise_of claim m

-- no request below this one pays more
abbrev pub IsTop : List (ℕ × ℕ) → ℕ × ℕ → Type 0
IsTop offers top = AllOf (λ o. o.0 < top.0 → o.1 ≤ top.1) offers

-- a machine has slots for all, and its price rises only where none is free
pub record HasFairSlots (claim : Claim) (counts : Counts) (m : ℕ) (machine : OpenMachine) : Type 0 where
  pub enough : machine.held + arriving_in counts m ≤ machine.slots + leaving_in counts m
  pub free : machine.held + arriving_in counts m < machine.slots + leaving_in counts m → rise_of claim m ≡ 0

pub record IsFairMachine (claim : Claim) (counts : Counts) (e : ℕ × OpenMachine) : Type 0 where
  pub slots : HasFairSlots claim counts e.0 e.1
  pub more : AllOf (IsFairOffer claim counts e.0 e.1) claim.offers

-- the machine to which the last move of each request went, with one move more
abbrev pub after_move : (ℕ → Option ℕ) → Way → ℕ → Option ℕ
after_move last (ByRequest r m) q = cond (is_eq (nat_cmp r q)) (Some m) (last q)
after_move last (ToJob j) q = last q
after_move last (Straight m) q = last q

-- a move goes to no lesser machine than the last one of its request
abbrev pub IsNext : (ℕ → Option ℕ) → Way → Type 0
IsNext last (ByRequest r m) = (n : ℕ) → last r ≡ Some n → n ≤ m
IsNext last (ToJob j) = Unit {0}
IsNext last (Straight m) = Unit {0}

-- the moves go in turn, where the last ones before went there
abbrev pub GoInTurn : (ℕ → Option ℕ) → List (ℕ × Way) → Type 0
GoInTurn last [] = Unit {0}
GoInTurn last (e ∷ es) = IsNext last e.1 × GoInTurn (after_move last e.1) es

-- all that is tested
pub record Passes (k : Table) (tally : Tally) (claim : Claim) (counts : Counts) : Type 0 where
  pub tasks : AllOf (IsFairTask k tally claim) tally.tasks
  pub moves : AllOf (IsFairMove k tally claim counts) claim.moves
  pub machines : AllOf (IsFairMachine claim counts) tally.machines
  pub turns : GoInTurn (λ r. None) claim.moves
