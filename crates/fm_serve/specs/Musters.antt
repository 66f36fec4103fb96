-- The counts of a script of tells whose coordinators run in threads (this project's profile).
use Rattle.std.specs.Prelude.{◌≡◌, ◌⊎◌, IsTrue, ℕ, ◌+◌, ◌==◌, List, [], ◌∷◌, ◌++◌, length, map, cond, codes, decimal, Option, Some, None, option_map}
use Rattle.std.specs.List.{flat_map}
use Rattle.fm_records.specs.declared.ops.Op.{Op}
use Rattle.fm_records.specs.declared.refusal.Refusal.{Refusal}
use Rattle.fm_records.specs.declared.refusal.Refusal.TheVariants.{BadOp, NoCoordinator, Stuck}
use Rattle.fm_records.specs.Ops.{op_fault}
use Rattle.fm_coord.specs.States.{State}
use Rattle.fm_world.specs.declared.step.Step.{Step}
use Rattle.fm_world.specs.Listings.{IsWholeRun}
use Rattle.fm_gossip.specs.Served.{AreServed}
use Rattle.fm_gossip.specs.FleetFaults.{may_stop}
use Rattle.fm_gossip.specs.Members.{MemberModel, member, member_tasks}
use Rattle.fm_gossip.specs.Passing.{passed_at, ArePassedOn}
use Rattle.fm_gossip.specs.Exchanges.{after_exchange}
use Rattle.fm_gossip.specs.AfterExchange.{KnowSame, AreCutBySenders}
use Rattle.fm_script.specs.declared.script.Tell.{Tell}
use Rattle.fm_script.specs.Script.{is_listed}
use Rattle.fm_script.specs.Openings.{history_limit}
use Rattle.fm_serve.specs.declared.counts.Calls.{Calls}
use Rattle.fm_serve.specs.declared.counts.Counts.{Counts}
use Rattle.fm_serve.specs.declared.fault.Fault.{Fault}

-- what the coordinator with the number is told, in order
abbrev pub told_at : ℕ → List Tell → List Op
told_at n [] = []
told_at n (t ∷ ts) = cond (t.at == n) (t.op ∷ told_at n ts) (told_at n ts)

-- a member for each number that is listed, with what it is told
abbrev pub members_of : List ℕ → List Tell → List MemberModel
members_of listed ts = map (λ n. member n history_limit (told_at n ts)) listed

-- why a tell is refused: no coordinator of its number is listed, or a field of its operation is out of range
abbrev pub tell_fault : List ℕ → Tell → Option Refusal
tell_fault listed t = cond (is_listed listed t.at) (option_map BadOp (op_fault t.op)) (Some NoCoordinator)

-- a refusal names its place; if there is none, what comes later counts
abbrev pub named_or : ℕ → Option Refusal → Option Fault → Option Fault
named_or place None later = later
named_or place (Some refusal) later = Some (record { refusal = refusal; step = Some place })

-- the first tell that is refused, the first of all being at the place given
abbrev pub first_refused : List ℕ → ℕ → List Tell → Option Fault
first_refused listed place [] = None
first_refused listed place (t ∷ ts) = named_or place (tell_fault listed t) (first_refused listed (place + 1) ts)

-- a coordinator, and how many entries its history has
abbrev pub calls_of : State → Calls
calls_of s = record { coordinator = s.number; count = length s.history }

-- a fleet of the members ran, and this was counted of it
pub record IsMustered (listed : List ℕ) (tells : List Tell) (rounds : ℕ) (c : Counts) : Type 0 where
  -- the coordinators when they were closed: each did what it was to do
  pub closed : List State
  pub served : AreServed (member_tasks rounds (members_of listed tells)) closed
  -- each of the others merged once what an intake cut, and nothing else
  pub passed_on : ArePassedOn (map passed_at closed)
  pub calls : c.calls.items ≡ map calls_of closed
  -- once they exchanged all that they know, their histories are one list of steps, and they know the same
  pub steps : List Step
  pub gathered : IsWholeRun (after_exchange closed) steps
  pub counted : c.steps ≡ length steps
  -- each packet that was merged is what its sender cut
  pub cut_by_senders : AreCutBySenders (after_exchange closed)
  pub know_same : KnowSame (after_exchange closed)

-- why nothing was counted: the first tell that is refused; or none is, and no step is named
abbrev pub IsStopped : List ℕ → List Tell → Fault → Type 0
IsStopped listed tells stop = (first_refused listed 1 tells ≡ Some stop) ⊎ ((first_refused listed 1 tells ≡ None) × (stop.step ≡ None))

-- by which numbers a fleet is not counted: those that may stop it, or that its histories are not one list of steps
abbrev pub StopsMuster : Refusal → Type 0
StopsMuster r = IsTrue (may_stop r) ⊎ (r ≡ Stuck)

-- the lines: what each coordinator accepted, that all was audited, the length of the one list, and that all know the
-- same
abbrev pub calls_line : Calls → List ℕ
calls_line c = codes "calls " ++ (decimal c.coordinator ++ (codes " " ++ (decimal c.count ++ codes "\n")))

abbrev pub counts_text : Counts → List ℕ
counts_text c = flat_map calls_line c.calls.items ++ (codes "audit ok\ngather " ++ (decimal c.steps ++ codes "\nsame\n"))
