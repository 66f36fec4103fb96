-- What the inputs of a network have of a table.
use Rattle.std.specs.Prelude.{◌≡◌, ◌↔◌, ℕ, ◌+◌, ◌<◌, ◌^◌, List, Option, Some, None, IfSome, IsTrue, option_map}
use Rattle.fm_records.specs.declared.records.SpecReg.{SpecReg}
use Rattle.fm_records.specs.Sets.{IsMember}
use Rattle.fm_records.specs.Table.{Table}
use Rattle.fm_net.specs.declared.node.Node.TheVariants.{Request}
use Rattle.fm_net.specs.Network.{is_node, live_tasks}
use Rattle.fm_tally.specs.declared.tally.LiveTask.{LiveTask}
use Rattle.fm_tally.specs.declared.tally.OpenMachine.{OpenMachine}
use Rattle.fm_tally.specs.JobCounts.{job_count}
use Rattle.fm_tally.specs.Tallies.{TallyIsFor}
use Rattle.fm_policy.specs.declared.inputs.NetworkInputs.{NetworkInputs}
use Rattle.fm_policy.specs.declared.room.Room.{Room}

-- the request that a live task waits for, if no machine holds it
abbrev pub request_unless_held : ℕ → Option ℕ → Option ℕ
request_unless_held r None = Some r
request_unless_held r (Some m) = None

abbrev pub waiting_request : ℕ × LiveTask → Option ℕ
waiting_request e = request_unless_held e.1.request e.1.holder

-- the inputs are those of the table's network
pub record AreInputs (k : Table) (inputs : NetworkInputs) : Type 0 where
  pub tally : TallyIsFor k inputs.tally
  pub requests : (r : ℕ) → IsMember r inputs.requests.items ↔ IsTrue (is_node k (Request r))
  pub jobs : (j : ℕ) → job_count inputs.jobs j ≡ live_tasks k j

-- load and spare, where there is one, fit together
abbrev pub SpareFits : OpenMachine → Type 0
SpareFits m = IfSome m.spare (λ s. m.load + s < 2 ^ 32)

-- the room on a machine of a tally, if it has a spare
abbrev pub room_on : OpenMachine → Option Room
room_on m = option_map (λ s. record { slots = m.slots; load = m.load; bandwidth = m.load + s }) m.spare

-- what a task asks for
abbrev pub asked_of : SpecReg → ℕ × List (ℕ × ℕ)
asked_of s = (s.request, s.prefer)
