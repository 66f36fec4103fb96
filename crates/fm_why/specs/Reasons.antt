-- Why a task waits or runs, in numbers that hold of every schedule.
use Rattle.std.specs.Prelude.{◌≡◌, ◌↔◌, ℕ, ℤ, List, ◌+◌, ◌≤◌, ◌<◌, ◌^◌, Some, None, [], false, option_map, map, length, slice_get, min, IsTrue, IfSome}
use Rattle.std.specs.List.{All, zip}
use Rattle.std.specs.List.Sorted.{IsPermutation, IsNonDecreasingBy}
use Rattle.std.specs.Option.{IsSomeAnd}
use Rattle.fm_records.specs.declared.records.SpecReg.{SpecReg}
use Rattle.fm_records.specs.Table.{Table}
use Rattle.fm_records.specs.Facts.{job_of, spec_of, live_spec, holder_of}
use Rattle.fm_records.specs.Options.{or_else}
use Rattle.fm_net.specs.declared.node.Node.{Node}
use Rattle.fm_net.specs.declared.node.Node.TheVariants.{Unscheduled, Task}
use Rattle.fm_net.specs.Net.{Net}
use Rattle.fm_net.specs.Network.{net_of}
use Rattle.fm_certificate.specs.Flows.{Units, units_in, cost_of, IsLeast}
use Rattle.fm_certificate.specs.Certificates.{potential_in, IsCertified}
use Rattle.fm_why.specs.Running.{IsDearer, IsDearerOver}
use Rattle.fm_why.specs.MachineOptions.{way_cost, roomy}
use Rattle.fm_why.specs.Bounds.{gap_at, IsBound}
use Rattle.fm_why.specs.Pricing.{StaysLeast}
use Rattle.fm_why.specs.Alternatives.{IsExampleFor}
use Rattle.fm_why.specs.Remedies.{IsRemedy, AreOneOfEach}
use Rattle.fm_why.specs.declared.reasons.TheConstants.{SHOWN}
use Rattle.fm_why.specs.declared.reasons.Choice.{Choice}
use Rattle.fm_why.specs.declared.reasons.Choices.{Choices}
use Rattle.fm_why.specs.declared.reasons.Reasons.{Reasons}
use Rattle.fm_why.specs.declared.reasons.Reasons.TheVariants.{Unknown, NotLive, Held, Free}

-- a machine to which the task has a way: what the cheaper one costs, and how much dearer each schedule is that runs the task
-- there
pub record IsChoice (net : Net) (least t r : ℕ) (choice : Choice) : Type 0 where
  pub way : Some choice.cost ≡ way_cost net t r choice.machine
  pub dearer : IsDearer net least t choice.machine choice.dearer
  pub fits : choice.dearer < 2 ^ 111

-- the schedule that was found, with potentials that certify it: what it costs, which is least, and whether it leaves the task to its
-- job
pub record IsFound (net : Net) (t j : ℕ) (choices : Choices) : Type 0 where
  pub flow : List ((Node × Node) × ℕ)
  pub potentials : List (Node × ℤ)
  pub certified : IsCertified net flow potentials
  pub units : Units
  pub sends : units ≡ units_in flow
  pub least : IsLeast net units
  pub cost : choices.least ≡ cost_of net units
  pub waits : IsTrue choices.waits ↔ (0 < units (Task t) (Unscheduled j))

-- a live task that no machine holds: its request and its price of waiting; the schedule; each machine to which it has a way, the
-- cheapest first; the price of waiting, for this task alone, up to which that schedule stays least from the present one on: at
-- each if there is none; for each of the first of these machines, possibly a schedule that runs it there; and, only if the
-- schedule that was found leaves it waiting, up to two changes after which some least schedule runs it, a slot before bandwidth.
-- How much dearer schedules are is a bound that holds of each, and just the one that the potentials give. What is open: which of
-- the potentials that certify the schedule these are; and that schedules and changes are found, since none has to be shown.
pub record AreChoices (k : Table) (t : ℕ) (spec : SpecReg) (choices : Choices) : Type 0 where
  pub request : choices.request ≡ spec.request
  pub wait : Some choices.wait ≡ option_map (λ job. job.wait) (job_of k spec.job)
  pub found : IsFound (net_of k) t spec.job choices
  pub waiting : IsDearerOver (net_of k) choices.least (Task t) (Unscheduled spec.job) choices.waiting
  pub each : All (IsChoice (net_of k) choices.least t spec.request) choices.machines.items
  pub all : IsPermutation (roomy k spec.request) (map (λ e. e.machine) choices.machines.items)
  pub bounds : All (IsBound (net_of k) found.units (potential_in found.potentials) t spec.request) choices.machines.items
  pub waits_bound : choices.waiting ≡ or_else 0 (gap_at (net_of k) found.units (potential_in found.potentials) (Task t) (Unscheduled spec.job))
  pub cheapest_first : IsNonDecreasingBy (λ e. e.dearer) choices.machines.items
  pub known : choices.known ≡ length k.machines
  pub price : choices.price ≡ option_map (λ e. choices.wait + e.dearer) (slice_get choices.machines.items 0)
  pub stays : (more : ℕ) → IfSome choices.price (λ price. choices.wait + more ≤ price)
      → StaysLeast (net_of k) (Task t) (Unscheduled spec.job) more found.units
  pub examples : All (IsExampleFor (net_of k) found.units t) (zip choices.machines.items choices.examples.items)
  pub shown : length choices.examples.items ≡ min SHOWN (length choices.machines.items)
  pub remedies : All (IsRemedy k t spec.request) choices.remedies.items
  pub few : length choices.remedies.items ≤ 2
  pub one_of_each : AreOneOfEach (map (λ e. e.change) choices.remedies.items)
  pub only_waiting : choices.waits ≡ false → choices.remedies.items ≡ []

-- the reasons are those of the task: it is not known; or not live; or held, and by whom; or free
abbrev pub AreReasons : Table → ℕ → Reasons → Type 0
AreReasons k t Unknown = spec_of k t ≡ None
AreReasons k t NotLive = (live_spec k t ≡ None) × (spec : SpecReg) × (spec_of k t ≡ Some spec)
AreReasons k t (Held m) = holder_of k t ≡ Some m
AreReasons k t (Free choices) = (holder_of k t ≡ None) × IsSomeAnd (live_spec k t) (λ spec. AreChoices k t spec choices)
