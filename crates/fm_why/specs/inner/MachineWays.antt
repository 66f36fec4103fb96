-- The machines to which a task has a way.
use Rattle.std.specs.Prelude.{◌≡◌, ◌⊎◌, ℕ, ℤ, ◌≤ℤ◌, pos, Bool, List, filter, is_some, IsSome}
use Rattle.std.specs.Map.{keys_of}
use Rattle.fm_records.specs.Table.{Table}
use Rattle.fm_net.specs.declared.node.Node.{Node}
use Rattle.fm_net.specs.declared.node.Node.TheVariants.{Request, Task}
use Rattle.fm_net.specs.Net.{Net, arc_at}
use Rattle.fm_certificate.specs.Flows.{Units}
use Rattle.fm_certificate.specs.Certificates.{reduced_cost}
use Rattle.fm_why.specs.MachineOptions.{way_cost}

abbrev pub has_way : Net → ℕ → ℕ → ℕ → Bool
has_way net t r m = is_some (way_cost net t r m)

-- the machines to which the task has a way, by id
abbrev pub machine_ways : Table → Net → ℕ → ℕ → List ℕ
machine_ways k net t r = filter (has_way net t r) (keys_of k.machines)

-- the task has an arc to no other request
abbrev pub IsOnlyRequest : Net → ℕ → ℕ → Type 0
IsOnlyRequest net t r = (other : ℕ) → IsSome (arc_at net (Task t) (Request other)) → other ≡ r

-- at these potentials the units that other flows send over the arc make them so much dearer at least: by nothing, or by no
-- more than the reduced cost of an arc that the flow leaves empty
abbrev pub IsGap : Units → (Node → ℤ) → Node → Node → ℕ → ℕ → Type 0
IsGap units at from to cost gap = (gap ≡ 0) ⊎ ((units from to ≡ 0) × (pos gap ≤ℤ reduced_cost cost (at from) (at to)))
