-- What machines hold, counted.
use Rattle.std.specs.Prelude.{◌≡◌, ℕ, ◌==◌, Bool, IsTrue, cond, is_some, unwrap_or, length, sum_by}
use Rattle.std.specs.Ordering.{nat_cmp}
use Rattle.std.specs.BTreeMap.{get}
use Rattle.fm_records.specs.Table.{Table}
use Rattle.fm_records.specs.Facts.{held_tasks, request_of}
use Rattle.fm_round.specs.declared.machine_holdings.Holding.{Holding}
use Rattle.fm_round.specs.declared.machine_holdings.Holdings.{Holdings}

abbrev pub nothing_held : Holding
nothing_held = record { requests = 0; tasks = 0 }

-- what the machine holds is counted
abbrev pub is_counted : Holdings → ℕ → Bool
is_counted holdings m = is_some (get nat_cmp holdings.by_machine m)

abbrev pub holding_of : Holdings → ℕ → Holding
holding_of holdings m = unwrap_or (get nat_cmp holdings.by_machine m) nothing_held

-- the requests of the tasks that a machine holds
abbrev pub requests_of : Table → ℕ → ℕ
requests_of k m = sum_by (λ e. request_of e.1.0) (held_tasks k m)

-- the sum of the requests, and the count, of the tasks that each machine holds which is counted
pub record AreCountedHoldings (k : Table) (holdings : Holdings) : Type 0 where
  pub requests : (m : ℕ) → IsTrue (is_counted holdings m) → (holding_of holdings m).requests ≡ requests_of k m
  pub tasks : (m : ℕ) → IsTrue (is_counted holdings m) → (holding_of holdings m).tasks ≡ length (held_tasks k m)

-- what a task with the request on machine n counts for machine m
abbrev pub share : ℕ → ℕ → ℕ → ℕ
share n m request = cond (n == m) request 0
