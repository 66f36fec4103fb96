-- What machines hold, counted.
use Rattle.std.specs.Prelude.{◌≡◌, ℕ, Bool, false, ◌==◌, ◌&&◌, cond, Option, option_map, count_by, sum_by}
use Rattle.std.specs.Ordering.{nat_cmp}
use Rattle.fm_lattice.specs.Maps.{lookup}
use Rattle.fm_records.specs.declared.records.Spot.{Spot}
use Rattle.fm_records.specs.Options.{or_else, passes, when}
use Rattle.fm_records.specs.Table.{Table, MachineValue}
use Rattle.fm_records.specs.Facts.{holds, held_tasks, request_of}
use Rattle.fm_tally.specs.declared.holdings.Holding.{Holding}
use Rattle.fm_tally.specs.declared.holdings.Holdings.{Holdings}

abbrev pub requests_in : Holdings → ℕ → ℕ
requests_in holdings m = or_else 0 (option_map (λ h. h.requests) (lookup nat_cmp m holdings.by_machine))

abbrev pub tasks_in : Holdings → ℕ → ℕ
tasks_in holdings m = or_else 0 (option_map (λ h. h.tasks) (lookup nat_cmp m holdings.by_machine))

-- what one task, where a machine holds it, adds for machine m
abbrev pub share_by : Option ℕ → ℕ → ℕ → ℕ
share_by holder m amount = cond (passes (λ n. n == m) holder) amount 0

-- the machine of the spot is open and at that incarnation
abbrev pub names_open_machine : Holdings → Spot → Bool
names_open_machine holdings s = passes (λ h. h.is_open && h.incarnation == s.incarnation) (lookup nat_cmp s.machine holdings.by_machine)

-- the machine of the spot, where it is so
abbrev pub placed_by : Holdings → Spot → Option ℕ
placed_by holdings s = when (names_open_machine holdings s) s.machine

-- no machine
abbrev pub holding_nothing : Holding
holding_nothing = record { is_open = false; incarnation = 0; requests = 0; tasks = 0 }

-- a machine with the record, which holds nothing
abbrev pub nothing_on : MachineValue → Holding
nothing_on v = record { is_open = passes (λ r. r.up) v.1.0; incarnation = v.0; requests = 0; tasks = 0 }

-- the sum of the requests of the tasks that each machine holds, and how many they are
pub record AreHoldings (k : Table) (holdings : Holdings) : Type 0 where
  pub requests : (m : ℕ) → requests_in holdings m ≡ sum_by (λ e. request_of e.1.0) (held_tasks k m)
  pub tasks : (m : ℕ) → tasks_in holdings m ≡ count_by (λ e. holds k m e.0) k.tasks
