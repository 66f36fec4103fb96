-- What machines hold beyond their bandwidth.
use Rattle.std.specs.Prelude.{ℕ, nat_lt, List, Option}
use Rattle.std.specs.List.{filter_map}
use Rattle.fm_records.specs.Options.{and_then, when}
use Rattle.fm_records.specs.Sets.{with_value}
use Rattle.fm_records.specs.Table.{Table}
use Rattle.fm_records.specs.Facts.{open_state}
use Rattle.fm_relief.specs.declared.excess.Excess.{Excess}
use Rattle.fm_relief.specs.Relief.{requests_on}

-- what the tasks on an open machine request, where that is more than its bandwidth
abbrev pub excess_at : Table → ℕ → Option Excess
excess_at k m = and_then (λ state. when (nat_lt state.nic (requests_on k m)) (record { held = requests_on k m; nic = state.nic })) (open_state k m)

-- all of them, by machine
abbrev pub all_excesses : Table → List (ℕ × Excess)
all_excesses k = filter_map (λ e. with_value (excess_at k) e.0) k.machines
