-- The facts of single records (this project's profile).
use Rattle.std.specs.Prelude.{ℕ, ◌-◌, nat_le, Option}
use Rattle.fm_records.specs.declared.records.MachineReg.{MachineReg}
use Rattle.fm_records.specs.Options.{only_if, when}
use Rattle.fm_records.specs.Table.{MachineValue}

-- the state of an open machine
abbrev pub open_state_in : MachineValue → Option MachineReg
open_state_in v = only_if (λ r. r.up) v.1.0

-- what a load leaves of a bandwidth, none where the load is greater
abbrev pub spare_left : ℕ → ℕ → Option ℕ
spare_left bandwidth load = when (nat_le load bandwidth) (bandwidth - load)
