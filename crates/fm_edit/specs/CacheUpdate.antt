-- Values at keys, as they are to be seen. Own.
use Rattle.std.specs.Prelude.{◌==◌, ℕ, Bool, true, false, not, Option, Some, None}
use Rattle.fm_records.specs.Options.{when, and_then}
use Rattle.fm_records.specs.Table.{MachineValue}

-- the incarnation at which a machine with the record is open, if it is
abbrev pub standing_of : MachineValue → Option ℕ
standing_of v = and_then (λ r. when r.up v.0) v.1.0

abbrev pub standing : Option MachineValue → Option ℕ
standing o = and_then standing_of o

abbrev pub same_standing : Option ℕ → Option ℕ → Bool
same_standing None None = true
same_standing None (Some b) = false
same_standing (Some a) None = false
same_standing (Some a) (Some b) = a == b

-- whether a machine turned: it opened, closed, or is at another incarnation
abbrev pub turns : Option MachineValue → Option MachineValue → Bool
turns old new = not (same_standing (standing old) (standing new))
