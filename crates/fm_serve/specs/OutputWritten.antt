-- How an output goes out (this project's profile).
use Rattle.std.specs.Prelude.{◌≡◌, ◌⊎◌, ℕ, List, Bool, true, Option}
use Rattle.std.specs.Io.KnownBytes.{Appends}
use Rattle.fm_records.specs.declared.refusal.Refusal.TheVariants.{WriteFault}
use Rattle.fm_dimacs.specs.Sending.{AppendsPrefix}
use Rattle.fm_serve.specs.declared.ending.Ending.{Ending}
use Rattle.fm_serve.specs.declared.ending.Ending.TheVariants.{Stopped}
use Rattle.fm_serve.specs.Faults.{fault_of}

-- the complete output was written, and the run ends as answered; or the sink failed, and a prefix of it did
abbrev pub IsOutputWritten : Ending → List ℕ → Ending → Option (List ℕ) → Option (List ℕ) → Bool → Bool → Type 0
IsOutputWritten answered output ending old new had_failed has_failed =
    ((ending ≡ answered) × Appends old new output × (has_failed ≡ had_failed))
    ⊎ ((ending ≡ Stopped (fault_of WriteFault)) × AppendsPrefix old new output × (has_failed ≡ true))
