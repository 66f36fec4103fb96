-- What the program answers about the file of a store (this project's profile).
use Rattle.std.specs.Prelude.{◌≡◌, ◌⊎◌, ℕ, List, [], Bool, Option, Some, None, Result, Ok, Err}
use Rattle.fm_records.specs.declared.refusal.Refusal.TheVariants.{OutOfMemory}
use Rattle.fm_store.specs.declared.store_fault.StoreFault.{StoreFault}
use Rattle.fm_store.specs.declared.store_fault.StoreFault.TheVariants as store
use Rattle.fm_salvage.specs.ListingText.{IsStoreListed}
use Rattle.fm_salvage.specs.RecoveryText.{IsRecoveredText}
use Rattle.fm_serve.specs.declared.ending.Ending.{Ending}
use Rattle.fm_serve.specs.declared.ending.Ending.TheVariants.{Done, Stopped, Unusable}
use Rattle.fm_serve.specs.declared.salvage.StoreQuestion.{StoreQuestion}
use Rattle.fm_serve.specs.declared.salvage.StoreQuestion.TheVariants as question
use Rattle.fm_serve.specs.Faults.{fault_of}
use Rattle.fm_serve.specs.OutputWritten.{IsOutputWritten}

-- how a run ends, by the place of the damage
abbrev pub ending_salvaged : Option ℕ → Ending
ending_salvaged None = Done
ending_salvaged (Some place) = Unusable (store.Damaged place)

-- the text answers the question about a file of these bytes, which is damaged there
abbrev pub IsSalvage : StoreQuestion → List ℕ → List ℕ → Option ℕ → Type 0
IsSalvage question.Records bytes text damage = IsStoreListed bytes text damage
IsSalvage question.Recover bytes text damage = IsRecoveredText bytes text damage

-- the ending and the complete output, by what the file has, or by why it could not be read
abbrev pub Salvages : StoreQuestion → Result (List ℕ) StoreFault → Ending → List ℕ → Type 0
Salvages q (Err fault) ending output = (ending ≡ Unusable fault) × (output ≡ [])
Salvages q (Ok bytes) ending output =
    ((ending ≡ Stopped (fault_of OutOfMemory)) × (output ≡ []))
    ⊎ ((damage : Option ℕ) × IsSalvage q bytes output damage × (ending ≡ ending_salvaged damage))

-- a file was read, or it could not be; the answer to the question about it went out
pub record IsSalvaged (q : StoreQuestion) (ending : Ending) (old new : Option (List ℕ)) (had_failed has_failed : Bool) : Type 0 where
  pub read : Result (List ℕ) StoreFault
  pub answered : Ending
  pub output : List ℕ
  pub salvages : Salvages q read answered output
  pub went : IsOutputWritten answered output ending old new had_failed has_failed
