-- What the program counts of a fleet, and why it does not (this project's profile).
use Rattle.std.specs.Prelude.{◌≡◌, ◌⊎◌, ℕ, List, None}
use Rattle.fm_records.specs.declared.refusal.Refusal.{Refusal}
use Rattle.fm_records.specs.declared.refusal.Refusal.TheVariants.{OutOfMemory}
use Rattle.fm_script.specs.declared.script.Tell.{Tell}
use Rattle.fm_script.specs.Texts.{SpellsTells, SpellsNoTells}
use Rattle.fm_serve.specs.declared.counts.Counts.{Counts}
use Rattle.fm_serve.specs.Musters.{IsMustered, IsStopped, StopsMuster, counts_text}
use Rattle.fm_serve.specs.declared.fault.Fault.{Fault}
use Rattle.fm_serve.specs.Faults.{fault_of, script_fault_of}

-- the text spells a script of tells alone, its coordinators ran so many rounds, and the output is what was counted of them
pub record IsCounted (rounds : ℕ) (text : List ℕ) (output : List ℕ) : Type 0 where
  pub listed : List ℕ
  pub tells : List Tell
  pub spelled : SpellsTells text listed tells
  pub counts : Counts
  pub mustered : IsMustered listed tells rounds counts
  pub lines : output ≡ counts_text counts

-- the text was not read as a script of tells alone, and why
pub record IsUntold (text : List ℕ) (fault : Fault) : Type 0 where
  pub refusal : Refusal
  pub named : fault ≡ script_fault_of refusal
  pub cause : SpellsNoTells text refusal

-- it was, and nothing was counted: a tell is at fault, or the fleet has a cause to stop
pub record IsUncounted (text : List ℕ) (fault : Fault) : Type 0 where
  pub listed : List ℕ
  pub tells : List Tell
  pub spelled : SpellsTells text listed tells
  pub stopped : IsStopped listed tells fault
  pub cause : fault.step ≡ None → StopsMuster fault.refusal

-- why nothing is written
abbrev pub IsNotCounted : List ℕ → Fault → Type 0
IsNotCounted text fault = (fault ≡ fault_of OutOfMemory) ⊎ (IsUntold text fault ⊎ IsUncounted text fault)
