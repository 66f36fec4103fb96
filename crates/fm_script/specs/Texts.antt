-- What it is for a text to spell a script, and why one is not read (this project's profile).
use Rattle.std.specs.Prelude.{◌≡◌, ◌⊎◌, ℕ, List, Some, None, option_map, IsUtf8}
use Rattle.serde_json.specs.Data.{Data}
use Rattle.serde_json.specs.Read.{read as read_text}
use Rattle.fm_records.specs.declared.refusal.Refusal.{Refusal}
use Rattle.fm_records.specs.declared.refusal.Refusal.TheVariants.{OutOfMemory, BadScript}
use Rattle.fm_script.specs.declared.script.ScriptStep.{ScriptStep}
use Rattle.fm_script.specs.declared.script.Tell.{Tell}
use Rattle.fm_script.specs.Script.{IsScriptOf, script_fault, AreTellsOf, tells_fault}

-- the text is JSON, and its value a script of these coordinators, names and steps
pub record IsScriptText (text : List ℕ) (listed : List ℕ) (names : List (List ℕ)) (steps : List ScriptStep) : Type 0 where
  pub value : Data
  pub read : read_text text ≡ Some value
  pub script : IsScriptOf value listed names steps

-- the text is no JSON, or its value has the fault; or memory ran out
abbrev pub SpellsNone : List ℕ → Refusal → Type 0
SpellsNone text refusal =
    (refusal ≡ OutOfMemory)
    ⊎ (((IsUtf8 text → read_text text ≡ None) × (refusal ≡ BadScript 0))
    ⊎ ((d : Data) × (read_text text ≡ Some d) × (option_map BadScript (script_fault d) ≡ Some refusal)))

-- the text is JSON, and its value a script of these coordinators and these tells alone
pub record SpellsTells (text : List ℕ) (listed : List ℕ) (tells : List Tell) : Type 0 where
  pub value : Data
  pub read : read_text text ≡ Some value
  pub script : AreTellsOf value listed tells

-- the text is no JSON, or its value has the fault as a script of tells alone; or memory ran out
abbrev pub SpellsNoTells : List ℕ → Refusal → Type 0
SpellsNoTells text refusal =
    (refusal ≡ OutOfMemory)
    ⊎ (((IsUtf8 text → read_text text ≡ None) × (refusal ≡ BadScript 0))
    ⊎ ((d : Data) × (read_text text ≡ Some d) × (option_map BadScript (tells_fault d) ≡ Some refusal)))
