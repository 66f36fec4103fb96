-- The first fault of a script, as far as it is found without running it (this project's profile).
use Rattle.std.specs.Prelude.{◌≡◌, ◌⊎◌, ℕ, ◌+◌, nat_le, List, [], ◌∷◌, ◌++◌, length, Bool, cond, codes, Option, Some, None, is_some, is_none, option_map, IsUtf8}
use Rattle.std.specs.Option.{option_or}
use Rattle.serde_json.specs.Data.{Data}
use Rattle.serde_json.specs.Find.{get}
use Rattle.serde_json.specs.Read.{read as read_text}
use Rattle.fm_records.specs.declared.refusal.Refusal.{Refusal}
use Rattle.fm_records.specs.declared.refusal.Refusal.TheVariants as refusal
use Rattle.fm_records.specs.Ops.{op_fault}
use Rattle.fm_records.specs.Options.{when, passes}
use Rattle.fm_script.specs.declared.script.ScriptAct.{ScriptAct}
use Rattle.fm_script.specs.declared.script.ScriptAct.TheVariants as act
use Rattle.fm_script.specs.declared.script.ScriptStep.{ScriptStep}
use Rattle.fm_script.specs.declared.script_fault.FieldName.{FieldName}
use Rattle.fm_script.specs.declared.script_fault.FieldName.TheVariants as member
use Rattle.fm_script.specs.declared.script_fault.OpKind.{OpKind}
use Rattle.fm_script.specs.declared.script_fault.OpKind.TheVariants as kind
use Rattle.fm_script.specs.declared.script_fault.TellFault.{TellFault}
use Rattle.fm_script.specs.declared.script_fault.TellFault.TheVariants as tell
use Rattle.fm_script.specs.declared.script_fault.CutFault.{CutFault}
use Rattle.fm_script.specs.declared.script_fault.CutFault.TheVariants as cut
use Rattle.fm_script.specs.declared.script_fault.StepFault.{StepFault}
use Rattle.fm_script.specs.declared.script_fault.StepFault.TheVariants as step
use Rattle.fm_script.specs.declared.script_fault.ScriptFault.{ScriptFault}
use Rattle.fm_script.specs.declared.script_fault.ScriptFault.TheVariants as script
use Rattle.fm_script.specs.Json.{bind, either, whole_number, number_at, number_32_at, number_8_at, flag_at, text_at, id_at, has_size, items_at}
use Rattle.fm_script.specs.Script.{prefer_of, phase_named, range_of, is_named, is_listed, delivery_of, round_of, relief_of, coordinators_of, script_step_of, names_in, IsScriptOf}

-- ---- the form of a step: why a value is none, and nothing if it is one

-- the fields of an operation of the kind, in order, and whether each is there at its type
abbrev pub fields_of : OpKind → Data → List (FieldName × Bool)
fields_of kind.Job d =
    (member.Id, is_some (id_at (codes "id") d))
    ∷ (member.Version, is_some (number_at (codes "version") d))
    ∷ (member.Writer, is_some (number_8_at (codes "writer") d))
    ∷ (member.Withdrawn, is_some (flag_at (codes "withdrawn") d))
    ∷ (member.Wait, is_some (number_32_at (codes "wait") d))
    ∷ (member.Preempt, is_some (number_32_at (codes "preempt") d))
    ∷ []
fields_of kind.Spec d =
    (member.Id, is_some (id_at (codes "id") d))
    ∷ (member.Version, is_some (number_at (codes "version") d))
    ∷ (member.Writer, is_some (number_8_at (codes "writer") d))
    ∷ (member.Withdrawn, is_some (flag_at (codes "withdrawn") d))
    ∷ (member.Job, is_some (id_at (codes "job") d))
    ∷ (member.Request, is_some (number_32_at (codes "request") d))
    ∷ (member.Prefer, is_some (prefer_of d))
    ∷ []
fields_of kind.Progress d =
    (member.Id, is_some (id_at (codes "id") d))
    ∷ (member.Attempt, is_some (number_32_at (codes "attempt") d))
    ∷ (member.Phase, is_some (bind (text_at (codes "phase") d) phase_named))
    ∷ []
fields_of kind.Machine d =
    (member.Id, is_some (id_at (codes "id") d))
    ∷ (member.Incarnation, is_some (number_at (codes "incarnation") d))
    ∷ (member.Version, is_some (number_at (codes "version") d))
    ∷ (member.Writer, is_some (number_8_at (codes "writer") d))
    ∷ (member.Up, is_some (flag_at (codes "up") d))
    ∷ (member.Slots, is_some (number_32_at (codes "slots") d))
    ∷ (member.Nic, is_some (number_32_at (codes "nic") d))
    ∷ []
fields_of kind.Report d =
    (member.Id, is_some (id_at (codes "id") d))
    ∷ (member.Incarnation, is_some (number_at (codes "incarnation") d))
    ∷ (member.Number, is_some (number_at (codes "number") d))
    ∷ (member.Used, is_some (number_32_at (codes "used") d))
    ∷ []
fields_of kind.Propose d =
    (member.Id, is_some (id_at (codes "id") d))
    ∷ (member.Attempt, is_some (number_32_at (codes "attempt") d))
    ∷ (member.Coordinator, is_some (number_8_at (codes "coordinator") d))
    ∷ (member.Machine, is_some (id_at (codes "machine") d))
    ∷ (member.Incarnation, is_some (number_at (codes "incarnation") d))
    ∷ []

-- the first that is not there
abbrev pub first_lacking : List (FieldName × Bool) → Option FieldName
first_lacking [] = None
first_lacking (f ∷ fs) = cond f.1 (first_lacking fs) (Some f.0)

abbrev pub lacks : OpKind → Data → Option TellFault
lacks k d = option_map (tell.Lacks k) (first_lacking (fields_of k d))

-- an operation is the one member of an object, named for its kind
abbrev pub op_form : Data → Option TellFault
op_form d =
    cond (has_size 1 d) (
    either (get (codes "job") d) (lacks kind.Job) (
    either (get (codes "spec") d) (lacks kind.Spec) (
    either (get (codes "progress") d) (lacks kind.Progress) (
    either (get (codes "machine") d) (lacks kind.Machine) (
    either (get (codes "report") d) (lacks kind.Report) (
    either (get (codes "propose") d) (lacks kind.Propose) (Some tell.Kind))))))) (Some tell.Kind)

-- a cut has a name, then both ends of an interval or neither, and then the name is new
abbrev pub cut_form : List (List ℕ) → Data → Option CutFault
cut_form names d =
    cond (is_none (text_at (codes "name") d)) (Some cut.Name) (
    cond (is_none (range_of d)) (Some cut.Range) (
    when (passes (is_named names) (text_at (codes "name") d)) cut.NameTaken))

-- the member beside the number of the coordinator, in the order in which a reader looks for it
abbrev pub act_form : List (List ℕ) → Data → Option StepFault
act_form names d =
    either (get (codes "cut") d) (λ v. option_map step.Cut (cut_form names v)) (
    either (get (codes "tell") d) (λ v. option_map step.Tell (op_form v)) (
    either (get (codes "deliver") d) (λ v. when (is_none (delivery_of names v)) step.Deliver) (
    either (get (codes "trim") d) (λ v. when (is_none (whole_number v)) step.Trim) (
    either (get (codes "round") d) (λ v. when (is_none (round_of v)) step.Round) (
    either (get (codes "relieve") d) (λ v. when (is_none (relief_of v)) step.Relieve) (Some step.Act))))))

-- the two members, then the number of the coordinator, then what happens there
abbrev pub step_form : List (List ℕ) → Data → Option StepFault
step_form names d =
    cond (has_size 2 d) (cond (is_some (number_8_at (codes "at") d)) (act_form names d) (Some step.At)) (Some step.Members)

-- ---- what a step asks for that it cannot get, however the steps before it went

-- a delivery of a packet that none of the cuts before gives, or an operation with a field out of its range
abbrev pub act_refused : ℕ → ScriptAct → Option StepFault
act_refused cuts (act.Tell op) = option_map step.OutOfRange (op_fault op)
act_refused cuts (act.Deliver place) = when (nat_le cuts place) step.NoPacket
act_refused cuts _ = None

-- first, no coordinator has the number
abbrev pub step_refused : List ℕ → ℕ → ScriptStep → Option StepFault
step_refused listed cuts s = cond (is_listed listed s.at) (act_refused cuts s.act) (Some (step.NoCoordinator s.at))

-- the same of a value, if it is a step, behind as many cuts as there are names
abbrev pub refused_of : List ℕ → List (List ℕ) → Data → Option StepFault
refused_of listed names d = bind (script_step_of names d) (step_refused listed (length names))

-- ---- the whole script

-- the first of the values at fault, given that packets of the names were cut before; the first value of all is at the
-- place given
abbrev pub first_at_fault : (List (List ℕ) → Data → Option StepFault) → List (List ℕ) → ℕ → List Data → Option ScriptFault
first_at_fault fault names place [] = None
first_at_fault fault names place (d ∷ ds) =
    option_or (option_map (script.Step place) (fault names d)) (first_at_fault fault (names ++ names_in d) (place + 1) ds)

abbrev pub steps_form : Option (List Data) → Option ScriptFault
steps_form None = Some script.Steps
steps_form (Some ds) = first_at_fault step_form [] 1 ds

-- why a value is no script, and nothing if it is one: its coordinators, then that it has steps, then their forms
abbrev pub form_fault : Data → Option ScriptFault
form_fault d = cond (is_none (coordinators_of d)) (Some script.Coordinators) (steps_form (items_at (codes "steps") d))

-- the first step of a script that asks for what it cannot get
abbrev pub asking_fault : Option (List ℕ) → Option (List Data) → Option ScriptFault
asking_fault (Some listed) (Some ds) = first_at_fault (refused_of listed) [] 1 ds
asking_fault _ _ = None

-- a script is read completely before anything happens: so its form comes first
abbrev pub value_fault : Data → Option ScriptFault
value_fault d = option_or (form_fault d) (asking_fault (coordinators_of d) (items_at (codes "steps") d))

-- the first fault of the script that a text is to spell
abbrev pub IsFirstFault : List ℕ → Option ScriptFault → Type 0
IsFirstFault text fault =
    ((IsUtf8 text → read_text text ≡ None) × (fault ≡ Some script.NoJson))
    ⊎ ((d : Data) × (read_text text ≡ Some d) × (fault ≡ value_fault d))

-- ---- the same of steps that were read

-- how many packets a step cuts
abbrev pub cuts_of_act : ScriptAct → ℕ
cuts_of_act (act.Cut range) = 1
cuts_of_act _ = 0

-- the first of the steps that asks for what it cannot get, behind so many cuts; the first step of all is at the place
-- given
abbrev pub first_asking : List ℕ → ℕ → ℕ → List ScriptStep → Option ScriptFault
first_asking listed cuts place [] = None
first_asking listed cuts place (s ∷ ss) =
    option_or (option_map (script.Step place) (step_refused listed cuts s)) (first_asking listed (cuts + cuts_of_act s.act) (place + 1) ss)

-- the value spells a script
abbrev pub IsScript : Data → Type 0
IsScript d = (listed : List ℕ) × (names : List (List ℕ)) × (steps : List ScriptStep) × IsScriptOf d listed names steps

-- ---- what a run says of the fault

abbrev pub step_refusal : ℕ → StepFault → Refusal
step_refusal place (step.NoCoordinator at) = refusal.NoCoordinator
step_refusal place step.NoPacket = refusal.NoPacket
step_refusal place (step.OutOfRange field) = refusal.BadOp field
step_refusal place _ = refusal.BadScript place

abbrev pub refusal_named : ScriptFault → Refusal
refusal_named (script.Step place fault) = step_refusal place fault
refusal_named _ = refusal.BadScript 0
