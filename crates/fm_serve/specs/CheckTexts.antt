-- What is said of a script that is checked and not run (this project's profile).
use Rattle.std.specs.Prelude.{ℕ, List, ◌++◌, codes, decimal, Option, Some, None}
use Rattle.fm_query.specs.FieldRanges.{range_text}
use Rattle.fm_script.specs.declared.script_fault.FieldName.{FieldName}
use Rattle.fm_script.specs.declared.script_fault.FieldName.TheVariants as member
use Rattle.fm_script.specs.declared.script_fault.OpKind.{OpKind}
use Rattle.fm_script.specs.declared.script_fault.OpKind.TheVariants as kind
use Rattle.fm_script.specs.declared.script_fault.TellFault.{TellFault}
use Rattle.fm_script.specs.declared.script_fault.TellFault.TheVariants as tell
use Rattle.fm_script.specs.declared.script_fault.CutFault.{CutFault}
use Rattle.fm_script.specs.declared.script_fault.CutFault.TheVariants as cut
use Rattle.fm_script.specs.declared.script_fault.StepFault.{StepFault}
use Rattle.fm_script.specs.declared.script_fault.StepFault.TheVariants as step
use Rattle.fm_script.specs.declared.script_fault.ScriptFault.{ScriptFault}
use Rattle.fm_script.specs.declared.script_fault.ScriptFault.TheVariants as script

-- the name of a kind, and what is wanted in a member
abbrev pub kind_text : OpKind → List ℕ
kind_text kind.Job = codes "job"
kind_text kind.Spec = codes "spec"
kind_text kind.Progress = codes "progress"
kind_text kind.Machine = codes "machine"
kind_text kind.Report = codes "report"
kind_text kind.Propose = codes "propose"

abbrev pub member_text : FieldName → List ℕ
member_text member.Id = codes "id: a UUID is wanted"
member_text member.Version = codes "version: a whole number is wanted"
member_text member.Writer = codes "writer: a whole number from 1 to 64 is wanted"
member_text member.Withdrawn = codes "withdrawn: true or false is wanted"
member_text member.Wait = codes "wait: a whole number from 0 to 1000000000 is wanted"
member_text member.Preempt = codes "preempt: a whole number from 0 to 1000000000 is wanted"
member_text member.Job = codes "job: a UUID is wanted"
member_text member.Request = codes "request: a whole number from 0 to 1000000 is wanted"
member_text member.Prefer = codes "prefer: a list of at most four objects with machine and credit is wanted"
member_text member.Attempt = codes "attempt: a whole number from 0 to 4294967295 is wanted"
member_text member.Phase = codes "phase: pending, running or done is wanted"
member_text member.Incarnation = codes "incarnation: a whole number is wanted"
member_text member.Up = codes "up: true or false is wanted"
member_text member.Slots = codes "slots: a whole number from 1 to 1000 is wanted"
member_text member.Nic = codes "nic: a whole number from 0 to 1000000 is wanted"
member_text member.Number = codes "number: a whole number is wanted"
member_text member.Used = codes "used: a whole number from 0 to 1000000000 is wanted"
member_text member.Coordinator = codes "coordinator: a whole number from 1 to 64 is wanted"
member_text member.Machine = codes "machine: a UUID is wanted"

abbrev pub tell_text : TellFault → List ℕ
tell_text tell.Kind = codes "tell: one operation is wanted: job, spec, progress, machine, report or propose"
tell_text (tell.Lacks k m) = codes "tell: " ++ (kind_text k ++ (codes ": " ++ member_text m))

abbrev pub cut_text : CutFault → List ℕ
cut_text cut.Name = codes "a name is wanted, as a text"
cut_text cut.Range = codes "from and to are whole numbers, and one is not without the other"
cut_text cut.NameTaken = codes "an earlier cut gave this name"

-- the member of a step, and what is wanted there; without a member if the step as a whole is at fault
abbrev pub reason_text : StepFault → List ℕ
reason_text step.Members = codes "a step has two members, at and what happens"
reason_text step.At = codes "at: a whole number from 0 to 255 is wanted"
reason_text step.Act = codes "beside at, a step has tell, cut, deliver, trim, round or relieve"
reason_text (step.Cut fault) = codes "cut: " ++ cut_text fault
reason_text (step.Tell fault) = tell_text fault
reason_text step.Deliver = codes "deliver: a text is wanted"
reason_text step.Trim = codes "trim: a whole number is wanted"
reason_text step.Round = codes "round: true, or an object of writers and each, or of one of them, is wanted"
reason_text step.Relieve = codes "relieve: true is wanted"
reason_text (step.NoCoordinator at) = codes "at: no coordinator has the number " ++ decimal at
reason_text step.NoPacket = codes "deliver: no earlier step cuts a packet of this name"
reason_text (step.OutOfRange field) = codes "tell: " ++ range_text field

abbrev pub fault_line : ScriptFault → List ℕ
fault_line script.NoJson = codes "script: no JSON\n"
fault_line script.Coordinators = codes "script: coordinators: at least one number, each from 1 to 64, none twice, is wanted\n"
fault_line script.Steps = codes "script: steps: a list is wanted\n"
fault_line (script.Step place fault) = codes "step " ++ (decimal place ++ (codes ": " ++ (reason_text fault ++ codes "\n")))

-- a line: that the script is accepted, or its first fault
abbrev pub check_text : Option ScriptFault → List ℕ
check_text None = codes "accepted\n"
check_text (Some fault) = fault_line fault
