-- A fault of form is found exactly where nothing is read, and the first fault of a list is found step by step.
use Rattle.std.proofs.Common.{◌≡◌, ℕ, ◌+◌, ◌<◌, List, [], ◌∷◌, ◌++◌, length, map, drop, get_or, position, Bool, true, false, cond, not, codes, Option, Some, None, is_some, is_none, option_map, unwrap_or, refl, sym, ap, ◌∙◌, true≢false}
use Rattle.std.specs.Option.{option_or}
use Rattle.std.proofs.lemmas.List.{drop_more}
use Rattle.serde_json.specs.Data.{Data}
use Rattle.serde_json.specs.Find.{get}
use Rattle.serde_json.specs.View.{view}
use Rattle.serde_json.specs.declared.value.Value.{Value}
use Rattle.fm_records.specs.Options.{when, passes}
use Rattle.fm_records.specs.declared.ops.Field.{Field}
use Rattle.fm_records.specs.declared.refusal.Refusal.{Refusal}
use Rattle.fm_records.specs.declared.refusal.Refusal.TheVariants.{BadOp, BadScript}
use Rattle.fm_coord.specs.declared.entry.Range.{Range}
use Rattle.fm_script.specs.declared.script.ScriptAct.{ScriptAct}
use Rattle.fm_script.specs.declared.script.ScriptAct.TheVariants as act
use Rattle.fm_script.specs.declared.script.ScriptStep.{ScriptStep}
use Rattle.fm_script.specs.declared.script_fault.FieldName.{FieldName}
use Rattle.fm_script.specs.declared.script_fault.FieldName.TheVariants as member
use Rattle.fm_script.specs.declared.script_fault.OpKind.TheVariants as kind
use Rattle.fm_script.specs.declared.script_fault.TellFault.TheVariants as tell
use Rattle.fm_script.specs.declared.script_fault.CutFault.TheVariants as cut
use Rattle.fm_script.specs.declared.script_fault.StepFault.{StepFault}
use Rattle.fm_script.specs.declared.script_fault.StepFault.TheVariants as step
use Rattle.fm_script.specs.declared.script_fault.ScriptFault.{ScriptFault}
use Rattle.fm_script.specs.declared.script_fault.ScriptFault.TheVariants as script
use Rattle.fm_script.specs.Json.{bind, either, whole_number, number_at, number_32_at, number_8_at, flag_at, text_at, id_at, has_size, items_at}
use Rattle.fm_script.specs.Script.{parse_job, parse_spec, parse_progress, parse_machine, parse_report, propose_of, prefer_of, phase_named, is_text, op_of, range_of, is_named, cut_of, delivery_of, round_of, relief_of, act_of, script_step_of, names_in, first_strange, steps_fault, script_fault, coordinators_of}
use Rattle.fm_script.proofs.Naming.{is_some-position}
use Rattle.fm_script.specs.ScriptFaults.{fields_of, first_lacking, lacks, op_form, cut_form, act_form, step_form, step_refused, refused_of, first_at_fault, steps_form, form_fault, step_refusal, refusal_named}

-- ---- there is a fault exactly if nothing is read

module _ {F A : Type 0} where
  told-when : (k : F) (o : Option A) → is_none (when (is_none o) k) ≡ is_some o
  told-when k None = refl
  told-when k (Some a) = refl

  told-either : (o : Option Data) (g : Data → Option F) (f : Data → Option A) (last : Option F) (other : Option A) → ((v : Data) → is_none (g v) ≡ is_some (f v)) → is_none last ≡ is_some other → is_none (either o g last) ≡ is_some (either o f other)
  told-either None g f last other each rest = rest
  told-either (Some v) g f last other each rest = each v

  told-size : (b : Bool) (d : Data) (f : Data → Option A) (fault : Option F) (k : F) → is_none fault ≡ is_some (f d) → is_none (cond b fault (Some k)) ≡ is_some (bind (when b d) f)
  told-size true d f fault k h = h
  told-size false d f fault k h = refl

  told-mapped : {G : Type 0} (g : G → F) (o : Option G) (x : Option A) → is_none o ≡ is_some x → is_none (option_map g o) ≡ is_some x
  told-mapped g None x h = h
  told-mapped g (Some a) x h = h

  told-made : {B : Type 0} (o : Option F) (x : Option A) (f : A → B) → is_none o ≡ is_some x → is_none o ≡ is_some (option_map f x)
  told-made o None f h = h
  told-made o (Some a) f h = h

  told-bound : {B : Type 0} (o : Option F) (x : Option A) (f : A → B) → is_none o ≡ is_some x → is_none o ≡ is_some (bind x (λ a. Some (f a)))
  told-bound o None f h = h
  told-bound o (Some a) f h = h

-- a field more
field : {A B : Type 0} (m : FieldName) (o : Option A) (later : Option FieldName) (f : A → Option B) → ((a : A) → is_none later ≡ is_some (f a)) → is_none (cond (is_some o) later (Some m)) ≡ is_some (bind o f)
field m None later f h = refl
field m (Some a) later f h = h a

told-job : (d : Data) → is_none (lacks kind.Job d) ≡ is_some (parse_job d)
told-job d = told-mapped (tell.Lacks kind.Job) (first_lacking (fields_of kind.Job d)) (parse_job d) (
    field member.Id (id_at (codes "id") d) _ _ (λ id.
    field member.Version (number_at (codes "version") d) _ _ (λ version.
    field member.Writer (number_8_at (codes "writer") d) _ _ (λ writer.
    field member.Withdrawn (flag_at (codes "withdrawn") d) _ _ (λ withdrawn.
    field member.Wait (number_32_at (codes "wait") d) _ _ (λ wait.
    field member.Preempt (number_32_at (codes "preempt") d) _ _ (λ preempt. refl)))))))

told-spec : (d : Data) → is_none (lacks kind.Spec d) ≡ is_some (parse_spec d)
told-spec d = told-mapped (tell.Lacks kind.Spec) (first_lacking (fields_of kind.Spec d)) (parse_spec d) (
    field member.Id (id_at (codes "id") d) _ _ (λ id.
    field member.Version (number_at (codes "version") d) _ _ (λ version.
    field member.Writer (number_8_at (codes "writer") d) _ _ (λ writer.
    field member.Withdrawn (flag_at (codes "withdrawn") d) _ _ (λ withdrawn.
    field member.Job (id_at (codes "job") d) _ _ (λ job.
    field member.Request (number_32_at (codes "request") d) _ _ (λ request.
    field member.Prefer (prefer_of d) _ _ (λ prefer. refl))))))))

told-progress : (d : Data) → is_none (lacks kind.Progress d) ≡ is_some (parse_progress d)
told-progress d = told-mapped (tell.Lacks kind.Progress) (first_lacking (fields_of kind.Progress d)) (parse_progress d) (
    field member.Id (id_at (codes "id") d) _ _ (λ id.
    field member.Attempt (number_32_at (codes "attempt") d) _ _ (λ attempt.
    field member.Phase (bind (text_at (codes "phase") d) phase_named) _ _ (λ phase. refl))))

told-machine : (d : Data) → is_none (lacks kind.Machine d) ≡ is_some (parse_machine d)
told-machine d = told-mapped (tell.Lacks kind.Machine) (first_lacking (fields_of kind.Machine d)) (parse_machine d) (
    field member.Id (id_at (codes "id") d) _ _ (λ id.
    field member.Incarnation (number_at (codes "incarnation") d) _ _ (λ incarnation.
    field member.Version (number_at (codes "version") d) _ _ (λ version.
    field member.Writer (number_8_at (codes "writer") d) _ _ (λ writer.
    field member.Up (flag_at (codes "up") d) _ _ (λ up.
    field member.Slots (number_32_at (codes "slots") d) _ _ (λ slots.
    field member.Nic (number_32_at (codes "nic") d) _ _ (λ nic. refl))))))))

told-report : (d : Data) → is_none (lacks kind.Report d) ≡ is_some (parse_report d)
told-report d = told-mapped (tell.Lacks kind.Report) (first_lacking (fields_of kind.Report d)) (parse_report d) (
    field member.Id (id_at (codes "id") d) _ _ (λ id.
    field member.Incarnation (number_at (codes "incarnation") d) _ _ (λ incarnation.
    field member.Number (number_at (codes "number") d) _ _ (λ number.
    field member.Used (number_32_at (codes "used") d) _ _ (λ used. refl)))))

told-propose : (d : Data) → is_none (lacks kind.Propose d) ≡ is_some (propose_of d)
told-propose d = told-mapped (tell.Lacks kind.Propose) (first_lacking (fields_of kind.Propose d)) (propose_of d) (
    field member.Id (id_at (codes "id") d) _ _ (λ id.
    field member.Attempt (number_32_at (codes "attempt") d) _ _ (λ attempt.
    field member.Coordinator (number_8_at (codes "coordinator") d) _ _ (λ coordinator.
    field member.Machine (id_at (codes "machine") d) _ _ (λ machine.
    field member.Incarnation (number_at (codes "incarnation") d) _ _ (λ incarnation. refl))))))

pub told-op : (d : Data) → is_none (op_form d) ≡ is_some (op_of d)
told-op d = told-size (has_size 1 d) d _ _ tell.Kind (
    told-either (get (codes "job") d) (lacks kind.Job) parse_job _ _ told-job (
    told-either (get (codes "spec") d) (lacks kind.Spec) parse_spec _ _ told-spec (
    told-either (get (codes "progress") d) (lacks kind.Progress) parse_progress _ _ told-progress (
    told-either (get (codes "machine") d) (lacks kind.Machine) parse_machine _ _ told-machine (
    told-either (get (codes "report") d) (lacks kind.Report) parse_report _ _ told-report (
    told-either (get (codes "propose") d) (lacks kind.Propose) propose_of (Some tell.Kind) None told-propose refl))))))

cut-parts : (names : List (List ℕ)) (t : Option (List ℕ)) (r : Option Range) → is_none (cond (is_none t) (Some cut.Name) (cond (is_none r) (Some cut.Range) (when (passes (is_named names) t) cut.NameTaken))) ≡ is_some (bind t (λ name. bind r (λ range. when (not (is_named names name)) (act.Cut range))))
cut-parts names None r = refl
cut-parts names (Some name) None = refl
cut-parts names (Some name) (Some range) =
    elim (is_named names name) as (λ b. is_none (when b cut.NameTaken) ≡ is_some (when (not b) (act.Cut range))) [ true ↦ refl | false ↦ refl ]

-- what is at fault in a cut, by its parts
pub cut_form-parts : (names : List (List ℕ)) (d : Data) (name : List ℕ) (placed : Bool) → Some name ≡ text_at (codes "name") d → true ≡ is_some (range_of d) → placed ≡ is_some (position (is_text name) names) → when placed cut.NameTaken ≡ cut_form names d
cut_form-parts names d name placed named ranged there =
    ap (λ b. when b cut.NameTaken) (there ∙ is_some-position (is_text name) names)
    ∙ (λ i. cond (is_none (named i)) (Some cut.Name) (cond (not (ranged i)) (Some cut.Range) (when (passes (is_named names) (named i)) cut.NameTaken)))

pub told-cut : (names : List (List ℕ)) (d : Data) → is_none (cut_form names d) ≡ is_some (cut_of names d)
told-cut names d = cut-parts names (text_at (codes "name") d) (range_of d)

pub told-act : (names : List (List ℕ)) (d : Data) → is_none (act_form names d) ≡ is_some (act_of names d)
told-act names d =
    told-either (get (codes "cut") d) (λ v. option_map step.Cut (cut_form names v)) (cut_of names) _ _ (λ v. told-mapped step.Cut (cut_form names v) (cut_of names v) (told-cut names v)) (
    told-either (get (codes "tell") d) (λ v. option_map step.Tell (op_form v)) (λ v. option_map act.Tell (op_of v)) _ _ (λ v. told-made (option_map step.Tell (op_form v)) (op_of v) act.Tell (told-mapped step.Tell (op_form v) (op_of v) (told-op v))) (
    told-either (get (codes "deliver") d) (λ v. when (is_none (delivery_of names v)) step.Deliver) (delivery_of names) _ _ (λ v. told-when step.Deliver (delivery_of names v)) (
    told-either (get (codes "trim") d) (λ v. when (is_none (whole_number v)) step.Trim) (λ v. option_map act.Trim (whole_number v)) _ _ (λ v. told-made (when (is_none (whole_number v)) step.Trim) (whole_number v) act.Trim (told-when step.Trim (whole_number v))) (
    told-either (get (codes "round") d) (λ v. when (is_none (round_of v)) step.Round) round_of _ _ (λ v. told-when step.Round (round_of v)) (
    told-either (get (codes "relieve") d) (λ v. when (is_none (relief_of v)) step.Relieve) relief_of (Some step.Act) None (λ v. told-when step.Relieve (relief_of v)) refl)))))

abbrev step_with : ℕ → ScriptAct → ScriptStep
step_with at act = record { at = at; act = act }

at-parts : (n : Option ℕ) (fault : Option StepFault) (a : Option ScriptAct) → is_none fault ≡ is_some a → is_none (cond (is_some n) fault (Some step.At)) ≡ is_some (bind n (λ at. bind a (λ act. Some (step_with at act))))
at-parts None fault a h = refl
at-parts (Some at) fault a h = told-bound fault a (step_with at) h

-- a value has a fault of form exactly if it is no step
pub told-step : (names : List (List ℕ)) (d : Data) → is_none (step_form names d) ≡ is_some (script_step_of names d)
told-step names d =
    told-size (has_size 2 d) d _ _ step.Members (at-parts (number_8_at (codes "at") d) (act_form names d) (act_of names d) (told-act names d))

-- ---- what a run says of a fault of form

abbrev IsFormed : Option StepFault → Type 0
IsFormed o = (place : ℕ) → option_map (step_refusal place) o ≡ option_map (λ k. BadScript place) o

formed-either : (o : Option Data) (g : Data → Option StepFault) (last : Option StepFault) → ((v : Data) → IsFormed (g v)) → IsFormed last → IsFormed (either o g last)
formed-either None g last each rest = rest
formed-either (Some v) g last each rest = each v

formed-when : (b : Bool) (k : StepFault) → ((place : ℕ) → step_refusal place k ≡ BadScript place) → IsFormed (when b k)
formed-when true k h = λ place. ap Some (h place)
formed-when false k h = λ place. refl

formed-cond : (b : Bool) (x y : Option StepFault) → IsFormed x → IsFormed y → IsFormed (cond b x y)
formed-cond true x y h k = h
formed-cond false x y h k = k

formed-map : {A : Type 0} (o : Option A) (f : A → StepFault) → ((a : A) (place : ℕ) → step_refusal place (f a) ≡ BadScript place) → IsFormed (option_map f o)
formed-map None f h = λ place. refl
formed-map (Some a) f h = λ place. ap Some (h a place)

formed-act : (names : List (List ℕ)) (d : Data) → IsFormed (act_form names d)
formed-act names d =
    formed-either (get (codes "cut") d) (λ v. option_map step.Cut (cut_form names v)) _ (λ v. formed-map (cut_form names v) step.Cut (λ a place. refl)) (
    formed-either (get (codes "tell") d) (λ v. option_map step.Tell (op_form v)) _ (λ v. formed-map (op_form v) step.Tell (λ a place. refl)) (
    formed-either (get (codes "deliver") d) (λ v. when (is_none (delivery_of names v)) step.Deliver) _ (λ v. formed-when (is_none (delivery_of names v)) step.Deliver (λ place. refl)) (
    formed-either (get (codes "trim") d) (λ v. when (is_none (whole_number v)) step.Trim) _ (λ v. formed-when (is_none (whole_number v)) step.Trim (λ place. refl)) (
    formed-either (get (codes "round") d) (λ v. when (is_none (round_of v)) step.Round) _ (λ v. formed-when (is_none (round_of v)) step.Round (λ place. refl)) (
    formed-either (get (codes "relieve") d) (λ v. when (is_none (relief_of v)) step.Relieve) (Some step.Act) (λ v. formed-when (is_none (relief_of v)) step.Relieve (λ place. refl)) (λ place. refl))))))

formed-step : (names : List (List ℕ)) (d : Data) → IsFormed (step_form names d)
formed-step names d =
    formed-cond (has_size 2 d) (cond (is_some (number_8_at (codes "at") d)) (act_form names d) (Some step.At)) (Some step.Members)
    (formed-cond (is_some (number_8_at (codes "at") d)) (act_form names d) (Some step.At) (formed-act names d) (λ place. refl))
    (λ place. refl)

formed-list : (names : List (List ℕ)) (place : ℕ) (ds : List Data) → option_map refusal_named (first_at_fault step_form names place ds) ≡ option_map BadScript (first_strange names place ds)
formed-list names place [] = refl
formed-list names place (d ∷ ds) =
    let later = first_strange (names ++ names_in d) (place + 1) ds in
    let turn : Bool → Option _ = λ b. option_map BadScript (cond b later (Some place)) in
    elim (step_form names d) as (λ o. IsFormed o → is_none o ≡ is_some (script_step_of names d)
    → option_map refusal_named (option_or (option_map (script.Step place) o) (first_at_fault step_form (names ++ names_in d) (place + 1) ds)) ≡ turn (is_some (script_step_of names d))) [
      | None ↦ λ _ e. formed-list (names ++ names_in d) (place + 1) ds ∙ ap turn e
      | Some k ↦ λ h e. h place ∙ ap turn e
    ] (formed-step names d) (told-step names d)

formed-whole : (b : Bool) (o : Option (List Data)) → option_map refusal_named (cond b (Some script.Coordinators) (steps_form o)) ≡ option_map BadScript (cond b (Some 0) (steps_fault o))
formed-whole true o = refl
formed-whole false None = refl
formed-whole false (Some ds) = formed-list [] 1 ds

-- a fault of form is what a run refuses to read
pub form-refused : (d : Data) → option_map refusal_named (form_fault d) ≡ option_map BadScript (script_fault d)
form-refused d = formed-whole (is_none (coordinators_of d)) (items_at (codes "steps") d)

-- ---- the first fault of a list, value by value

-- a value that is a step: no fault of form
pub form-next : (names : List (List ℕ)) (place : ℕ) (d : Data) (ds : List Data) (s : ScriptStep) → Some s ≡ script_step_of names d
    → first_at_fault step_form names place (d ∷ ds) ≡ first_at_fault step_form (names ++ names_in d) (place + 1) ds
form-next names place d ds s h =
    let later = first_at_fault step_form (names ++ names_in d) (place + 1) ds in
    elim (step_form names d) as (λ o. is_none o ≡ is_some (script_step_of names d) → option_or (option_map (script.Step place) o) later ≡ later) [
      | None ↦ λ _. refl
      | Some k ↦ λ e. absurd (true≢false (ap is_some h ∙ sym e))
    ] (told-step names d)

-- a value that is none: its fault is the first
pub form-stop : (names : List (List ℕ)) (place : ℕ) (d : Data) (ds : List Data) (other : Option ScriptFault) → None ≡ script_step_of names d
    → option_map (script.Step place) (step_form names d) ≡ option_or (first_at_fault step_form names place (d ∷ ds)) other
form-stop names place d ds other h =
    let later = first_at_fault step_form (names ++ names_in d) (place + 1) ds in
    elim (step_form names d) as (λ o. is_none o ≡ is_some (script_step_of names d) → option_map (script.Step place) o ≡ option_or (option_or (option_map (script.Step place) o) later) other) [
      | None ↦ λ e. absurd (true≢false (e ∙ sym (ap is_some h)))
      | Some k ↦ λ _. refl
    ] (told-step names d)

option_or-assoc : {A : Type 0} (a b c : Option A) → option_or a (option_or b c) ≡ option_or (option_or a b) c
option_or-assoc None b c = refl
option_or-assoc (Some x) b c = refl

-- a step: what it asks for is the first fault, unless an earlier step has one
pub refused-next : (listed : List ℕ) (names : List (List ℕ)) (place : ℕ) (d : Data) (ds : List Data) (s : ScriptStep) (found : Option ScriptFault) → Some s ≡ script_step_of names d
    → option_or found (first_at_fault (refused_of listed) names place (d ∷ ds))
    ≡ option_or (option_or found (option_map (script.Step place) (step_refused listed (length names) s))) (first_at_fault (refused_of listed) (names ++ names_in d) (place + 1) ds)
refused-next listed names place d ds s found h =
    let later = first_at_fault (refused_of listed) (names ++ names_in d) (place + 1) ds in
    ap (λ o. option_or found (option_or (option_map (script.Step place) (bind o (step_refused listed (length names)))) later)) (sym h)
    ∙ option_or-assoc found (option_map (script.Step place) (step_refused listed (length names) s)) later

-- the items from a place on, the first of them apart
pub drop-view : (vs : List Value) (i : ℕ) (v : Value) → i < length vs → v ≡ get_or vs i v → map view (drop i vs) ≡ view v ∷ map view (drop (i + 1) vs)
drop-view vs i v h e = ap (map view) (drop_more vs i v h ∙ ap (λ w. w ∷ drop (i + 1) vs) (sym e))

-- the field that an operation's refusal names
pub field-named : (o : Option Field) (r : Refusal) (found : Option StepFault) → option_map BadOp o ≡ Some r → ((field : Field) → r ≡ BadOp field → found ≡ Some (step.OutOfRange field)) → found ≡ option_map (λ x. step.OutOfRange x) o
field-named None r found e each = absurd (true≢false (sym (ap is_some e)))
field-named (Some f) r found e each = each f (sym (ap (λ o. unwrap_or o r) e))
