-- The script that a JSON value spells (this project's profile).
use Rattle.std.specs.Prelude.{◌≡◌, ℕ, ◌+◌, nat_eq, nat_le, List, [], ◌∷◌, ◌++◌, length, map, Bool, not, cond, codes, Option, Some, None, is_some, is_none, option_map}
use Rattle.std.specs.List.{list_any, flat_map, position_or_len}
use Rattle.std.specs.Option.{option_to_list}
use Rattle.std.specs.Cmp.Lexicographic.{pointwise}
use Rattle.serde_json.specs.Data.{Data}
use Rattle.serde_json.specs.Find.{get, as_bool, as_str}
use Rattle.fm_records.specs.declared.ops.Op.{Op}
use Rattle.fm_records.specs.declared.ops.Op.TheVariants as op
use Rattle.fm_records.specs.declared.ops.Phase.{Phase}
use Rattle.fm_records.specs.declared.ops.Phase.TheVariants as phase
use Rattle.fm_records.specs.Options.{when}
use Rattle.fm_coord.specs.declared.entry.Range.{Range}
use Rattle.fm_coord.specs.declared.entry.Range.TheVariants.{Interval, Full}
use Rattle.fm_script.specs.declared.script.ScriptAct.{ScriptAct}
use Rattle.fm_script.specs.declared.script.ScriptAct.TheVariants as act
use Rattle.fm_script.specs.declared.script.RoundKind.TheVariants.{Share, Relief}
use Rattle.fm_script.specs.declared.script.ScriptStep.{ScriptStep}
use Rattle.fm_script.specs.declared.script.Tell.{Tell}
use Rattle.fm_share.specs.Shares.{whole}
use Rattle.fm_script.specs.Json.{bind, whole_number, number_at, number_32_at, number_8_at, flag_at, text_at, id_at, has_size, items_at}
pub use Rattle.fm_script.specs.Json.{all_there, either}
pub use Rattle.fm_script.specs.CoordinatorLists.{coordinator_of, is_listed, are_distinct, are_coordinators, listed_of, coordinators_of}
use Rattle.fm_script.specs.ShareJson.{share_in}

-- the fields of each operation
abbrev pub parse_job : Data → Option Op
parse_job d =
    bind (id_at (codes "id") d) (λ id.
    bind (number_at (codes "version") d) (λ version.
    bind (number_8_at (codes "writer") d) (λ writer.
    bind (flag_at (codes "withdrawn") d) (λ withdrawn.
    bind (number_32_at (codes "wait") d) (λ wait.
    bind (number_32_at (codes "preempt") d) (λ preempt.
    Some (op.Job id version writer withdrawn wait preempt)))))))

-- a machine that is preferred, with its credit
abbrev pub preference_entry : Data → Option (ℕ × ℕ)
preference_entry d =
    bind (id_at (codes "machine") d) (λ machine.
    bind (number_32_at (codes "credit") d) (λ credit.
    Some (machine, credit)))

-- machines that are preferred, in the order of the list: four at most
abbrev pub preference_entries : List Data → Option (List (ℕ × ℕ))
preference_entries ds = cond (nat_le (length ds) 4) (all_there (map preference_entry ds)) None

-- none if the member is not there
abbrev pub prefer_of : Data → Option (List (ℕ × ℕ))
prefer_of d = cond (is_none (get (codes "prefer") d)) (Some []) (bind (items_at (codes "prefer") d) preference_entries)

abbrev pub parse_spec : Data → Option Op
parse_spec d =
    bind (id_at (codes "id") d) (λ id.
    bind (number_at (codes "version") d) (λ version.
    bind (number_8_at (codes "writer") d) (λ writer.
    bind (flag_at (codes "withdrawn") d) (λ withdrawn.
    bind (id_at (codes "job") d) (λ job.
    bind (number_32_at (codes "request") d) (λ request.
    bind (prefer_of d) (λ prefer.
    Some (op.Spec id version writer withdrawn job request prefer))))))))

-- the name spells the text
abbrev pub is_text : List ℕ → List ℕ → Bool
is_text = pointwise nat_eq

-- a phase by its name
abbrev pub phase_named : List ℕ → Option Phase
phase_named name = cond (is_text name (codes "pending")) (Some phase.Pending) (cond (is_text name (codes "running")) (Some phase.Running) (when (is_text name (codes "done")) phase.Done))

abbrev pub parse_progress : Data → Option Op
parse_progress d =
    bind (id_at (codes "id") d) (λ id.
    bind (number_32_at (codes "attempt") d) (λ attempt.
    bind (bind (text_at (codes "phase") d) phase_named) (λ phase.
    Some (op.Progress id attempt phase))))

abbrev pub parse_machine : Data → Option Op
parse_machine d =
    bind (id_at (codes "id") d) (λ id.
    bind (number_at (codes "incarnation") d) (λ incarnation.
    bind (number_at (codes "version") d) (λ version.
    bind (number_8_at (codes "writer") d) (λ writer.
    bind (flag_at (codes "up") d) (λ up.
    bind (number_32_at (codes "slots") d) (λ slots.
    bind (number_32_at (codes "nic") d) (λ nic.
    Some (op.Machine id incarnation version writer up slots nic))))))))

abbrev pub parse_report : Data → Option Op
parse_report d =
    bind (id_at (codes "id") d) (λ id.
    bind (number_at (codes "incarnation") d) (λ incarnation.
    bind (number_at (codes "number") d) (λ number.
    bind (number_32_at (codes "used") d) (λ used.
    Some (op.Report id incarnation number used)))))

abbrev pub propose_of : Data → Option Op
propose_of d =
    bind (id_at (codes "id") d) (λ id.
    bind (number_32_at (codes "attempt") d) (λ attempt.
    bind (number_8_at (codes "coordinator") d) (λ coordinator.
    bind (id_at (codes "machine") d) (λ machine.
    bind (number_at (codes "incarnation") d) (λ incarnation.
    Some (op.Propose id attempt coordinator machine incarnation))))))

-- an operation: the one member of an object, named for its kind
abbrev pub op_of : Data → Option Op
op_of d = bind (when (has_size 1 d) d) (λ d.
    either (get (codes "job") d) parse_job (
    either (get (codes "spec") d) parse_spec (
    either (get (codes "progress") d) parse_progress (
    either (get (codes "machine") d) parse_machine (
    either (get (codes "report") d) parse_report (
    either (get (codes "propose") d) propose_of None))))))

-- what a cut's packet comes from: an interval if both ends are named, all that is known if neither is
abbrev pub range_between : Option Data → Option Data → Option Range
range_between None None = Some Full
range_between (Some from) (Some to) = bind (whole_number from) (λ a. bind (whole_number to) (λ b. Some (Interval a b)))
range_between _ _ = None

abbrev pub range_of : Data → Option Range
range_of d = range_between (get (codes "from") d) (get (codes "to") d)

-- the name is one of those
abbrev pub is_named : List (List ℕ) → List ℕ → Bool
is_named names name = list_any (is_text name) names

-- a cut gives its packet a name that no packet before has
abbrev pub cut_of : List (List ℕ) → Data → Option ScriptAct
cut_of names d =
    bind (text_at (codes "name") d) (λ name.
    bind (range_of d) (λ range.
    when (not (is_named names name)) (act.Cut range)))

-- a delivery names a packet by its place among those before; if none has the name, the place is after them all
abbrev pub delivery_of : List (List ℕ) → Data → Option ScriptAct
delivery_of names d = option_map (λ name. act.Deliver (position_or_len (is_text name) names)) (as_str d)

-- a round: true asks for the whole plan, and an object for its share of it
abbrev pub round_by : Option Bool → Data → Option ScriptAct
round_by (Some b) d = when b (act.Round (Share whole))
round_by None d = option_map (λ share. act.Round (Share share)) (share_in d)

abbrev pub round_of : Data → Option ScriptAct
round_of d = round_by (as_bool d) d

-- a round of the relief is asked for by true
abbrev pub relief_of : Data → Option ScriptAct
relief_of d = bind (as_bool d) (λ b. when b (act.Round Relief))

-- what happens in a step, given that packets of the names were cut before: the one member beside the number of its
-- coordinator
abbrev pub act_of : List (List ℕ) → Data → Option ScriptAct
act_of names d =
    either (get (codes "cut") d) (cut_of names) (
    either (get (codes "tell") d) (λ v. option_map act.Tell (op_of v)) (
    either (get (codes "deliver") d) (delivery_of names) (
    either (get (codes "trim") d) (λ v. option_map act.Trim (whole_number v)) (
    either (get (codes "round") d) round_of (
    either (get (codes "relieve") d) relief_of None)))))

-- a step: an object of two members, the number of its coordinator and what happens there
abbrev pub script_step_of : List (List ℕ) → Data → Option ScriptStep
script_step_of names d = bind (when (has_size 2 d) d) (λ d.
    bind (number_8_at (codes "at") d) (λ at.
    bind (act_of names d) (λ act.
    Some (record { at = at; act = act }))))

-- the name that a step gives a packet, if it cuts one
abbrev pub names_in : Data → List (List ℕ)
names_in d = option_to_list (bind (get (codes "cut") d) (text_at (codes "name")))

-- what the values spell, one after another, given that packets of the names were cut before
abbrev pub steps_of : List (List ℕ) → List Data → List (Option ScriptStep)
steps_of names [] = []
steps_of names (d ∷ ds) = script_step_of names d ∷ steps_of (names ++ names_in d) ds

-- the value spells a script of these coordinators, these names of packets in the order of their cuts, and these steps
pub record IsScriptOf (d : Data) (coordinators : List ℕ) (names : List (List ℕ)) (steps : List ScriptStep) : Type 0 where
  pub coordinators_listed : coordinators_of d ≡ Some coordinators
  pub names_given : option_map (flat_map names_in) (items_at (codes "steps") d) ≡ Some names
  pub steps_listed : option_map (steps_of []) (items_at (codes "steps") d) ≡ Some (map Some steps)

-- the place of the first value that is no step, the first value of all being at the place given
abbrev pub first_strange : List (List ℕ) → ℕ → List Data → Option ℕ
first_strange names place [] = None
first_strange names place (d ∷ ds) = cond (is_some (script_step_of names d)) (first_strange (names ++ names_in d) (place + 1) ds) (Some place)

-- the fault of a list of steps, 0 if there is none
abbrev pub steps_fault : Option (List Data) → Option ℕ
steps_fault None = Some 0
steps_fault (Some ds) = first_strange [] 1 ds

-- if a value that is no script breaks a rule: 0 for the script as a whole, and else the first step that breaks a rule
abbrev pub script_fault : Data → Option ℕ
script_fault d = cond (is_none (coordinators_of d)) (Some 0) (steps_fault (items_at (codes "steps") d))

-- what a step tells, if it does
abbrev pub told_by : ℕ → ScriptAct → Option Tell
told_by at (act.Tell op) = Some (record { at = at; op = op })
told_by at _ = None

abbrev pub told_in : ScriptStep → Option Tell
told_in step = told_by step.at step.act

-- what a value tells, if it spells a step that does; no packet has a name if all steps tell
abbrev pub tell_of : Data → Option Tell
tell_of d = bind (script_step_of [] d) told_in

-- the value spells a script of these coordinators and these tells alone
pub record AreTellsOf (d : Data) (coordinators : List ℕ) (tells : List Tell) : Type 0 where
  pub coordinators_listed : coordinators_of d ≡ Some coordinators
  pub tells_listed : option_map (map tell_of) (items_at (codes "steps") d) ≡ Some (map Some tells)

-- the place of the first value that tells nothing, the first value of all being at the place given
abbrev pub first_untold : ℕ → List Data → Option ℕ
first_untold place [] = None
first_untold place (d ∷ ds) = cond (is_some (tell_of d)) (first_untold (place + 1) ds) (Some place)

abbrev pub untold_fault : Option (List Data) → Option ℕ
untold_fault None = Some 0
untold_fault (Some ds) = first_untold 1 ds

-- where a value that is no script of tells alone breaks a rule: 0 for the whole, and else the first step that tells
-- nothing
abbrev pub tells_fault : Data → Option ℕ
tells_fault d = cond (is_none (coordinators_of d)) (Some 0) (untold_fault (items_at (codes "steps") d))
