-- A run that comes to the step that a check names is refused there, for the reason that the fault stands for.
use Rattle.std.proofs.Common.{◌≡◌, ◌+◌, ◌≤◌, ◌==◌, ◌||◌, ℕ, zero, suc, List, [], ◌∷◌, length, take, Bool, true, false, cond, nat_le, nat_lt, Option, Some, None, is_some, option_map, unwrap_or, refl, sym, ap, ◌∙◌, subst, true≢false, inl, inr, arith}
use Rattle.std.specs.List.{slice_get}
use Rattle.std.specs.Option.{option_or}
use Rattle.std.proofs.lemmas.Bool.{leb-true, le-leb}
use Rattle.std.proofs.lemmas.List.{length-append}
use Rattle.std.proofs.lemmas.Option.{slice_get_past, slice_get_cases}
use Rattle.fm_records.specs.declared.ops.Field.{Field}
use Rattle.fm_records.specs.declared.refusal.Refusal.{Refusal}
use Rattle.fm_records.specs.declared.refusal.Refusal.TheVariants as refusal
use Rattle.fm_records.specs.Ops.{op_fault}
use Rattle.fm_records.specs.Options.{when, passes}
use Rattle.fm_coord.specs.Causes.{Bounds, first_some, range_fault, floor_fault, room_fault, bounds_of}
use Rattle.fm_coord.specs.declared.entry.Range.{Range}
use Rattle.fm_coord.specs.declared.entry.Range.TheVariants.{Interval, Full}
use Rattle.fm_coord.specs.Events.{Sent, Event, Replica, opening, happens}
use Rattle.fm_coord.specs.Events as event
use Rattle.fm_world.specs.declared.step.Act.{Act as WorldAct}
use Rattle.fm_world.specs.declared.step.Act.TheVariants as world
use Rattle.fm_world.specs.Worlds.{WorldOfSets, with_number, changed_at, event_asked, after_maybe, cut_by, cause_at, cause_of, sent_at}
use Rattle.fm_script.specs.Openings.{new_world, history_limit}
use Rattle.fm_script.specs.Script.{is_listed}
use Rattle.fm_script.specs.declared.script.ScriptAct.{ScriptAct}
use Rattle.fm_script.specs.declared.script.ScriptAct.TheVariants as act
use Rattle.fm_script.specs.declared.script.ScriptStep.{ScriptStep}
use Rattle.fm_script.specs.declared.script_fault.StepFault.{StepFault}
use Rattle.fm_script.specs.declared.script_fault.StepFault.TheVariants as fault
use Rattle.fm_script.specs.declared.script_fault.ScriptFault.{ScriptFault}
use Rattle.fm_script.specs.declared.script_fault.ScriptFault.TheVariants as script
use Rattle.fm_script.specs.ScriptFaults.{act_refused, step_refused, cuts_of_act, first_asking, step_refusal}
use Rattle.fm_service.specs.WorldSteps.{step_at, WorldStep}
use Rattle.fm_serve.specs.CheckedSteps.{is_looked_for, ComesTo}
use Rattle.fm_serve.specs.ScriptSteps.{world_act_of, ScriptActStep, Come}

-- the replicas are those of the listed coordinators, and so many packets were cut
record IsBehind (listed : List ℕ) (cuts : ℕ) (w : WorldOfSets) : Type 0 where
  numbers : (n : ℕ) → is_some (with_number w.replicas n) ≡ is_listed listed n
  packets : length w.packets ≡ cuts

-- ---- the numbers of replicas stay

opened : (listed : List ℕ) (n : ℕ) → is_some (with_number (new_world listed).replicas n) ≡ is_listed listed n
opened [] n = refl
opened (c ∷ cs) n =
    elim (c == n) as (λ b. is_some (cond b (Some (opening c history_limit)) (with_number (new_world cs).replicas n)) ≡ (b || is_listed cs n)) [
      | true ↦ refl
      | false ↦ opened cs n
    ]

same-choice : (b : Bool) (r s : Replica) (o p : Option Replica) → is_some o ≡ is_some p → is_some (cond b (Some r) o) ≡ is_some (cond b (Some s) p)
same-choice true r s o p h = refl
same-choice false r s o p h = h

module _ (at n : ℕ) (change : Replica → Replica) (same : (r : Replica) → (change r).number ≡ r.number) where
  numbers-changed : (rs : List Replica) → is_some (with_number (changed_at at change rs) n) ≡ is_some (with_number rs n)
  numbers-changed [] = refl
  numbers-changed (r ∷ rs) =
      elim (r.number == at) as (λ b. is_some (with_number (cond b (change r ∷ rs) (r ∷ changed_at at change rs)) n) ≡ is_some (with_number (r ∷ rs) n)) [
        | true ↦ ap (λ m. is_some (cond (m == n) (Some (change r)) (with_number rs n))) (same r)
            ∙ same-choice (r.number == n) (change r) r (with_number rs n) (with_number rs n) refl
        | false ↦ same-choice (r.number == n) r r (with_number (changed_at at change rs) n) (with_number rs n) (numbers-changed rs)
      ]

happened : (r : Replica) (by : ℕ) (e : Event) → (happens r by e).number ≡ r.number
happened r by (event.Tell op) = refl
happened r by (event.Merge packet) = refl
happened r by (event.Cut range) = refl
happened r by (event.Trim n) = refl
happened r by event.View = refl
happened r by (event.Commit plan) = refl

maybe-happened : (by : ℕ) (o : Option Event) (r : Replica) → (after_maybe by o r).number ≡ r.number
maybe-happened by None r = refl
maybe-happened by (Some e) r = happened r by e

-- ---- packets are counted

-- how many packets an act of a world cuts
abbrev cuts_at : WorldAct → ℕ
cuts_at (world.Cut range) = 1
cuts_at _ = 0

cut-count : (sent : List Sent) (r : Replica) (a : WorldAct) → length (cut_by r (event_asked sent a)) ≡ cuts_at a
cut-count sent r (world.Tell op) = refl
cut-count sent r (world.Cut range) = refl
cut-count sent r (world.Deliver i) = elim (slice_get sent i) as (λ o. length (cut_by r (option_map event.Merge o)) ≡ 0) [ None ↦ refl | Some p ↦ refl ]
cut-count sent r (world.Trim n) = refl
cut-count sent r world.View = refl
cut-count sent r (world.Commit plan) = refl
cut-count sent r (world.Take packet) = refl

sent-count : (sent : List Sent) (o : Option Replica) (a : WorldAct) → cause_at o (event_asked sent a) ≡ None → length (sent_at sent o (event_asked sent a)) ≡ length sent + cuts_at a
sent-count sent None a h = absurd (true≢false (ap is_some h))
sent-count sent (Some r) a h = length-append sent (cut_by r (event_asked sent a)) ∙ ap (λ n. length sent + n) (cut-count sent r a)

behind-step : (listed : List ℕ) (cuts : ℕ) (w v : WorldOfSets) (at : ℕ) (a : WorldAct) → IsBehind listed cuts w → WorldStep w (step_at at a) v → IsBehind listed (cuts + cuts_at a) v
behind-step listed cuts w v at a h s =
    subst (IsBehind listed (cuts + cuts_at a)) (sym s.made) (record {
      numbers = λ n. numbers-changed at n (after_maybe 0 (event_asked w.packets a)) (maybe-happened 0 (event_asked w.packets a)) w.replicas ∙ h.numbers n;
      packets = sent-count w.packets (with_number w.replicas at) a s.accepted ∙ ap (λ n. n + cuts_at a) h.packets;
    })

plus-none : (n : ℕ) → n + 0 ≡ n
plus-none n = omega arith

behind-act : (listed : List ℕ) (cuts : ℕ) (w v : WorldOfSets) (at : ℕ) (a : ScriptAct) → IsBehind listed cuts w → ScriptActStep w at a v → IsBehind listed (cuts + cuts_of_act a) v
behind-act listed cuts w v at (act.Tell op) h s = behind-step listed cuts w v at (world.Tell op) h s
behind-act listed cuts w v at (act.Cut range) h s = behind-step listed cuts w v at (world.Cut range) h s
behind-act listed cuts w v at (act.Deliver i) h s = behind-step listed cuts w v at (world.Deliver i) h s
behind-act listed cuts w v at (act.Trim n) h s = behind-step listed cuts w v at (world.Trim n) h s
behind-act listed cuts w v at (act.Round kind) h s =
    let seen = subst (λ n. IsBehind listed n s.seen) (plus-none cuts) (behind-step listed cuts w s.seen at world.View h s.view) in
    behind-step listed cuts s.seen v at (world.Commit s.plan) seen s.commit

-- ---- what a step asks for that it cannot get is the cause of its refusal

some-same : {A : Type 0} (a b : A) → Some a ≡ Some b → a ≡ b
some-same a b h = ap (λ o. unwrap_or o a) h

refused-tell : (place : ℕ) (o : Option Field) (room : Option Refusal) (f : StepFault) → option_map fault.OutOfRange o ≡ Some f → first_some (option_map refusal.BadOp o) room ≡ Some (step_refusal place f)
refused-tell place None room f h = absurd (true≢false (sym (ap is_some h)))
refused-tell place (Some field) room f h = ap (λ k. Some (step_refusal place k)) (some-same (fault.OutOfRange field) f h)

refused-delivery : (place i : ℕ) (sent : List Sent) (r : Replica) (f : StepFault) → when (nat_le (length sent) i) fault.NoPacket ≡ Some f → cause_at (Some r) (option_map event.Merge (slice_get sent i)) ≡ Some (step_refusal place f)
refused-delivery place i sent r f h =
    elim (nat_le (length sent) i) as (λ b. nat_le (length sent) i ≡ b → when b fault.NoPacket ≡ Some f → cause_at (Some r) (option_map event.Merge (slice_get sent i)) ≡ Some (step_refusal place f)) [
      | true ↦ λ e g. ap (λ o. cause_at (Some r) (option_map event.Merge o)) (slice_get_past sent i (leb-true _ _ e)) ∙ ap (λ k. Some (step_refusal place k)) (some-same fault.NoPacket f g)
      | false ↦ λ _ never. absurd (true≢false (sym (ap is_some never)))
    ] refl h

refused-act : (place : ℕ) (sent : List Sent) (r : Replica) (a : ScriptAct) (f : StepFault) → act_refused (length sent) a ≡ Some f → cause_at (Some r) (event_asked sent (world_act_of a)) ≡ Some (step_refusal place f)
refused-act place sent r (act.Tell op) f h = refused-tell place (op_fault op) (room_fault (bounds_of r)) f h
refused-act place sent r (act.Deliver i) f h = refused-delivery place i sent r f h
refused-act place sent r (act.Cut range) f h = absurd (true≢false (sym (ap is_some h)))
refused-act place sent r (act.Trim n) f h = absurd (true≢false (sym (ap is_some h)))
refused-act place sent r (act.Round kind) f h = absurd (true≢false (sym (ap is_some h)))

refused-at : (place : ℕ) (sent : List Sent) (o : Option Replica) (at : ℕ) (a : ScriptAct) (f : StepFault) → cond (is_some o) (act_refused (length sent) a) (Some (fault.NoCoordinator at)) ≡ Some f
    → cause_at o (event_asked sent (world_act_of a)) ≡ Some (step_refusal place f)
refused-at place sent None at a f h = ap (λ k. Some (step_refusal place k)) (some-same (fault.NoCoordinator at) f h)
refused-at place sent (Some r) at a f h = refused-act place sent r a f h

refused-here : (listed : List ℕ) (cuts place : ℕ) (w : WorldOfSets) (s : ScriptStep) (f : StepFault) → IsBehind listed cuts w → step_refused listed cuts s ≡ Some f
    → cause_of w (step_at s.at (world_act_of s.act)) ≡ Some (step_refusal place f)
refused-here listed cuts place w s f h e =
    refused-at place w.packets (with_number w.replicas s.at) s.at s.act f
    (ap (λ b. cond b (act_refused (length w.packets) s.act) (Some (fault.NoCoordinator s.at))) (h.numbers s.at)
    ∙ ap (λ n. cond (is_listed listed s.at) (act_refused n s.act) (Some (fault.NoCoordinator s.at))) h.packets
    ∙ e)

-- ---- the first step of those that do

abbrev place_of : ScriptFault → ℕ
place_of (script.Step place f) = place
place_of _ = 0

abbrev fault_or : StepFault → ScriptFault → StepFault
fault_or f (script.Step place g) = g
fault_or f _ = f

behind-place : (listed : List ℕ) (cuts place found : ℕ) (ss : List ScriptStep) (f : StepFault) → first_asking listed cuts place ss ≡ Some (script.Step found f) → place ≤ found
behind-place listed cuts place found [] f h = absurd (true≢false (sym (ap is_some h)))
behind-place listed cuts place found (s ∷ ss) f h =
    elim (step_refused listed cuts s) as (λ o. option_or (option_map (script.Step place) o) (first_asking listed (cuts + cuts_of_act s.act) (place + 1) ss) ≡ Some (script.Step found f) → place ≤ found) [
      | None ↦ λ later. let more = behind-place listed (cuts + cuts_of_act s.act) (place + 1) found ss f later in omega (arith, more)
      | Some g ↦ λ here. let same : place ≡ found = ap place_of (some-same (script.Step place g) (script.Step found f) here) in omega (arith, same)
    ] h

refused-later : (listed : List ℕ) (cuts place i : ℕ) (ss : List ScriptStep) (f : StepFault) (s : ScriptStep) (w v : WorldOfSets) → IsBehind listed cuts w
    → first_asking listed cuts place ss ≡ Some (script.Step (place + i) f) → slice_get ss i ≡ Some s → Come w (take i ss) v
    → cause_of v (step_at s.at (world_act_of s.act)) ≡ Some (step_refusal (place + i) f)
refused-later listed cuts place i [] f s w v h first there came = absurd (true≢false (sym (ap is_some first)))
refused-later listed cuts place zero (t ∷ ss) f s w v h first there came =
    elim (step_refused listed cuts t) as (λ o. step_refused listed cuts t ≡ o → option_or (option_map (script.Step place) o) (first_asking listed (cuts + cuts_of_act t.act) (place + 1) ss) ≡ Some (script.Step (place + 0) f)
    → cause_of v (step_at s.at (world_act_of s.act)) ≡ Some (step_refusal (place + 0) f)) [
      | None ↦ λ _ later. let more = behind-place listed (cuts + cuts_of_act t.act) (place + 1) (place + 0) ss f later in absurd (omega (arith, more))
      | Some g ↦ λ e here.
          let same : g ≡ f = ap (fault_or f) (some-same (script.Step place g) (script.Step (place + 0) f) here) in
          subst (λ u. cause_of u (step_at s.at (world_act_of s.act)) ≡ Some (step_refusal (place + 0) f)) came
          (refused-here listed cuts (place + 0) w s f h (ap (step_refused listed cuts) (sym (some-same t s there)) ∙ e ∙ ap (λ k. Some k) same))
    ] refl first
refused-later listed cuts place (suc i) (t ∷ ss) f s w v h first there came =
    elim (step_refused listed cuts t) as (λ o. option_or (option_map (script.Step place) o) (first_asking listed (cuts + cuts_of_act t.act) (place + 1) ss) ≡ Some (script.Step (place + suc i) f)
    → cause_of v (step_at s.at (world_act_of s.act)) ≡ Some (step_refusal (place + suc i) f)) [
      | None ↦ λ later.
          let next : place + 1 + i ≡ place + suc i = omega arith in
          subst (λ n. cause_of v (step_at s.at (world_act_of s.act)) ≡ Some (step_refusal n f)) next
          (refused-later listed (cuts + cuts_of_act t.act) (place + 1) i ss f s came.0 v (behind-act listed cuts w came.0 t.at t.act h came.1)
          (later ∙ ap (λ n. Some (script.Step n f)) (sym next)) there came.2)
      | Some g ↦ λ here.
          let same : place ≡ place + suc i = ap place_of (some-same (script.Step place g) (script.Step (place + suc i) f) here) in
          absurd (omega (arith, same))
    ] first

at_first : (listed : List ℕ) → IsBehind listed 0 (new_world listed)
at_first listed = record { numbers = opened listed; packets = refl }

-- the step that a check of a script names, in every world that the steps before it make
pub refused-there : (listed : List ℕ) (steps : List ScriptStep) (i : ℕ) (f : StepFault) (s : ScriptStep) (w : WorldOfSets)
    → first_asking listed 0 1 steps ≡ Some (script.Step (1 + i) f) → ComesTo listed steps i s w → cause_of w (step_at s.at (world_act_of s.act)) ≡ Some (step_refusal (1 + i) f)
refused-there listed steps i f s w first h = refused-later listed 0 1 i steps f s (new_world listed) w (at_first listed) first h.there h.came

-- ---- a step that asks for nothing that it cannot get

abbrev IsOther : Option Refusal → Type 0
IsOther o = passes is_looked_for o ≡ false

other-first : (a b : Option Refusal) → IsOther a → IsOther b → IsOther (first_some a b)
other-first None b h k = k
other-first (Some r) b h k = h

other-when : (b : Bool) (r : Refusal) → is_looked_for r ≡ false → IsOther (when b r)
other-when true r h = h
other-when false r h = refl

other-cond : (b : Bool) (x y : Option Refusal) → IsOther x → IsOther y → IsOther (cond b x y)
other-cond true x y h k = h
other-cond false x y h k = k

other-room : (b : Bounds) → IsOther (room_fault b)
other-room b = other-when (nat_le b.limit b.entries) refusal.HistoryFull refl

other-range : (b : Bounds) (range : Range) → IsOther (range_fault b range)
other-range b (Interval from to) =
    other-cond (nat_lt to from || nat_lt b.end to) (Some refusal.BadInterval) (when (nat_lt from b.floor) (refusal.Trimmed b.floor)) refl
    (other-when (nat_lt from b.floor) (refusal.Trimmed b.floor) refl)
other-range b Full = refl

other-tell : (b : Bounds) (o : Option Field) → option_map fault.OutOfRange o ≡ None → IsOther (first_some (option_map refusal.BadOp o) (room_fault b))
other-tell b None h = other-room b
other-tell b (Some field) h = absurd (true≢false (ap is_some h))

other-delivery : (i : ℕ) (sent : List Sent) (r : Replica) → when (nat_le (length sent) i) fault.NoPacket ≡ None → IsOther (cause_at (Some r) (option_map event.Merge (slice_get sent i)))
other-delivery i sent r h =
    elim (slice_get sent i) as (λ o. slice_get sent i ≡ o → IsOther (cause_at (Some r) (option_map event.Merge o))) [
      | None ↦ λ none. elim (slice_get_cases sent i).1 [
        | inl there ↦ absurd (true≢false (ap is_some (sym there.2 ∙ none)))
        | inr past ↦ absurd (true≢false (ap is_some (sym (ap (λ b. when b fault.NoPacket) (le-leb _ _ past.0)) ∙ h)))
      ]
      | Some p ↦ λ _. other-room (bounds_of r)
    ] refl

other-act : (sent : List Sent) (r : Replica) (a : ScriptAct) → act_refused (length sent) a ≡ None → IsOther (cause_at (Some r) (event_asked sent (world_act_of a)))
other-act sent r (act.Tell op) h = other-tell (bounds_of r) (op_fault op) h
other-act sent r (act.Cut range) h = other-first (range_fault (bounds_of r) range) (room_fault (bounds_of r)) (other-range (bounds_of r) range) (other-room (bounds_of r))
other-act sent r (act.Deliver i) h = other-delivery i sent r h
other-act sent r (act.Trim n) h =
    other-first (floor_fault (bounds_of r) n) (room_fault (bounds_of r)) (other-when (nat_lt n r.floor || nat_lt (length r.buffer) n) refusal.BadInterval refl) (other-room (bounds_of r))
other-act sent r (act.Round kind) h = other-room (bounds_of r)

other-at : (sent : List Sent) (o : Option Replica) (at : ℕ) (a : ScriptAct) → cond (is_some o) (act_refused (length sent) a) (Some (fault.NoCoordinator at)) ≡ None → IsOther (cause_at o (event_asked sent (world_act_of a)))
other-at sent None at a h = absurd (true≢false (ap is_some h))
other-at sent (Some r) at a h = other-act sent r a h

other-here : (listed : List ℕ) (cuts : ℕ) (w : WorldOfSets) (s : ScriptStep) → IsBehind listed cuts w → step_refused listed cuts s ≡ None → IsOther (cause_of w (step_at s.at (world_act_of s.act)))
other-here listed cuts w s h e =
    other-at w.packets (with_number w.replicas s.at) s.at s.act
    (ap (λ b. cond b (act_refused (length w.packets) s.act) (Some (fault.NoCoordinator s.at))) (h.numbers s.at)
    ∙ ap (λ n. cond (is_listed listed s.at) (act_refused n s.act) (Some (fault.NoCoordinator s.at))) h.packets
    ∙ e)

other-later : (listed : List ℕ) (cuts place i : ℕ) (ss : List ScriptStep) (s : ScriptStep) (w v : WorldOfSets) → IsBehind listed cuts w → first_asking listed cuts place ss ≡ None → slice_get ss i ≡ Some s → Come w (take i ss) v
    → IsOther (cause_of v (step_at s.at (world_act_of s.act)))
other-later listed cuts place i [] s w v h none there came = absurd (true≢false (sym (ap is_some there)))
other-later listed cuts place zero (t ∷ ss) s w v h none there came =
    elim (step_refused listed cuts t) as (λ o. step_refused listed cuts t ≡ o → option_or (option_map (script.Step place) o) (first_asking listed (cuts + cuts_of_act t.act) (place + 1) ss) ≡ None
    → IsOther (cause_of v (step_at s.at (world_act_of s.act)))) [
      | None ↦ λ e _. subst (λ u. IsOther (cause_of u (step_at s.at (world_act_of s.act)))) came (other-here listed cuts w s h (ap (step_refused listed cuts) (sym (some-same t s there)) ∙ e))
      | Some g ↦ λ _ never. absurd (true≢false (ap is_some never))
    ] refl none
other-later listed cuts place (suc i) (t ∷ ss) s w v h none there came =
    elim (step_refused listed cuts t) as (λ o. option_or (option_map (script.Step place) o) (first_asking listed (cuts + cuts_of_act t.act) (place + 1) ss) ≡ None → IsOther (cause_of v (step_at s.at (world_act_of s.act)))) [
      | None ↦ λ later. other-later listed (cuts + cuts_of_act t.act) (place + 1) i ss s came.0 v (behind-act listed cuts w came.0 t.at t.act h came.1) later there came.2
      | Some g ↦ λ never. absurd (true≢false (ap is_some never))
    ] none

-- each step of a script that is accepted
pub other-there : (listed : List ℕ) (steps : List ScriptStep) (i : ℕ) (s : ScriptStep) (w : WorldOfSets)
    → first_asking listed 0 1 steps ≡ None → ComesTo listed steps i s w → passes is_looked_for (cause_of w (step_at s.at (world_act_of s.act))) ≡ false
other-there listed steps i s w none h = other-later listed 0 1 i steps s (new_world listed) w (at_first listed) none h.there h.came
