-- What is known of an entry that is accepted, and what machines hold after it.
use Rattle.std.proofs.Common.{◌≡◌, ℕ, ◌+◌, ◌≤◌, Bool, true, false, cond, Option, Some, None, refl, sym, ◌∙◌, ap, subst, arith, length}
use Rattle.std.specs.Prelude.{◌-◌, ◌<◌, ◌==◌, ◌&&◌, ◌||◌, not, nat_le}
use Rattle.std.specs.Option.{IfSome}
use Rattle.std.proofs.lemmas.Bool.{eqb-true, leb-true, leb-false}
use Rattle.fm_know.specs.Limits.{StateWithin}
use Rattle.fm_records.specs.declared.records.MachineReg.{MachineReg}
use Rattle.fm_records.specs.declared.records.SpecReg.{SpecReg}
use Rattle.fm_records.specs.Options.{when, and_then, only_if, passes}
use Rattle.fm_records.specs.Table.{Table}
use Rattle.fm_records.specs.OpsOfTable.{IsTable}
use Rattle.fm_records.specs.Facts.{spec_of, request_of, attempt_of, live_spec, is_live, holder_of, holds, held_tasks, load_of, has_room, open_state}
use Rattle.fm_net.specs.Network.{is_held}
use Rattle.fm_round.specs.declared.plan.Place.{Place}
use Rattle.fm_round.specs.declared.plan.Preempt.{Preempt}
use Rattle.fm_round.specs.declared.plan.Answer.{Answer}
use Rattle.fm_round.specs.declared.plan.Answer.TheVariants.{Gone, Held, AttemptsSpent, Contested, NoSlot, NoRoom, Accepted}
use Rattle.fm_round.specs.Admission.{told, is_accepted, last_attempt, has_proposal, is_full, is_open_at, place_ops, place_answer, preempt_ops, preempt_answer}
use Rattle.fm_round.specs.inner.MachineHoldings.{requests_of, share}
use Rattle.fm_round.proofs.After.{live_spec_of, after_place, after_preempt, requests_after, count_after}

-- a rule that does not apply
passed : (b : Bool) (x rest : Answer) → (x ≡ Accepted → ⊥) → cond b x rest ≡ Accepted → (b ≡ false) × (rest ≡ Accepted)
passed true x rest other e = absurd (other e)
passed false x rest other e = (refl, e)

not_Gone : Gone ≡ Accepted → ⊥
not_Gone e = cc

not_Held : Held ≡ Accepted → ⊥
not_Held e = cc

not_AttemptsSpent : AttemptsSpent ≡ Accepted → ⊥
not_AttemptsSpent e = cc

not_Contested : Contested ≡ Accepted → ⊥
not_Contested e = cc

not_NoSlot : NoSlot ≡ Accepted → ⊥
not_NoSlot e = cc

not_NoRoom : NoRoom ≡ Accepted → ⊥
not_NoRoom e = cc

neither : (a b : Bool) → not a || not b ≡ false → (a ≡ true) × (b ≡ true)
neither true true e = (refl, refl)
neither true false e = absurd (let no : ⊥ = cc in no)
neither false b e = absurd (let no : ⊥ = cc in no)

either_not : (a b : Bool) → a || b ≡ false → (a ≡ false) × (b ≡ false)
either_not true b e = absurd (let no : ⊥ = cc in no)
either_not false b e = (refl, e)

not_false : (b : Bool) → not b ≡ false → b ≡ true
not_false true e = refl
not_false false e = absurd (let no : ⊥ = cc in no)

pub accepted_is : (a : Answer) → is_accepted a ≡ true → a ≡ Accepted
accepted_is Accepted e = refl
accepted_is Gone e = absurd (let no : ⊥ = cc in no)
accepted_is Held e = absurd (let no : ⊥ = cc in no)
accepted_is AttemptsSpent e = absurd (let no : ⊥ = cc in no)
accepted_is Contested e = absurd (let no : ⊥ = cc in no)
accepted_is NoSlot e = absurd (let no : ⊥ = cc in no)
accepted_is NoRoom e = absurd (let no : ⊥ = cc in no)

pub record IsGoodPlace (c : ℕ) (k : Table) (p : Place) : Type 0 where
  pub live : is_live k p.task ≡ true
  pub there : is_open_at k p.machine p.incarnation ≡ true
  pub free : is_held k p.task ≡ false
  pub unspent : (has_proposal k p.task (attempt_of k p.task) && attempt_of k p.task == last_attempt) ≡ false
  pub wins : holds (told k (place_ops c k p)) p.machine p.task ≡ true
  pub slots : is_full k p.machine ≡ false
  pub room : has_room k p.machine (request_of (spec_of k p.task)) ≡ true

pub good_place : (c : ℕ) (k : Table) (p : Place) → is_accepted (place_answer c k p) ≡ true → IsGoodPlace c k p
good_place c k p h =
    let e = accepted_is _ h in
    let one = passed _ Gone _ not_Gone e in
    let two = passed _ Held _ not_Held one.1 in
    let three = passed _ AttemptsSpent _ not_AttemptsSpent two.1 in
    let four = passed _ Contested _ not_Contested three.1 in
    let five = passed _ NoSlot _ not_NoSlot four.1 in
    let six = passed _ NoRoom _ not_NoRoom five.1 in
    let first = neither (is_live k p.task) (is_open_at k p.machine p.incarnation) one.0 in
    record { live = first.0; there = first.1; free = two.0; unspent = three.0; wins = not_false _ four.0; slots = five.0; room = not_false _ six.0 }

pub record IsGoodPreempt (k : Table) (p : Preempt) : Type 0 where
  pub live : is_live k p.task ≡ true
  pub held : is_held k p.task ≡ true
  pub attempt : (attempt_of k p.task == p.attempt) ≡ true
  pub unspent : (p.attempt == last_attempt) ≡ false
  pub leaves : is_held (told k (preempt_ops k p)) p.task ≡ false

pub good_preempt : (k : Table) (p : Preempt) → is_accepted (preempt_answer k p) ≡ true → IsGoodPreempt k p
good_preempt k p h =
    let e = accepted_is _ h in
    let one = passed _ Gone _ not_Gone e in
    let two = passed _ AttemptsSpent _ not_AttemptsSpent one.1 in
    let three = passed _ Contested _ not_Contested two.1 in
    let parts = either_not (not (is_live k p.task) || not (is_held k p.task)) (not (attempt_of k p.task == p.attempt)) one.0 in
    let first = neither (is_live k p.task) (is_held k p.task) parts.0 in
    record { live = first.0; held = first.1; attempt = not_false _ parts.1; unspent = two.0; leaves = three.0 }

-- who holds the task
nobody : (m : ℕ) (o : Option ℕ) → passes (λ n. true) o ≡ false → passes (λ n. n == m) o ≡ false
nobody m None e = refl
nobody m (Some n) e = absurd (let no : ⊥ = cc in no)

holder_by : (m : ℕ) (o : Option ℕ) → passes (λ n. n == m) o ≡ true → o ≡ Some m
holder_by m None e = absurd (let no : ⊥ = cc in no)
holder_by m (Some n) e = ap Some (eqb-true n m e)

was_there : {A : Type 0} (test : A → Bool) (o : Option A) (a : A) → only_if test o ≡ Some a → o ≡ Some a
was_there test None a e = absurd (let no : ⊥ = cc in no)
was_there test (Some b) a e = elim (test b) as (λ t. cond t (Some b) None ≡ Some a → Some b ≡ Some a) [ true ↦ λ h. h | false ↦ λ h. absurd (let no : ⊥ = cc in no) ] e

-- what room, and a slot that is left, come to
room_from : (load r : ℕ) (o : Option MachineReg) → passes (λ s. nat_le r s) (and_then (λ st. when (nat_le load st.nic) (st.nic - load)) o) ≡ true → (st : MachineReg) × (o ≡ Some st) × (load + r ≤ st.nic)
room_from load r None e = absurd (let no : ⊥ = cc in no)
room_from load r (Some st) e =
    elim (nat_le load st.nic) as (λ b. nat_le load st.nic ≡ b → passes (λ s. nat_le r s) (when b (st.nic - load)) ≡ true → (x : MachineReg) × (Some st ≡ Some x) × (load + r ≤ x.nic)) [
      | true ↦ λ fits yes. let a = leb-true load st.nic fits in let b = leb-true r (st.nic - load) yes in (st, refl, omega (arith, a, b))
      | false ↦ λ _ no. absurd (let none : ⊥ = cc in none)
    ] refl e

pub room_is : (k : Table) (m r : ℕ) → has_room k m r ≡ true → (st : MachineReg) × (open_state k m ≡ Some st) × (load_of k m + r ≤ st.nic)
room_is k m r e = room_from (load_of k m) r (open_state k m) e

slot_is : (k : Table) (m : ℕ) (st : MachineReg) → open_state k m ≡ Some st → is_full k m ≡ false → length (held_tasks k m) < st.slots
slot_is k m st known e =
    let no : nat_le st.slots (length (held_tasks k m)) ≡ false = sym (ap (passes (λ s. nat_le s.slots (length (held_tasks k m)))) known) ∙ e in
    leb-false st.slots (length (held_tasks k m)) no

-- what a machine with room and a slot holds is small
pub record HoldsLittle (k : Table) (m r : ℕ) : Type 0 where
  pub requests : requests_of k m + r ≤ 1000000
  pub tasks : length (held_tasks k m) < 1000

pub holds_little : (k : Table) (m r : ℕ) → has_room k m r ≡ true → is_full k m ≡ false → IfSome (open_state k m) StateWithin → HoldsLittle k m r
holds_little k m r room slots limits =
    let st = room_is k m r room in
    let within : StateWithin st.0 = subst (λ o. IfSome o StateWithin) st.1 limits in
    let free = slot_is k m st.0 st.1 slots in
    record { requests = omega (arith, st.2, within.nic); tasks = omega (arith, free, within.slots_within) }

-- what machines hold after an accepted place, and after an accepted preempt

pub record HoldMore (k l : Table) (n r : ℕ) : Type 0 where
  pub requests : (m : ℕ) → requests_of l m ≡ requests_of k m + share n m r
  pub tasks : (m : ℕ) → length (held_tasks l m) ≡ length (held_tasks k m) + share n m 1

request_is : (k : Table) (t : ℕ) (s : SpecReg) → live_spec k t ≡ Some s → request_of (spec_of k t) ≡ s.request
request_is k t s e = ap request_of (was_there _ (spec_of k t) s e)

moved_to : (x y r s : ℕ) (had has : Bool) → x + cond had s 0 ≡ y + cond has s 0 → had ≡ false → r ≡ s → x ≡ y + cond has r 0
moved_to x y r s true has e h same = absurd (let none : ⊥ = cc in none)
moved_to x y r s false true e h same = omega (arith, e, same)
moved_to x y r s false false e h same = omega (arith, e, same)

pub place_holdings : (k : Table) → IsTable k → (c : ℕ) (p : Place) → IsGoodPlace c k p → HoldMore k (told k (place_ops c k p)) p.machine (request_of (spec_of k p.task))
place_holdings k form c p good =
    let l = told k (place_ops c k p) in
    let live = live_spec_of k p.task good.live in
    let after = after_place k form c p live.0 live.1 in
    let holder : holder_of l p.task ≡ Some p.machine = holder_by p.machine (holder_of l p.task) good.wins in
    let request = request_is k p.task live.0 live.1 in
    let now = λ (m : ℕ). ap (passes (λ n. n == m)) holder in
    let before = λ (m : ℕ). nobody m (holder_of k p.task) good.free in
    record {
      requests = λ m. moved_to _ _ _ _ (holds k m p.task) (p.machine == m) (requests_after k l form p.task live.0 _ live.1 after m ∙ ap (λ b. requests_of k m + cond b live.0.request 0) (now m)) (before m) request;
      tasks = λ m. moved_to _ _ _ _ (holds k m p.task) (p.machine == m) (count_after k l form p.task live.0 _ live.1 after m ∙ ap (λ b. length (held_tasks k m) + cond b 1 0) (now m)) (before m) refl;
    }

pub preempt_holdings : (k : Table) → IsTable k → (p : Preempt) → IsGoodPreempt k p → (h : ℕ) → holder_of k p.task ≡ Some h → HoldMore (told k (preempt_ops k p)) k h (request_of (spec_of k p.task))
preempt_holdings k form p good h held =
    let l = told k (preempt_ops k p) in
    let live = live_spec_of k p.task good.live in
    let after = after_preempt k form p live.0 live.1 (eqb-true _ _ good.attempt) in
    let request = request_is k p.task live.0 live.1 in
    let before = λ (m : ℕ). ap (passes (λ n. n == m)) held in
    let now = λ (m : ℕ). nobody m (holder_of l p.task) good.leaves in
    record {
      requests = λ m. moved_to _ _ _ _ (holds l m p.task) (h == m) (sym (requests_after k l form p.task live.0 _ live.1 after m) ∙ ap (λ b. requests_of l m + cond b live.0.request 0) (before m)) (now m) request;
      tasks = λ m. moved_to _ _ _ _ (holds l m p.task) (h == m) (sym (count_after k l form p.task live.0 _ live.1 after m) ∙ ap (λ b. length (held_tasks l m) + cond b 1 0) (before m)) (now m) refl;
    }
