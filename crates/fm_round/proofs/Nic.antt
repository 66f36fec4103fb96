-- A machine that got a place has a load that its nic bears.
use Rattle.std.proofs.Common.{◌≡◌, ℕ, ◌≤◌, Bool, true, false, cond, List, [], ◌∷◌, ◌++◌, Option, Some, None, refl, sym, ◌∙◌, ap, subst, arith, ◌⊎◌, inl, inr}
use Rattle.std.specs.Prelude.{◌==◌, ◌&&◌, ◌||◌, nat_le}
use Rattle.std.proofs.lemmas.Bool.{eqb-true, leb-true, le-leb}
use Rattle.fm_records.specs.declared.records.MachineReg.{MachineReg}
use Rattle.fm_records.specs.declared.ops.Op.{Op}
use Rattle.fm_records.specs.Options.{passes}
use Rattle.fm_records.specs.Table.{Table}
use Rattle.fm_records.specs.OpsOfTable.{IsTable}
use Rattle.fm_records.specs.Facts.{spec_of, request_of, open_state, used_of, load_of, holder_of}
use Rattle.fm_net.specs.Network.{is_held}
use Rattle.fm_round.specs.declared.plan.Place.{Place}
use Rattle.fm_round.specs.declared.plan.Preempt.{Preempt}
use Rattle.fm_round.specs.declared.plan.Plan.{Plan}
use Rattle.fm_round.specs.declared.plan.Answer.{Answer}
use Rattle.fm_round.specs.Admission.{told, is_accepted, one_entry, in_turn, place_ops, place_answer, preempt_ops, preempt_answer, admission_of_places, admission_of_preempts, admission, got_place, is_within_nic}
use Rattle.fm_round.specs.inner.MachineHoldings.{requests_of, share}
use Rattle.fm_round.proofs.Told.{told_nothing, told_more, told_table}
use Rattle.fm_round.proofs.Keeps.{Keeps, open_kept, used_kept}
use Rattle.fm_round.proofs.After.{live_spec_of, after_place, after_preempt}
use Rattle.fm_round.proofs.Accepted.{good_place, good_preempt, place_holdings, preempt_holdings, room_is}

-- a load within the nic of the machine's state
within : (k : Table) (m : ℕ) (st : MachineReg) → open_state k m ≡ Some st → load_of k m ≤ st.nic → is_within_nic k m ≡ true
within k m st known fits = ap (passes (λ s. nat_le (load_of k m) s.nic)) known ∙ le-leb (load_of k m) st.nic fits

nic_bears : (k : Table) (m : ℕ) (o : Option MachineReg) → open_state k m ≡ o → passes (λ s. nat_le (load_of k m) s.nic) o ≡ true → (st : MachineReg) × (open_state k m ≡ Some st) × (load_of k m ≤ st.nic)
nic_bears k m None known e = absurd (let no : ⊥ = cc in no)
nic_bears k m (Some st) known e = (st, known, leb-true (load_of k m) st.nic e)

-- if a machine's load is no greater, it stays within the nic
stays_within : (t : ℕ) (k l : Table) (m : ℕ) → Keeps t k l → load_of l m ≤ load_of k m → is_within_nic k m ≡ true → is_within_nic l m ≡ true
stays_within t k l m keeps less e =
    let bears = nic_bears k m (open_state k m) refl e in
    within l m bears.0 (open_kept t k l keeps m ∙ bears.1) (omega (arith, less, bears.2))

load_less : (k l : Table) (m : ℕ) → used_of l m ≡ used_of k m → requests_of l m ≤ requests_of k m → load_of l m ≤ load_of k m
load_less k l m used less = omega (arith, used, less)

other_share : (n m r : ℕ) (b : Bool) → (n == m) ≡ b → b ≡ false → share n m r ≡ 0
other_share n m r b e h = ap (λ x. cond x r 0) (e ∙ h)

-- an accepted place on machine m leaves it within its nic
own_place : (c : ℕ) (k : Table) → IsTable k → (p : Place) → is_accepted (place_answer c k p) ≡ true → is_within_nic (told k (place_ops c k p)) p.machine ≡ true
own_place c k form p e =
    let l = told k (place_ops c k p) in
    let good = good_place c k p e in
    let live = live_spec_of k p.task good.live in
    let keeps = (after_place k form c p live.0 live.1).keeps in
    let r = request_of (spec_of k p.task) in
    let room = room_is k p.machine r good.room in
    let more = (place_holdings k form c p good).requests p.machine in
    let used = used_kept p.task k l keeps p.machine in
    let most : share p.machine p.machine r ≤ r = elim (p.machine == p.machine) as (λ b. cond b r 0 ≤ r) [ true ↦ omega arith | false ↦ omega arith ] in
    within l p.machine room.0 (open_kept p.task k l keeps p.machine ∙ room.1) (let fits = room.2 in omega (arith, used, more, most, fits))

place_keeps : (c : ℕ) (k : Table) → IsTable k → (p : Place) (m : ℕ) → is_accepted (place_answer c k p) ≡ true → is_within_nic k m ≡ true → is_within_nic (told k (place_ops c k p)) m ≡ true
place_keeps c k form p m e before =
    let l = told k (place_ops c k p) in
    elim (p.machine == m) as (λ b. (p.machine == m) ≡ b → is_within_nic l m ≡ true) [
      | true ↦ λ same. subst (λ z. is_within_nic l z ≡ true) (eqb-true p.machine m same) (own_place c k form p e)
      | false ↦ λ other.
          let good = good_place c k p e in
          let live = live_spec_of k p.task good.live in
          let keeps = (after_place k form c p live.0 live.1).keeps in
          let none = other_share p.machine m (request_of (spec_of k p.task)) false other refl in
          let more = (place_holdings k form c p good).requests m in
          stays_within p.task k l m keeps (load_less k l m (used_kept p.task k l keeps m) (omega (arith, more, none))) before
    ] refl

holder_known : (k : Table) (t : ℕ) → is_held k t ≡ true → (h : ℕ) × (holder_of k t ≡ Some h)
holder_known k t e = elim (holder_of k t) as (λ o. passes (λ m. true) o ≡ true → (h : ℕ) × (o ≡ Some h)) [ None ↦ λ no. absurd (let none : ⊥ = cc in none) | Some h ↦ λ _. (h, refl) ] e

preempt_keeps : (k : Table) → IsTable k → (p : Preempt) (m : ℕ) → is_accepted (preempt_answer k p) ≡ true → is_within_nic k m ≡ true → is_within_nic (told k (preempt_ops k p)) m ≡ true
preempt_keeps k form p m e before =
    let l = told k (preempt_ops k p) in
    let good = good_preempt k p e in
    let live = live_spec_of k p.task good.live in
    let keeps = (after_preempt k form p live.0 live.1 (eqb-true _ _ good.attempt)).keeps in
    let held = holder_known k p.task good.held in
    let less = (preempt_holdings k form p good held.0 held.1).requests m in
    stays_within p.task k l m keeps (load_less k l m (used_kept p.task k l keeps m) (omega (arith, less))) before

-- entries in turn, each of which leaves a machine within its nic where it was
module _ {E : Type 0} (answer_to : Table → E → Answer) (ops_of : Table → E → List Op) (m : ℕ) (keeps : (k : Table) → IsTable k → (e : E) → is_accepted (answer_to k e) ≡ true → is_within_nic k m ≡ true → is_within_nic (told k (ops_of k e)) m ≡ true) where
  one_keeps : (k : Table) → IsTable k → (e : E) → is_within_nic k m ≡ true → is_within_nic (told k (one_entry (answer_to k e) (ops_of k e)).ops) m ≡ true
  one_keeps k form e before = elim (is_accepted (answer_to k e)) as (λ b. is_accepted (answer_to k e) ≡ b → is_within_nic (told k (cond b (ops_of k e) [])) m ≡ true) [
    | true ↦ λ is. keeps k form e is before
    | false ↦ λ _. subst (λ l. is_within_nic l m ≡ true) (sym (told_nothing k form)) before
  ] refl

  all_keep : (es : List E) (k : Table) → IsTable k → is_within_nic k m ≡ true → is_within_nic (told k (in_turn answer_to ops_of k es).ops) m ≡ true
  all_keep [] k form before = subst (λ l. is_within_nic l m ≡ true) (sym (told_nothing k form)) before
  all_keep (e ∷ es) k form before =
      let one = one_entry (answer_to k e) (ops_of k e) in
      let l = told k one.ops in
      subst (λ z. is_within_nic z m ≡ true) (told_more k form one.ops (in_turn answer_to ops_of l es).ops)
      (all_keep es l (told_table k form one.ops) (one_keeps k form e before))

or_true : (a b : Bool) → a || b ≡ true → (a ≡ true) ⊎ (b ≡ true)
or_true true b e = inl refl
or_true false b e = inr e

and_true : (a b : Bool) → a && b ≡ true → (a ≡ true) × (b ≡ true)
and_true true b e = (refl, e)
and_true false b e = absurd (let no : ⊥ = cc in no)

placed_within : (c m : ℕ) (ps : List Place) (k : Table) → IsTable k → (more : List Answer) → got_place ps ((admission_of_places c k ps).answers ++ more) m ≡ true → is_within_nic (told k (admission_of_places c k ps).ops) m ≡ true
placed_within c m [] k form more e = absurd (let no : ⊥ = cc in no)
placed_within c m (p ∷ ps) k form more e =
    let answer = place_answer c k p in
    let one = one_entry answer (place_ops c k p) in
    let l = told k one.ops in
    subst (λ z. is_within_nic z m ≡ true) (told_more k form one.ops (admission_of_places c l ps).ops)
    (elim (or_true (p.machine == m && is_accepted answer) (got_place ps ((admission_of_places c l ps).answers ++ more) m) e) [
      | inl here ↦
          let both = and_true (p.machine == m) (is_accepted answer) here in
          let own : is_within_nic l m ≡ true =
          subst (λ z. is_within_nic (told k (cond z (place_ops c k p) [])) m ≡ true) (sym both.1)
          (subst (λ z. is_within_nic (told k (place_ops c k p)) z ≡ true) (eqb-true p.machine m both.0) (own_place c k form p both.1)) in
          all_keep (place_answer c) (place_ops c) m (λ x f q. place_keeps c x f q m) ps l (told_table k form one.ops) own
      | inr later ↦ placed_within c m ps l (told_table k form one.ops) more later
    ])

pub admitted_within : (c m : ℕ) (plan : Plan) (k : Table) → IsTable k → got_place plan.places (admission k c plan).answers m ≡ true → is_within_nic (told k (admission k c plan).ops) m ≡ true
admitted_within c m plan k form e =
    let first = admission_of_places c k plan.places in
    let l = told k first.ops in
    let then = admission_of_preempts l plan.preempts in
    subst (λ z. is_within_nic z m ≡ true) (told_more k form first.ops then.ops)
    (all_keep preempt_answer preempt_ops m (λ x f q. preempt_keeps x f q m) plan.preempts l (told_table k form first.ops) (placed_within c m plan.places k form then.answers e))
