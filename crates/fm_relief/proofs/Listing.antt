-- Tasks listed by machine, and the machines with more than their bandwidth.
use Rattle.std.proofs.Common.{◌≡◌, ℕ, ◌<◌, Bool, true, false, List, [], ◌∷◌, ◌++◌, Option, Some, None, option_map, map, refl, sym, ◌∙◌, ap, subst, inl, inr}
use Rattle.std.specs.Prelude.{◌==◌, nat_lt, option_to_list, is_some}
use Rattle.std.specs.List.{filter_map, cons_option}
use Rattle.std.specs.Ordering.{nat_cmp}
use Rattle.std.proofs.lemmas.Bool.{eqb-true, ltb-true}
use Rattle.fm_lattice.specs.Maps.{lookup, IsRising}
use Rattle.fm_records.specs.declared.records.MachineReg.{MachineReg}
use Rattle.fm_records.specs.Options.{and_then, only_if, when}
use Rattle.fm_records.specs.Sets.{IsMember}
use Rattle.fm_records.specs.Table.{Table, MachineValue}
use Rattle.fm_records.specs.Facts.{open_state}
use Rattle.fm_records.proofs.LookupLaws.{when_is_true}
use Rattle.fm_records.proofs.RangeLaws.{when_value}
use Rattle.fm_net.proofs.NetworkLaws.{came_from, open_entry}
use Rattle.fm_tally.specs.declared.tally.Tally.{Tally}
use Rattle.fm_tally.specs.Tallies.{TallyIsFor}
use Rattle.fm_tally.proofs.Rows.{rows, rising_rows, lookup_rows}
use Rattle.fm_relief.specs.declared.excess.Excess.{Excess}
use Rattle.fm_relief.specs.declared.held_task.HeldTask.{HeldTask}
use Rattle.fm_relief.specs.declared.relief.OverfullMachine.{OverfullMachine}
use Rattle.fm_relief.specs.Relief.{tasks_on, requests_on, preempted, overfull_at, relief_of}
use Rattle.fm_relief.specs.inner.Excesses.{excess_at, all_excesses}
use Rattle.fm_relief.specs.inner.HeldLists.{has_excess, task_entry, listed_entry}
use Rattle.fm_relief.proofs.Held.{entry_on, rows_told, tasks_are}

-- one more row, or none
pub row_more : {A : Type 0} (xs ys : List A) (o : Option A) → (xs ++ option_to_list o) ++ ys ≡ xs ++ cons_option o ys
row_more [] ys None = refl
row_more [] ys (Some a) = refl
row_more (x ∷ xs) ys o = ap (λ zs. x ∷ zs) (row_more xs ys o)

-- the rows of a list have the values that are found of their keys
row_is : {V W : Type 0} (f : ℕ → Option W) (es : List (ℕ × V)) (e : ℕ × W) → IsMember e (rows f es) → f e.0 ≡ Some e.1
row_is f [] e m = absurd m
row_is {V} {W} f (x ∷ es) e m =
    let rest = row_is f es e in
    elim (f x.0) as (λ o. f x.0 ≡ o → IsMember e (cons_option (option_map (λ w. (x.0, w)) o) (rows f es)) → f e.0 ≡ Some e.1) [
      | None ↦ λ _ later. rest later
      | Some w ↦ λ g is. elim is [ inl same ↦ subst (λ (z : ℕ × W). f z.0 ≡ Some z.1) same g | inr later ↦ rest later ]
    ] refl m

in_middle : {A : Type 0} (before after : List A) (x : A) → IsMember x (before ++ x ∷ after)
in_middle [] after x = inl refl
in_middle (b ∷ before) after x = inr (in_middle before after x)

pub row_met : {V W : Type 0} (f : ℕ → Option W) (es : List (ℕ × V)) (before after : List (ℕ × W)) (e : ℕ × W) → rows f es ≡ before ++ e ∷ after → f e.0 ≡ Some e.1
row_met f es before after e is = row_is f es e (subst (IsMember e) (sym is) (in_middle before after e))

-- Machines with an excess.

module _ (k : Table) where
  pub excesses_rise : IsRising nat_cmp k.machines → IsRising nat_cmp (all_excesses k)
  excesses_rise rising = rising_rows (excess_at k) k.machines rising

  abbrev excess_of : MachineReg → ℕ → Excess
  excess_of s m = record { held = requests_on k m; nic = s.nic }

  abbrev excess_if : ℕ → MachineReg → Option Excess
  excess_if m s = when (nat_lt s.nic (requests_on k m)) (excess_of s m)

  pub excess_there : (m : ℕ) → lookup nat_cmp m (all_excesses k) ≡ excess_at k m
  excess_there m =
      lookup_rows (excess_at k) k.machines m
      (λ (x : Excess) e.
      let state = came_from (excess_if m) (open_state k m) x e in
      let v = open_entry k m state.0 state.1 in
      (v.0, v.1))

  pub excess_held : (m : ℕ) (x : Excess) → excess_at k m ≡ Some x → x.held ≡ requests_on k m
  excess_held m x e =
      let state = came_from (excess_if m) (open_state k m) x e in
      let is = when_value (nat_lt state.0.nic (requests_on k m)) (excess_of state.0 m) x state.2 in
      ap (λ (y : Excess). y.held) (sym is)

  -- the machine with what is preempted there
  abbrev pub overfull_by : ℕ × Excess → OverfullMachine
  overfull_by e = record { machine = e.0; held = e.1.held; nic = e.1.nic; preempts = preempted (tasks_on k e.0) e.1.nic }

  when_overfull : (b : Bool) (m : ℕ) (x : Excess) → when b (overfull_by (m, x)) ≡ option_map (λ (y : Excess). overfull_by (m, y)) (when b x)
  when_overfull true m x = refl
  when_overfull false m x = refl

  abbrev pub overfull_if : ℕ → MachineReg → Option OverfullMachine
  overfull_if m s = when (nat_lt s.nic (requests_on k m)) (overfull_by (m, excess_of s m))

  over_state : (m : ℕ) (o : Option MachineReg) → and_then (overfull_if m) o ≡ option_map (λ (x : Excess). overfull_by (m, x)) (and_then (excess_if m) o)
  over_state m None = refl
  over_state m (Some s) = when_overfull (nat_lt s.nic (requests_on k m)) m (excess_of s m)

  one_overfull : (m : ℕ) → overfull_at k m ≡ option_map (λ (x : Excess). overfull_by (m, x)) (excess_at k m)
  one_overfull m = over_state m (open_state k m)

  pub overfull_parts : (m : ℕ) (r : OverfullMachine) → overfull_at k m ≡ Some r → (nic : ℕ) × (nic < requests_on k m) × (preempted (tasks_on k m) nic ≡ r.preempts)
  overfull_parts m r e =
      let state = came_from (overfull_if m) (open_state k m) r e in
      let test = nat_lt state.0.nic (requests_on k m) in
      let machine = overfull_by (m, excess_of state.0 m) in
      let is : machine ≡ r = when_value test machine r state.2 in
      (state.0.nic, ltb-true state.0.nic (requests_on k m) (when_is_true test machine r state.2), ap (λ (x : OverfullMachine). x.preempts) is)

  rows_overfull : (es : List (ℕ × MachineValue)) → map overfull_by (rows (excess_at k) es) ≡ filter_map (λ (e : ℕ × MachineValue). overfull_at k e.0) es
  rows_overfull [] = refl
  rows_overfull (e ∷ es) =
      let rest = rows_overfull es in
      let later = filter_map (λ (e : ℕ × MachineValue). overfull_at k e.0) es in
      elim (excess_at k e.0) as (λ o. excess_at k e.0 ≡ o → map overfull_by (cons_option (option_map (λ x. (e.0, x)) o) (rows (excess_at k) es)) ≡ cons_option (overfull_at k e.0) later) [
        | None ↦ λ g.
            let none : None ≡ overfull_at k e.0 = sym (one_overfull e.0 ∙ ap (option_map (λ (x : Excess). overfull_by (e.0, x))) g) in
            rest ∙ ap (λ o. cons_option o later) none
        | Some x ↦ λ g.
            let some : Some (overfull_by (e.0, x)) ≡ overfull_at k e.0 = sym (one_overfull e.0 ∙ ap (option_map (λ (x : Excess). overfull_by (e.0, x))) g) in
            λ i. cons_option (some i) (rest i)
      ] refl

  -- the relief is that of the machines with an excess
  pub relief_is : map overfull_by (all_excesses k) ≡ relief_of k
  unfolding relief_of
  relief_is = rows_overfull k.machines

-- Tasks listed for machines.

among : (test : ℕ → Bool) (m : ℕ) (h : HeldTask) → test m ≡ true → (hd : Option ℕ)
    → and_then (λ n. when (n == m) h) (only_if test hd) ≡ and_then (λ n. when (n == m) h) hd
among test m h on None = refl
among test m h on (Some n) = elim (n == m) as (λ b. (n == m) ≡ b → and_then (λ n. when (n == m) h) (when (test n) n) ≡ when b h) [
  | true ↦ λ e.
      let listed : test n ≡ true = ap test (eqb-true n m e) ∙ on in
      ap (λ c. and_then (λ n. when (n == m) h) (when c n)) listed ∙ ap (λ b. when b h) e
  | false ↦ λ e. elim (test n) as (λ c. and_then (λ n. when (n == m) h) (when c n) ≡ None) [ true ↦ ap (λ b. when b h) e | false ↦ refl ]
] refl

same_found : {A B : Type 0} (f g : A → Option B) → ((x : A) → f x ≡ g x) → (xs : List A) → filter_map f xs ≡ filter_map g xs
same_found f g each [] = refl
same_found f g each (x ∷ xs) = λ i. cons_option (each x i) (same_found f g each xs i)

-- what is listed of the tasks of a tally for a machine with an excess is what it holds
pub listed_is : (k : Table) (tally : Tally) → TallyIsFor k tally → IsRising nat_cmp tally.tasks → IsRising nat_cmp k.tasks
    → (machines : List (ℕ × Excess)) → machines ≡ all_excesses k → (m : ℕ) (x : Excess) → excess_at k m ≡ Some x
    → filter_map (listed_entry k machines m) tally.tasks ≡ tasks_on k m
listed_is k tally is rising known machines are m x found =
    let there : has_excess machines m ≡ true = ap (λ ms. has_excess ms m) are ∙ ap is_some (excess_there k m ∙ found) in
    same_found (listed_entry k machines m) (entry_on k m) (λ e. among (has_excess machines) m (task_entry k e.0 e.1) there e.1.holder) tally.tasks
    ∙ ap (filter_map (entry_on k m)) (tasks_are k tally is rising known)
    ∙ rows_told k m k.tasks
