-- The halves of a table: they can be, they are shorter, and their join is the table.
use Rattle.std.proofs.Common.{◌≡◌, ℕ, ◌+◌, ◌-◌, ◌<◌, ◌≤◌, true, List, [], ◌∷◌, ◌++◌, length, length-append, inl, inr, sym, ap, subst, ◌∙◌, append_assoc, arith}
use Rattle.std.specs.Prelude.{max}
use Rattle.std.specs.List.{flat_map}
use Rattle.std.specs.Ordering.{nat_cmp}
use Rattle.std.specs.Cmp.{IsTotalOrder, nat_cmp_total}
use Rattle.std.specs.declared.cmp.Ordering.{Ordering}
use Rattle.std.proofs.lemmas.Bool.{cases_lt}
use Rattle.std.proofs.lemmas.List.{append-nil}
use Rattle.std.proofs.lemmas.Grind.{flat_map-append}
use Rattle.fm_lattice.specs.Joins.{max_join}
use Rattle.fm_lattice.specs.Maps.{IsRising, AreValues, IsMap, put, map_join}
use Rattle.fm_records.specs.declared.ops.Op.{Op}
use Rattle.fm_records.specs.Orders.{job_cmp, attempt_cmp}
use Rattle.fm_records.specs.laws.OrderLaws.{total_attempt}
use Rattle.fm_records.specs.Table.{Table}
use Rattle.fm_records.specs.OpsOfTable.{IsTable, ops, job_ops, task_ops, machine_ops, entry_ops}
use Rattle.fm_records.specs.Ranges.{in_range, all_in_range, CanBe}
use Rattle.fm_records.specs.Joined.{table_join, task_join, machine_join, spots_join}
use Rattle.fm_records.proofs.RangeLaws.{all_pass, both_pass}
use Rattle.fm_wire.proofs.Walks.{put_above}
use Rattle.fm_wire.proofs.Grouped.{middle_above, rising_front}
use Rattle.fm_store.specs.inner.Halves.{behind_each_other}

-- ---- maps

module _ {K V : Type 0} (cmp : K → K → Ordering) where
  rising_behind : (xs ys : List (K × V)) → IsRising cmp (xs ++ ys) → IsRising cmp ys
  rising_behind [] ys r = r
  rising_behind (x ∷ xs) ys r = rising_behind xs ys r.1

module _ {K V : Type 0} (is_value : V → Type 0) where
  values_in : (xs ys : List (K × V)) → AreValues is_value (xs ++ ys) → AreValues is_value xs × AreValues is_value ys
  values_in [] ys v = (tt, v)
  values_in (x ∷ xs) ys v = let t = values_in xs ys v.1 in ((v.0, t.0), t.1)

-- the pairs before those that are left: the first ones, so many at most, and those behind them
pub record AreSplit {E : Type 0} (count : ℕ) (all front behind left : List E) : Type 0 where
  pub are : front ++ (behind ++ left) ≡ all
  pub few : length front ≤ count
  pub full : length front < count → behind ≡ []

pub split_at_first : {E : Type 0} (count : ℕ) (all front behind left : List E) → front ≡ [] → behind ≡ [] → left ≡ all → AreSplit count all front behind left
split_at_first count all front behind left p q r = record {
  are = (λ i. p i ++ (q i ++ r i));
  few = omega (arith, ap length p);
  full = λ _. q;
}

pub split_at_last : {E : Type 0} (count : ℕ) (all front behind left : List E) → AreSplit count all front behind left → left ≡ []
    → (front ++ behind ≡ all) × (length front ≤ count) × (length behind ≤ length all - count)
split_at_last count all front behind left h none =
    let are : front ++ behind ≡ all = ap (λ z. front ++ z) (sym (append-nil behind) ∙ ap (λ z. behind ++ z) (sym none)) ∙ h.are in
    let whole : length front + length behind ≡ length all = sym (length-append front behind) ∙ ap length are in
    (are, h.few, rest_is (length front) (length behind) (length all) whole (λ lt. ap length (h.full lt)))
  where
    rest_is : (a b n : ℕ) → a + b ≡ n → (a < count → b ≡ 0) → b ≤ n - count
    rest_is a b n whole full = elim (cases_lt a count) [ inl lt ↦ omega (arith, full lt) | inr le ↦ omega (arith, whole, le) ]

module _ {K V : Type 0} (cmp : K → K → Ordering) (total : IsTotalOrder cmp) (join : V → V → V) where
  -- a key that comes after some is added behind them
  put_last : (xs : List (K × V)) (e : K × V) (ys : List (K × V)) → IsRising cmp (xs ++ e ∷ ys) → put cmp join e.0 e.1 xs ≡ xs ++ e ∷ []
  put_last xs e ys r = put_above cmp total join e.0 e.1 xs (middle_above cmp total xs e ys r)

  -- the join of lists whose keys rise from one to the next is one behind the other
  pub joined_behind : (xs ys : List (K × V)) → IsRising cmp (xs ++ ys) → map_join cmp join xs ys ≡ xs ++ ys
  joined_behind xs [] r = sym (append-nil xs)
  joined_behind xs (y ∷ ys) r =
      let again : (xs ++ y ∷ []) ++ ys ≡ xs ++ y ∷ ys = append_assoc xs (y ∷ []) ys in
      ap (λ (es : List (K × V)). map_join cmp join es ys) (put_last xs y ys r)
      ∙ joined_behind (xs ++ y ∷ []) ys (subst (IsRising cmp) (sym again) r)
      ∙ again

  -- the next pair goes to the first ones, or behind them
  pub next_in_front : (count : ℕ) (all front behind left rest new : List (K × V)) (e : K × V) → IsRising cmp all → AreSplit count all front behind left → left ≡ e ∷ rest → length front < count
      → new ≡ put cmp join e.0 e.1 front → AreSplit count all new behind rest
  next_in_front count all front behind left rest new e r h next lt is =
      let none = h.full lt in
      let all_is : front ++ e ∷ rest ≡ all = (λ i. front ++ (sym none i ++ sym next i)) ∙ h.are in
      let new_is : new ≡ front ++ e ∷ [] = is ∙ put_last front e rest (subst (IsRising cmp) (sym all_is) r) in
      record {
        are = (λ i. new_is i ++ (none i ++ rest)) ∙ append_assoc front (e ∷ []) rest ∙ all_is;
        few = omega (arith, ap length new_is, length-append front (e ∷ []), lt);
        full = λ _. none;
      }

  pub next_behind : (count : ℕ) (all front behind left rest new : List (K × V)) (e : K × V) → IsRising cmp all → AreSplit count all front behind left → left ≡ e ∷ rest → count ≤ length front
      → new ≡ put cmp join e.0 e.1 behind → AreSplit count all front new rest
  next_behind count all front behind left rest new e r h next le is =
      let all_is : front ++ (behind ++ e ∷ rest) ≡ all = (λ i. front ++ (behind ++ sym next i)) ∙ h.are in
      let rising = rising_behind cmp front (behind ++ e ∷ rest) (subst (IsRising cmp) (sym all_is) r) in
      let new_is : new ≡ behind ++ e ∷ [] = is ∙ put_last behind e rest rising in
      record {
        are = ap (λ z. front ++ (z ++ rest)) new_is ∙ ap (λ z. front ++ z) (append_assoc behind (e ∷ []) rest) ∙ all_is;
        few = h.few;
        full = λ lt. absurd (omega (arith, le, lt));
      }

module _ {K V : Type 0} (cmp : K → K → Ordering) (total : IsTotalOrder cmp) (is_value : V → Type 0) where
  maps_in : (xs ys : List (K × V)) → IsMap cmp is_value (xs ++ ys) → IsMap cmp is_value xs × IsMap cmp is_value ys
  maps_in xs ys m =
      let v = values_in is_value xs ys m.values in
      (record { rising = rising_front cmp total xs ys m.rising; values = v.0 }, record { rising = rising_behind cmp xs ys m.rising; values = v.1 })

-- ---- tables

pub joined_halves : (k l : Table) → IsTable (behind_each_other k l) → table_join k l ≡ behind_each_other k l
joined_halves k l is = λ i. record {
  jobs = joined_behind nat_cmp nat_cmp_total (max_join job_cmp) k.jobs l.jobs is.jobs.rising i;
  tasks = joined_behind nat_cmp nat_cmp_total task_join k.tasks l.tasks is.tasks.rising i;
  machines = joined_behind nat_cmp nat_cmp_total machine_join k.machines l.machines is.machines.rising i;
  proposals = joined_behind attempt_cmp total_attempt spots_join k.proposals l.proposals is.proposals.rising i;
}

-- the operations of each list are in range
record AreInRange (k : Table) : Type 0 where
  jobs : all_in_range (flat_map job_ops k.jobs) ≡ true
  tasks : all_in_range (flat_map task_ops k.tasks) ≡ true
  machines : all_in_range (flat_map machine_ops k.machines) ≡ true
  proposals : all_in_range (flat_map entry_ops k.proposals) ≡ true

each_in_range : (k : Table) → all_in_range (ops k) ≡ true → AreInRange k
each_in_range k h =
    let two = flat_map job_ops k.jobs ++ flat_map task_ops k.tasks in
    let a = both_pass in_range (two ++ flat_map machine_ops k.machines) (flat_map entry_ops k.proposals) h in
    let b = both_pass in_range two (flat_map machine_ops k.machines) a.0 in
    let c = both_pass in_range (flat_map job_ops k.jobs) (flat_map task_ops k.tasks) b.0 in
    record { jobs = c.0; tasks = c.1; machines = b.1; proposals = a.1 }

all_are_in_range : (k : Table) → AreInRange k → all_in_range (ops k) ≡ true
all_are_in_range k h =
    let two = flat_map job_ops k.jobs ++ flat_map task_ops k.tasks in
    let c = all_pass in_range (flat_map job_ops k.jobs) (flat_map task_ops k.tasks) h.jobs h.tasks in
    let b = all_pass in_range two (flat_map machine_ops k.machines) c h.machines in
    all_pass in_range (two ++ flat_map machine_ops k.machines) (flat_map entry_ops k.proposals) b h.proposals

ranges_in : {E : Type 0} (f : E → List Op) (xs ys : List E) → all_in_range (flat_map f (xs ++ ys)) ≡ true → (all_in_range (flat_map f xs) ≡ true) × (all_in_range (flat_map f ys) ≡ true)
ranges_in f xs ys h = both_pass in_range (flat_map f xs) (flat_map f ys) (ap all_in_range (sym (flat_map-append f xs ys)) ∙ h)

both_can_be : (k l : Table) → CanBe (behind_each_other k l) → CanBe k × CanBe l
both_can_be k l is =
    let r = each_in_range (behind_each_other k l) is.in_range in
    let j = ranges_in job_ops k.jobs l.jobs r.jobs in
    let t = ranges_in task_ops k.tasks l.tasks r.tasks in
    let m = ranges_in machine_ops k.machines l.machines r.machines in
    let p = ranges_in entry_ops k.proposals l.proposals r.proposals in
    let jobs = maps_in nat_cmp nat_cmp_total _ k.jobs l.jobs is.table.jobs in
    let tasks = maps_in nat_cmp nat_cmp_total _ k.tasks l.tasks is.table.tasks in
    let machines = maps_in nat_cmp nat_cmp_total _ k.machines l.machines is.table.machines in
    let proposals = maps_in attempt_cmp total_attempt _ k.proposals l.proposals is.table.proposals in (
      record {
        table = record { jobs = jobs.0; tasks = tasks.0; machines = machines.0; proposals = proposals.0 };
        in_range = all_are_in_range k (record { jobs = j.0; tasks = t.0; machines = m.0; proposals = p.0 });
      },
      record {
        table = record { jobs = jobs.1; tasks = tasks.1; machines = machines.1; proposals = proposals.1 };
        in_range = all_are_in_range l (record { jobs = j.1; tasks = t.1; machines = m.1; proposals = p.1 });
      },
    )

pub halves_can_be : (k l whole : Table) → k.jobs ++ l.jobs ≡ whole.jobs → k.tasks ++ l.tasks ≡ whole.tasks → k.machines ++ l.machines ≡ whole.machines → k.proposals ++ l.proposals ≡ whole.proposals
    → CanBe whole → CanBe k × CanBe l
halves_can_be k l whole a b c d is =
    let both : behind_each_other k l ≡ whole = λ i. record { jobs = a i; tasks = b i; machines = c i; proposals = d i } in
    both_can_be k l (subst (λ (t : Table). CanBe t) (sym both) is)

-- ---- how long they are

pub each_of_four : (a b c d n : ℕ) → max (max a b) (max c d) ≤ n → (a ≤ n) × (b ≤ n) × (c ≤ n) × (d ≤ n)
each_of_four a b c d n h = (omega (arith, h), omega (arith, h), omega (arith, h), omega (arith, h))
