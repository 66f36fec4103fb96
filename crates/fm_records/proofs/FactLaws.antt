-- The facts on the table of a set are those of the set.
use Rattle.std.specs.Prelude.{◌≡◌, ℕ, true, false, cond, ◌==◌, ◌&&◌, List, [], ◌∷◌, Option, Some, None, option_map, refl}
use Rattle.std.specs.List.{filter_map}
use Rattle.std.specs.Ordering.{nat_cmp, is_eq, is_lt}
use Rattle.std.specs.Cmp.{nat_cmp_total}
use Rattle.std.proofs.Common.{sym, ap, ◌∙◌, subst, eq-eqb, true≢false}
use Rattle.std.proofs.lemmas.Bool.{eqb-true}
use Rattle.std.proofs.lemmas.Cmp.{tied_itself}
use Rattle.fm_records.specs.declared.ops.Op.{Op}
use Rattle.fm_records.specs.declared.ops.Op.TheVariants as op
use Rattle.fm_records.specs.declared.records.SpecReg.{SpecReg}
use Rattle.fm_records.specs.declared.records.Progress.{Progress}
use Rattle.fm_records.specs.declared.records.Spot.{Spot}
use Rattle.fm_records.specs.Options.{and_then, or_else}
use Rattle.fm_records.specs.Sets.{IsMember, least, with_value, table, unless_empty}
use Rattle.fm_records.specs.Orders.{spot_cmp}
use Rattle.fm_records.specs.laws.OrderLaws.{total_spot}
use Rattle.fm_records.specs.Know.{initial_progress, coordinator_in, spot_in, coordinator_named, spec, greatest_progress, progress, incarnation, state_at, report_at, state, report, task_value, machine_at, entry, winner, table_of}
use Rattle.fm_records.specs.Facts.{head_option, spec_of, progress_of, incarnation_of, machine_state, report_of, entries_of, winner_of}
use Rattle.fm_records.specs.Characterized.{IsLeastOf}
use Rattle.fm_records.proofs.SetLaws.{member_from, member_kept}
use Rattle.fm_records.proofs.GreatestLaws.{least_is}
use Rattle.fm_records.proofs.LookupLaws.{none_some, when_is_true, both_true, lookup_task, lookup_machine, lookup_entry, lookup_entries}
use Rattle.fm_records.proofs.RangeLaws.{inside, when_value, least_member, all_of_some, spots_rise}
use Rattle.fm_lattice.specs.laws.ChainLaws.{nat_same, by_cases, greater_less}
use Rattle.fm_lattice.specs.Joins.{min_join}
use Rattle.fm_lattice.specs.Maps.{lookup, IsRising}
use Rattle.fm_lattice.specs.laws.MapLaws.{lookup_below, same_map, below_trans}

pub spec_part : (a : Option SpecReg) (b : Option Progress) → and_then (λ v. v.0) (task_value a b) ≡ a
spec_part None None = refl
spec_part None (Some p) = refl
spec_part (Some s) b = refl

progress_part : (a : Option SpecReg) (b : Option Progress) → or_else initial_progress (option_map (λ v. v.1) (task_value a b)) ≡ or_else initial_progress b
progress_part None None = refl
progress_part None (Some p) = refl
progress_part (Some s) b = refl

module _ (S : List Op) where
  pub spec_is : (t : ℕ) → spec_of (table_of S) t ≡ spec S t
  spec_is t = ap (and_then (λ v. v.0)) (lookup_task S t) ∙ spec_part (spec S t) (greatest_progress S t)

  pub progress_is : (t : ℕ) → progress_of (table_of S) t ≡ progress S t
  progress_is t = ap (λ o. or_else initial_progress (option_map (λ v. v.1) o)) (lookup_task S t) ∙ progress_part (spec S t) (greatest_progress S t)

  incarnation_part : (m : ℕ) (o : Option ℕ) → option_map (λ v. v.0) (option_map (machine_at S m) o) ≡ o
  incarnation_part m None = refl
  incarnation_part m (Some n) = refl

  state_part : (m : ℕ) (o : Option ℕ) → and_then (λ v. v.1.0) (option_map (machine_at S m) o) ≡ and_then (state_at S m) o
  state_part m None = refl
  state_part m (Some n) = refl

  report_part : (m : ℕ) (o : Option ℕ) → and_then (λ v. v.1.1) (option_map (machine_at S m) o) ≡ and_then (report_at S m) o
  report_part m None = refl
  report_part m (Some n) = refl

  pub incarnation_is : (m : ℕ) → incarnation_of (table_of S) m ≡ incarnation S m
  incarnation_is m = ap (option_map (λ v. v.0)) (lookup_machine S m) ∙ incarnation_part m (incarnation S m)

  pub state_is : (m : ℕ) → machine_state (table_of S) m ≡ state S m
  state_is m = ap (and_then (λ v. v.1.0)) (lookup_machine S m) ∙ state_part m (incarnation S m)

  pub report_is : (m : ℕ) → report_of (table_of S) m ≡ report S m
  report_is m = ap (and_then (λ v. v.1.1)) (lookup_machine S m) ∙ report_part m (incarnation S m)

or_empty : {R : Type 0} (xs : List R) → or_else [] (unless_empty xs) ≡ xs
or_empty [] = refl
or_empty (x ∷ xs) = refl

-- the least key that a rising list has is its first
first_row : (xs : List (ℕ × Spot)) → IsRising nat_cmp xs → (c : ℕ) (s : Spot) → lookup nat_cmp c xs ≡ Some s → ((q : ℕ) (v : Spot) → lookup nat_cmp q xs ≡ Some v → is_lt (nat_cmp q c) ≡ false) → head_option xs ≡ option_map (λ v. (c, v)) (Some s)
first_row [] r c s e h = none_some s e
first_row (x ∷ xs) r c s e h =
    by_cases (nat_cmp c x.0) (λ o. cond (is_eq o) (Some x.1) (lookup nat_cmp c xs) ≡ Some s → head_option (x ∷ xs) ≡ option_map (λ v. (c, v)) (Some s))
    (λ l g. none_some s (sym (lookup_below nat_cmp nat_cmp_total nat_same c xs (below_trans nat_cmp nat_cmp_total nat_same c x.0 xs l r.0)) ∙ g))
    (λ t g. let key : x.0 ≡ c = sym (nat_same c x.0 t) in let value : x.1 ≡ s = inside x.1 s g in λ i. Some (key i, value i))
    (λ l g.
    let first : lookup nat_cmp x.0 (x ∷ xs) ≡ Some x.1 = rw (tied_itself nat_cmp_total x.0) refl in
    let less : is_lt (nat_cmp x.0 c) ≡ true = ap is_lt (greater_less nat_cmp nat_cmp_total c x.0 l) in
    absurd (true≢false (sym less ∙ h x.0 x.1 first)))
    e

-- who proposes names a spot, and a spot is named by who proposes it
spot_of_one : (at : ℕ × ℕ) (c : ℕ) (o : Op) → coordinator_in at o ≡ Some c → (s : Spot) × (spot_in at c o ≡ Some s)
spot_of_one at c (op.Propose id attempt coordinator machine incarnation) e =
    let here = when_is_true (id == at.0 && attempt == at.1) coordinator c e in
    let who = eq-eqb coordinator c (when_value (id == at.0 && attempt == at.1) coordinator c e) in
    (record { machine = machine; incarnation = incarnation }, rw (here, who) refl)
spot_of_one at c _ e = none_some c e

one_of_spot : (at : ℕ × ℕ) (c : ℕ) (o : Op) (s : Spot) → spot_in at c o ≡ Some s → coordinator_in at o ≡ Some c
one_of_spot at c (op.Propose id attempt coordinator machine incarnation) s e =
    let keys = both_true (id == at.0 && attempt == at.1) (coordinator == c) (when_is_true (id == at.0 && attempt == at.1 && coordinator == c) _ s e) in
    let who = eqb-true coordinator c keys.1 in
    rw keys.0 (ap Some who)
one_of_spot at c _ s e = none_some s e

module _ (S : List Op) (at : ℕ × ℕ) where
  abbrev those : List ℕ
  those = filter_map (coordinator_in at) S

  abbrev spots : List (ℕ × Spot)
  spots = table nat_cmp (filter_map coordinator_named S) (entry S at)

  entries_are : entries_of (table_of S) at ≡ spots
  entries_are = ap (or_else []) (lookup_entries S at) ∙ or_empty spots

  pub entry_is : (c : ℕ) → lookup nat_cmp c (entries_of (table_of S) at) ≡ entry S at c
  entry_is c = ap (lookup nat_cmp c) entries_are ∙ lookup_entry S at c

  -- who has an entry proposed it
  proposed : (c : ℕ) (s : Spot) → entry S at c ≡ Some s → IsMember c those
  proposed c s e =
      let from = member_from (spot_in at c) S s (least_member spot_cmp total_spot (filter_map (spot_in at c) S) s e) in
      member_kept (coordinator_in at) from.0 c S (one_of_spot at c from.0 s from.2) from.1

  -- who proposed has an entry
  entered : (c : ℕ) → IsMember c those → (s : Spot) × (entry S at c ≡ Some s)
  entered c h =
      let from = member_from (coordinator_in at) S c h in
      let spot = spot_of_one at c from.0 from.2 in
      elim (entry S at c) as (λ o. entry S at c ≡ o → (s : Spot) × (entry S at c ≡ Some s)) [
        | None ↦ λ e. absurd (all_of_some (min_join spot_cmp) (filter_map (spot_in at c) S) spot.0 (member_kept (spot_in at c) from.0 spot.0 S spot.1 from.1) e)
        | Some s ↦ λ e. (s, e)
      ] refl

  none_entered : those ≡ [] → (c : ℕ) → entry S at c ≡ None
  none_entered none c = elim (entry S at c) as (λ o. entry S at c ≡ o → o ≡ None) [
    | None ↦ λ _. refl
    | Some s ↦ λ e. absurd (subst (IsMember c) none (proposed c s e))
  ] refl

  winner_by : (o : Option ℕ) → IsLeastOf nat_cmp those o → head_option spots ≡ and_then (with_value (entry S at)) o
  winner_by None none = ap head_option (same_map nat_cmp nat_cmp_total nat_same spots [] (spots_rise S at) tt (λ c. lookup_entry S at c ∙ none_entered none c))
  winner_by (Some c) is =
      let has = entered c is.is_member in
      first_row spots (spots_rise S at) c has.0 (lookup_entry S at c ∙ has.1) (λ q v e. is.none_below q (proposed q v (sym (lookup_entry S at q) ∙ e)))
      ∙ ap (option_map (λ v. (c, v))) (sym has.1)

  pub winner_is : winner_of (table_of S) at.0 at.1 ≡ winner S at
  winner_is = ap head_option entries_are ∙ winner_by (least nat_cmp those) (least_is nat_cmp nat_cmp_total those)
