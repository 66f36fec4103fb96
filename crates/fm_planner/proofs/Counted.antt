-- Counts of moves, one by one.
use Rattle.std.proofs.Common.{◌≡◌, ◌∙◌, sym, ap, refl, ℕ, true, false, ◌==◌, ◌&&◌, Some, None, eq-eqb}
use Rattle.std.specs.Prelude.{Option}
use Rattle.std.specs.Ordering.{nat_cmp, is_eq, ordering_then}
use Rattle.std.specs.BTreeMap.{is_at}
use Rattle.std.specs.Cmp.{Equal-is, nat_cmp_total}
use Rattle.std.specs.declared.cmp.Ordering.{Ordering}
use Rattle.std.specs.declared.cmp.Ordering.TheVariants.{Less, Equal, Greater}
use Rattle.std.proofs.lemmas.Bool.{eqb-true}
use Rattle.std.proofs.lemmas.Cmp.{tied_itself}
use Rattle.fm_lattice.specs.laws.ChainLaws.{nat_same}
use Rattle.fm_records.specs.Options.{passes}
use Rattle.fm_records.specs.Orders.{attempt_cmp}
use Rattle.fm_tally.specs.declared.way.Way.{Way}
use Rattle.fm_tally.specs.declared.way.Way.TheVariants.{ToJob, ByRequest, Straight}
use Rattle.fm_paths.specs.TaskPaths.{goes_by, takes_slot}
use Rattle.fm_planner.specs.inner.Counts.{pair_of, moved_machine}

-- a comparison of numbers, as a test of equality
pub at_number : (q r : ℕ) → is_eq (nat_cmp q r) ≡ (q == r)
at_number q r =
    elim (is_eq (nat_cmp q r)) as (λ b. is_eq (nat_cmp q r) ≡ b → b ≡ (q == r)) [
      | true ↦ λ same. sym (eq-eqb q r (nat_same q r ((Equal-is (nat_cmp q r)).0 same)))
      | false ↦ λ apart. elim (q == r) as (λ b. (q == r) ≡ b → false ≡ b) [
        | true ↦ λ e. sym apart ∙ ap is_eq (ap (nat_cmp q) (sym (eqb-true q r e)) ∙ tied_itself nat_cmp_total q)
        | false ↦ λ _. refl
      ] refl
    ] refl

both_equal : (a b : Ordering) → is_eq (ordering_then a b) ≡ is_eq a && is_eq b
both_equal Less b = refl
both_equal Equal b = refl
both_equal Greater b = refl

pub pair_counts : (r m t : ℕ) (w : Way) → passes (λ (p : ℕ × ℕ). is_at (attempt_cmp p) (r, m)) (pair_of w) ≡ goes_by r m (t, w)
pair_counts r m t (ToJob j) = refl
pair_counts r m t (ByRequest q p) = both_equal (nat_cmp q r) (nat_cmp p m) ∙ (λ i. at_number q r i && at_number p m i)
pair_counts r m t (Straight p) = refl

pub machine_counts : (m t : ℕ) (w : Way) → passes (λ (p : ℕ). is_at (nat_cmp p) m) (moved_machine w) ≡ takes_slot m (t, w)
machine_counts m t (ToJob j) = refl
machine_counts m t (ByRequest q p) = at_number p m
machine_counts m t (Straight p) = at_number p m

pub holder_counts : (m : ℕ) (holder : Option ℕ) → passes (λ (p : ℕ). is_at (nat_cmp p) m) holder ≡ passes (λ (h : ℕ). h == m) holder
holder_counts m None = refl
holder_counts m (Some h) = at_number h m
