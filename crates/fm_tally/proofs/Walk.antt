-- A walk over the tasks, and the entries that are still ahead of it.
use Rattle.std.proofs.Common.{◌≡◌, ◌∙◌, ℕ, sym, ap, subst, refl, cond, List, [], ◌∷◌, Some}
use Rattle.std.specs.Ordering.{nat_cmp, is_eq, ordering_then}
use Rattle.std.specs.Cmp.{nat_cmp_total}
use Rattle.std.proofs.lemmas.Cmp.{tied_itself}
use Rattle.std.specs.declared.cmp.Ordering.TheVariants.{Less}
use Rattle.fm_lattice.specs.laws.ChainLaws.{by_cases, nat_same, less_greater}
use Rattle.fm_lattice.specs.Maps.{lookup, IsBelow, IsRising}
use Rattle.fm_records.specs.declared.records.Spot.{Spot}
use Rattle.fm_records.specs.Orders.{attempt_cmp}
use Rattle.fm_records.specs.Table.{Table, TaskValue}

-- the rest of a walk: it rises, its tasks are those of the table, and their entries are all ahead
pub record IsWalk (k : Table) (rest : List (ℕ × TaskValue)) (ahead : List ((ℕ × ℕ) × List (ℕ × Spot))) : Type 0 where
  pub rising : IsRising nat_cmp rest
  pub rows : (t : ℕ) (v : TaskValue) → lookup nat_cmp t rest ≡ Some v → lookup nat_cmp t k.tasks ≡ Some v
  pub entries : (t a : ℕ) (v : TaskValue) → lookup nat_cmp t rest ≡ Some v → lookup attempt_cmp (t, a) ahead ≡ lookup attempt_cmp (t, a) k.proposals

module _ {V : Type 0} where
  first_met : (t : ℕ) (v : V) (rest : List (ℕ × V)) → lookup nat_cmp t ((t, v) ∷ rest) ≡ Some v
  first_met t v rest = rw (tied_itself nat_cmp_total t) refl

  -- a key of the rest is behind the first one
  later_key : (t q : ℕ) (w : V) (rest : List (ℕ × V)) → IsBelow nat_cmp t rest → lookup nat_cmp q rest ≡ Some w → nat_cmp t q ≡ Less
  later_key t q w [] below found = absurd (let none : ⊥ = cc in none)
  later_key t q w (e ∷ rest) below found =
      by_cases (nat_cmp q e.0) (λ r. cond (is_eq r) (Some e.1) (lookup nat_cmp q rest) ≡ Some w → nat_cmp t q ≡ Less)
      (λ _ there. later_key t q w rest below.1 there)
      (λ same _. subst (λ z. nat_cmp t z ≡ Less) (sym (nat_same q e.0 same)) below.0)
      (λ _ there. later_key t q w rest below.1 there)
      found

  later_row : (t q : ℕ) (v w : V) (rest : List (ℕ × V)) → nat_cmp t q ≡ Less → lookup nat_cmp q rest ≡ Some w → lookup nat_cmp q ((t, v) ∷ rest) ≡ Some w
  later_row t q v w rest less found = rw (less_greater nat_cmp nat_cmp_total t q less) found

module _ (k : Table) (t : ℕ) (v : TaskValue) (rest : List (ℕ × TaskValue)) (old : List ((ℕ × ℕ) × List (ℕ × Spot))) (walk : IsWalk k ((t, v) ∷ rest) old) where
  pub first_row : lookup nat_cmp t k.tasks ≡ Some v
  first_row = walk.rows t v (first_met t v rest)

  pub first_entries : (a : ℕ) → lookup attempt_cmp (t, a) old ≡ lookup attempt_cmp (t, a) k.proposals
  first_entries a = walk.entries t a v (first_met t v rest)

  pub walk_on : (a : ℕ) (new : List ((ℕ × ℕ) × List (ℕ × Spot))) → ((q b : ℕ) → attempt_cmp (t, a) (q, b) ≡ Less → lookup attempt_cmp (q, b) new ≡ lookup attempt_cmp (q, b) old) → IsWalk k rest new
  walk_on a new same = record {
    rising = walk.rising.1;
    rows = λ q w found. walk.rows q w (later_row t q v w rest (later_key t q w rest walk.rising.0 found) found);
    entries = λ q b w found.
        let less = later_key t q w rest walk.rising.0 found in
        let behind : attempt_cmp (t, a) (q, b) ≡ Less = ap (λ r. ordering_then r (nat_cmp a b)) less in
        same q b behind ∙ walk.entries q b w (later_row t q v w rest less found);
  }

pub walk_begins : (k : Table) → IsRising nat_cmp k.tasks → IsWalk k k.tasks k.proposals
walk_begins k rising = record { rising = rising; rows = λ t v found. found; entries = λ t a v found. refl }
