-- A sweep with one arc more taken.
use Rattle.std.proofs.Common.{◌≡◌, ◌∙◌, sym, subst, inl, inr, ℕ, ◌<◌, ◌⊎◌, ◌+◌, ◌-◌, ◌*◌, ◌^◌, Bool, true, false, length, arith}
use Rattle.std.specs.Prelude.{pos, ◌+ℤ◌, ◌≤ℤ◌, neg_ℤ}
use Rattle.std.proofs.lemmas.Bool.{cases_lt}
use Rattle.std.proofs.lemmas.Int.{ints}
use Rattle.fm_cycles.specs.Walks.{Costs, Steps}
use Rattle.fm_cycles.specs.inner.Labels.{AreLabels, HasFallen, IsRelaxed, IsLabelSweep, costs_of, parents_of}
use Rattle.fm_cycles.specs.declared.indexed_arcs.ResidualArc.{ResidualArc}
use Rattle.fm_cycles.specs.declared.labels.Labels.{Labels}

-- when the arc at a place is taken
abbrev pub turn_of : Bool → ℕ → ℕ → ℕ
turn_of true n i = n - 1 - i
turn_of false n i = i

pub record IsPartlySwept (g : Steps ResidualArc) (done : ResidualArc → Type 0) (turn : ℕ) (old new : Labels) : Type 0 where
  pub costs : length new.costs.items ≡ length old.costs.items
  pub parents : length new.parents.items ≡ length old.costs.items
  pub labels : (first : Costs) → AreLabels g first (costs_of old) (parents_of old) → AreLabels g first (costs_of new) (parents_of new)
  pub falls : (v : ℕ) → costs_of new v ≤ℤ costs_of old v
  pub relaxed : (s : ResidualArc) → done s → g.is_open s → costs_of new (g.target s) ≤ℤ (costs_of old (g.source s) +ℤ g.cost s)
  pub low : (v : ℕ) → neg_ℤ (pos (2 ^ 97 + turn * 2 ^ 32)) ≤ℤ costs_of new v
  pub fell : HasFallen new.fell (length old.costs.items) (costs_of old) (costs_of new)

abbrev pub Before : Bool → ℕ → ℕ → ResidualArc → Type 0
Before backwards n turn s = turn_of backwards n s.arc < turn

-- the arc at the turn is at the place
place_at : (backwards : Bool) (n turn place i : ℕ) → turn < n → i < n → turn_of backwards n place ≡ turn → place < n → turn_of backwards n i < turn + 1 → (turn_of backwards n i < turn) ⊎ (i ≡ place)
place_at true n turn place i less within is there below = elim (cases_lt (n - 1 - i) turn) [ inl h ↦ inl h | inr h ↦ inr (omega arith) ]
place_at false n turn place i less within is there below = elim (cases_lt i turn) [ inl h ↦ inl h | inr h ↦ inr (omega arith) ]

module _ (g : Steps ResidualArc) (backwards : Bool) (n : ℕ) (old : Labels) where
  pub one_more : (turn place : ℕ) (now new : Labels) → ((s : ResidualArc) → g.is_open s → s.arc < n) → turn < n → place < n → turn_of backwards n place ≡ turn
      → IsPartlySwept g (Before backwards n turn) turn old now → IsRelaxed g place now new → length new.costs.items ≡ length now.costs.items → length new.parents.items ≡ length now.costs.items
      → IsPartlySwept g (Before backwards n (turn + 1)) (turn + 1) old new
  one_more turn place now new opened less there is part more same sized = record {
    costs = same ∙ part.costs;
    parents = sized ∙ part.costs;
    labels = λ first was. more.labels first (part.labels first was);
    falls = λ v. let one = part.falls v in let two = more.falls v in omega (arith, ints);
    relaxed = λ s done can. elim (place_at backwards n turn place s.arc less (opened s can) is there done) [
      | inl before ↦ let one = part.relaxed s before can in let two = more.falls (g.target s) in omega (arith, ints)
      | inr at ↦ let one = more.relaxed s at can in let two = part.falls (g.source s) in omega (arith, ints)
    ];
    low = λ v. let one = more.low (2 ^ 97 + turn * 2 ^ 32) part.low v in omega (arith, ints);
    fell = subst (λ m. HasFallen new.fell m (costs_of old) (costs_of new)) part.costs
        (more.fell (costs_of old) part.falls (subst (λ m. HasFallen now.fell m (costs_of old) (costs_of now)) (sym part.costs) part.fell));
  }

  pub all : (turn : ℕ) (new : Labels) → ((s : ResidualArc) → g.is_open s → turn_of backwards n s.arc < turn) → IsPartlySwept g (Before backwards n turn) turn old new → IsLabelSweep g old new
  all turn new every part = record { labels = part.labels; falls = part.falls; relaxed = λ s can. part.relaxed s (every s can) can }

pub turn_less : (backwards : Bool) (n i : ℕ) → i < n → turn_of backwards n i < n
turn_less true n i less = omega arith
turn_less false n i less = less
