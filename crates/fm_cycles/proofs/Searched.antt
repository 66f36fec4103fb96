-- The rounds of a search.
use Rattle.std.proofs.Common.{◌≡◌, ◌∙◌, ap, subst, refl, inl, inr, ℕ, zero, suc, ◌⊎◌, ◌+◌, ◌*◌, ◌^◌, ◌≤◌, ◌<◌, true, false, List, [], ◌∷◌, Option, Some, None, length, get_or, arith}
use Rattle.std.specs.Prelude.{ℤ, pos, ◌+ℤ◌, ◌≤ℤ◌, neg_ℤ, slice_get, slice_index}
use Rattle.std.specs.Option.{is_some}
use lib.ListN.{replicate}
use lib.Signed.{◌<ℤ◌}
use Rattle.std.proofs.lemmas.Int.{ints}
use Rattle.std.proofs.lemmas.Bool.{cases_lt}
use Rattle.fm_cycles.specs.Walks.{Costs, Steps, IsWalk, walk_cost, AreBounded, ArePotentials}
use Rattle.fm_cycles.specs.Residual.{residual, cost_by, CanBeTaken, AreArcs}
use Rattle.fm_cycles.specs.Found.{costs_in}
use Rattle.fm_cycles.specs.inner.Labels.{AreLabels, HasFallen, IsLabelSweep, IsCorrectedWithin, IsBoundedBelow, costs_of, parents_of}
use Rattle.fm_cycles.specs.inner.ParentGraph.{HasRoot}
use Rattle.fm_cycles.specs.declared.indexed_arcs.IndexedArc.{IndexedArc}
use Rattle.fm_cycles.specs.declared.indexed_arcs.ResidualArc.{ResidualArc}
use Rattle.fm_cycles.specs.declared.labels.Labels.{Labels}
use Rattle.fm_cycles.proofs.Lowered.{at_most, is_walk}

pub none_at : {A : Type 0} → (o : Option A) → o ≡ None → (n v : ℕ) → get_or (replicate n o) v None ≡ None
none_at o is zero v = refl
none_at o is (suc n) zero = is
none_at o is (suc n) (suc v) = none_at o is n v

-- whether some node fell, from what a test says
pub none_fell : (o : Option ℕ) → is_some o ≡ false → o ≡ None
none_fell None is = refl
none_fell (Some v) is = absurd (let no : ⊥ = cc in no)

pub some_fell : (o : Option ℕ) → is_some o ≡ true → (v : ℕ) × (o ≡ Some v)
some_fell None is = absurd (let no : ⊥ = cc in no)
some_fell (Some v) is = (v, refl)

pub no_items : {A : Type 0} → (xs : List A) → length xs ≡ 0 → xs ≡ []
no_items [] is = refl
no_items (x ∷ xs) is = absurd (omega arith)

-- no cost is above that of a walk of at most so many steps
abbrev pub Reached : Steps ResidualArc → Costs → Costs → ℕ → Type 0
Reached g first costs most = (v u : ℕ) (steps : List ResidualArc) → IsWalk g v steps u → length steps ≤ most → costs v ≤ℤ (first u +ℤ walk_cost g steps)

pub record IsSearching (g : Steps ResidualArc) (nodes : ℕ) (first : Costs) (labels : Labels) (sweeps : ℕ) : Type 0 where
  pub sized : length labels.costs.items ≡ nodes
  pub parents : length labels.parents.items ≡ nodes
  pub few : (sweeps ≡ 0) ⊎ (sweeps < nodes)
  pub grown : AreLabels g first (costs_of labels) (parents_of labels)
  pub low : IsBoundedBelow (2 ^ 64 + nodes * 2 ^ 32) (costs_of labels)
  pub high : (v : ℕ) → costs_of labels v ≤ℤ pos (2 ^ 64)
  pub reached : Reached g first (costs_of labels) sweeps

-- labels that fell from the first costs in so many sweeps
pub record IsGrown (g : Steps ResidualArc) (nodes : ℕ) (first : Costs) (labels : Labels) (sweeps : ℕ) : Type 0 where
  pub sized : length labels.costs.items ≡ nodes
  pub parents : length labels.parents.items ≡ nodes
  pub grown : AreLabels g first (costs_of labels) (parents_of labels)
  pub low : IsBoundedBelow (2 ^ 97) (costs_of labels)
  pub high : (v : ℕ) → costs_of labels v ≤ℤ pos (2 ^ 64)
  pub reached : Reached g first (costs_of labels) sweeps

behind_end : (costs : List ℤ) (v : ℕ) → length costs ≤ v → costs_in costs v ≡ pos 0
behind_end [] v all = refl
behind_end (c ∷ costs) zero all = absurd (omega arith)
behind_end (c ∷ costs) (suc v) all = behind_end costs v (omega arith)

module _ (arcs : List IndexedArc) (units : List ℕ) (nodes : ℕ) (known : AreArcs arcs nodes) where
  abbrev g : Steps ResidualArc
  g = residual arcs units

  low_cost : (s : ResidualArc) → g.is_open s → neg_ℤ (pos (2 ^ 32)) ≤ℤ g.cost s
  low_cost s can =
      elim (slice_get arcs s.arc) as (λ o. slice_get arcs s.arc ≡ o → CanBeTaken o s.forward (slice_index units s.arc) → neg_ℤ (pos (2 ^ 32)) ≤ℤ cost_by o s.forward) [
        | None ↦ λ _ no. absurd no
        | Some a ↦ λ is _. let cost = (known s.arc a is).2 in elim s.forward as (λ b. neg_ℤ (pos (2 ^ 32)) ≤ℤ cost_by (Some a) b) [ true ↦ omega (arith, ints) | false ↦ omega (arith, ints) ]
      ] refl can

  low_walk : (v u : ℕ) (steps : List ResidualArc) → IsWalk g v steps u → neg_ℤ (pos (length steps * 2 ^ 32)) ≤ℤ walk_cost g steps
  low_walk v u [] walk = omega (arith, ints)
  low_walk v u (s ∷ steps) walk =
      let one = low_cost s walk.0 in
      let rest = low_walk (g.source s) u steps walk.2 in
      omega (arith, ints)

  pub start : (first : Costs) (labels : Labels) → ((v : ℕ) → costs_of labels v ≡ first v) → ((v : ℕ) → parents_of labels v ≡ None) → length labels.costs.items ≡ nodes → length labels.parents.items ≡ nodes → AreBounded (2 ^ 64) first → IsSearching g nodes first labels 0
  start first labels same none sized parents bounded = record {
    sized = sized;
    parents = parents;
    few = inl refl;
    grown = record {
      opened = λ v s is. absurd (let no : ⊥ = (let e = none v in cc) in no);
      ends = λ v s is. absurd (let no : ⊥ = (let e = none v in cc) in no);
      sums = λ v s is. absurd (let no : ⊥ = (let e = none v in cc) in no);
      roots = λ v _. same v;
      negative = λ v s steps back. absurd (let no : ⊥ = (let e = none v in let h = back.0 in cc) in no);
    };
    low = λ v. let e = same v in let h = (bounded v).0 in omega (arith, ints);
    high = λ v. let e = same v in let h = (bounded v).1 in omega (arith, ints);
    reached = λ v u steps walk few. elim steps as (λ p. IsWalk g v p u → length p ≤ 0 → costs_of labels v ≤ℤ (first u +ℤ walk_cost g p)) [
      | [] ↦ λ is _. let e = same v in let e2 = ap first is in omega (arith, ints)
      | s ∷ more ↦ λ _ h. absurd (omega arith)
    ] walk few;
  }

  pub above : nodes < 2 ^ 63 → (first : Costs) (labels : Labels) (sweeps : ℕ) → IsSearching g nodes first labels sweeps → IsBoundedBelow (2 ^ 96) (costs_of labels)
  above few first labels sweeps st = λ v. let low = st.low v in omega (arith, ints)

  -- whatever the queue relaxes
  pub quickened : nodes < 2 ^ 63 → (first : Costs) (labels now : Labels) (sweeps : ℕ) → IsSearching g nodes first labels sweeps → IsCorrectedWithin g (2 ^ 64) labels now → IsGrown g nodes first now sweeps
  quickened few first labels now sweeps st more = record {
    sized = more.2.costs ∙ st.sized;
    parents = more.2.parents ∙ st.parents;
    grown = more.2.labels first st.grown;
    low = λ v. let most = more.1 in let low = more.2.low (2 ^ 96) (above few first labels sweeps st) v in omega (arith, ints);
    high = λ v. let old = st.high v in let fall = more.2.falls v in omega (arith, ints);
    reached = λ v u steps walk few. let old = st.reached v u steps walk few in let fall = more.2.falls v in omega (arith, ints);
  }

  pub done : (first : Costs) (labels new : Labels) (sweeps : ℕ) → IsGrown g nodes first labels sweeps → IsLabelSweep g labels new → HasFallen new.fell nodes (costs_of labels) (costs_of new) → new.fell ≡ None → ArePotentials g (costs_of new)
  done first labels new sweeps st swept fallen none =
      let same : (v : ℕ) → costs_of new v ≡ costs_of labels v = subst (λ (o : Option ℕ). HasFallen o nodes (costs_of labels) (costs_of new)) none fallen in
      record {
        fit = λ s can.
            let low = swept.relaxed s can in
            let one = same (g.source s) in
            omega (arith, ints);
        bounded = λ v.
            let e = same v in
            let low = st.low v in
            let high = st.high v in
            (omega (arith, ints), omega (arith, ints));
      }

  module _ (first : Costs) (labels new : Labels) (sweeps : ℕ) (st : IsGrown g nodes first labels sweeps) (swept : IsLabelSweep g labels new) where
    pub grown2 : AreLabels g first (costs_of new) (parents_of new)
    grown2 = swept.labels first st.grown

    reached2 : Reached g first (costs_of new) (sweeps + 1)
    reached2 v u [] walk few =
        let old = st.reached v u [] walk (omega arith) in
        let fall = swept.falls v in
        omega (arith, ints)
    reached2 v u (s ∷ steps) walk few =
        let old = st.reached (g.source s) u steps walk.2 (omega arith) in
        let fall = swept.relaxed s walk.0 in
        let same = ap (costs_of new) walk.1 in
        omega (arith, ints)

    low2 : AreBounded (2 ^ 64) first → ((v : ℕ) → v < nodes → HasRoot g nodes (parents_of new) v) → length new.costs.items ≡ nodes → IsBoundedBelow (2 ^ 64 + nodes * 2 ^ 32) (costs_of new)
    low2 bounded all sized v = elim (cases_lt v nodes) [
      | inl less ↦
          let rooted = all v less in
          let most = at_most g first (costs_of new) (parents_of new) grown2 v rooted.root rooted.steps rooted.back in
          let walk = low_walk v rooted.root rooted.steps (is_walk g first (costs_of new) (parents_of new) grown2 v rooted.root rooted.steps rooted.back) in
          let from = grown2.roots rooted.root rooted.none in
          let few = rooted.few in
          let bound = (bounded rooted.root).0 in
          omega (arith, ints)
      | inr more ↦ let e = behind_end new.costs.items v (omega arith) in omega (arith, ints)
    ]

    -- a walk back from a node that fell has more steps than there were sweeps
    pub more_sweeps : (end : ℕ) → costs_of new end <ℤ costs_of labels end → HasRoot g nodes (parents_of new) end → sweeps + 1 < nodes
    more_sweeps end fell rooted =
        let most = at_most g first (costs_of new) (parents_of new) grown2 end rooted.root rooted.steps rooted.back in
        let walk = is_walk g first (costs_of new) (parents_of new) grown2 end rooted.root rooted.steps rooted.back in
        let from = grown2.roots rooted.root rooted.none in
        let few = rooted.few in
        elim (cases_lt sweeps (length rooted.steps)) [
          | inl less ↦ omega arith
          | inr more ↦ let old = st.reached end rooted.root rooted.steps walk (omega arith) in absurd (omega (arith, ints))
        ]

    pub again : AreBounded (2 ^ 64) first → ((v : ℕ) → v < nodes → HasRoot g nodes (parents_of new) v) → (end : ℕ) → end < nodes → costs_of new end <ℤ costs_of labels end
        → length new.costs.items ≡ nodes → length new.parents.items ≡ nodes → IsSearching g nodes first new (sweeps + 1)
    again bounded all end within fell sized parents = record {
      sized = sized;
      parents = parents;
      few = inr (more_sweeps end fell (all end within));
      grown = grown2;
      low = low2 bounded all sized;
      high = λ v. let old = st.high v in let fall = swept.falls v in omega (arith, ints);
      reached = reached2;
    }
