-- A labels of walks with one step more taken: it stays one, and what it falls by.
use Rattle.std.proofs.Common.{◌≡◌, ◌∙◌, ap, sym, subst, refl, inl, inr, ℕ, ◌<◌, ◌≤◌, ◌⊎◌, true, false, List, [], ◌∷◌, Option, Some, None, length, arith}
use Rattle.std.specs.Prelude.{ℤ, pos, ◌+ℤ◌, ◌≤ℤ◌, neg_ℤ, slice_get, slice_index}
use Rattle.std.proofs.lemmas.Bool.{cases_lt}
use Rattle.std.proofs.lemmas.Option.{slice_get_past}
use lib.Signed.{◌<ℤ◌}
use Rattle.std.proofs.lemmas.Int.{ints}
use Rattle.fm_cycles.specs.Walks.{Costs, Steps, IsWalk, walk_cost}
use Rattle.fm_cycles.specs.Residual.{residual, CanBeTaken, head_of, start_of, cost_by}
use Rattle.fm_cycles.specs.inner.Labels.{AreLabels, IsWalkBack, IsLowered}
use Rattle.fm_cycles.specs.declared.indexed_arcs.IndexedArc.{IndexedArc}
use Rattle.fm_cycles.specs.declared.indexed_arcs.ResidualArc.{ResidualArc}

no_some : {A P : Type 0} {x : A} → None ≡ Some x → P
no_some e = absurd (let no : ⊥ = cc in no)

one_some : {A : Type 0} {x y : A} → Some x ≡ Some y → x ≡ y
one_some e = cc

coe_to : {A B : Type 0} → A ≡ B → A → B
coe_to e a = subst (λ (X : Type 0). X) e a

module _ (g : Steps ResidualArc) (first costs : Costs) (parents : ℕ → Option ResidualArc) (labels : AreLabels g first costs parents) where
  -- the walk back costs no more than the costs of its ends say
  pub at_most : (v u : ℕ) (steps : List ResidualArc) → IsWalkBack g parents v steps u → (costs u +ℤ walk_cost g steps) ≤ℤ costs v
  at_most v u [] back = let same = ap costs back in omega (arith, ints)
  at_most v u (s ∷ steps) back =
      let rest = at_most (g.source s) u steps back.1 in
      let one = labels.sums v s back.0 in
      omega (arith, ints)

  pub is_walk : (v u : ℕ) (steps : List ResidualArc) → IsWalkBack g parents v steps u → IsWalk g v steps u
  is_walk v u [] back = back
  is_walk v u (s ∷ steps) back = (labels.opened v s back.0, labels.ends v s back.0, is_walk (g.source s) u steps back.1)

module _ (g : Steps ResidualArc) (first costs costs2 : Costs) (parents parents2 : ℕ → Option ResidualArc) (can : Type 0) (s : ResidualArc)
    (labels : AreLabels g first costs parents) (open_if : can → g.is_open s)
    (low : IsLowered can (g.target s) (costs (g.source s) +ℤ g.cost s) s costs costs2 parents parents2) where
  abbrev cost : ℤ
  cost = costs (g.source s) +ℤ g.cost s

  abbrev Same : ℕ → Type 0
  Same v = (costs2 v ≡ costs v) × (parents2 v ≡ parents v)

  abbrev Set : ℕ → Type 0
  Set v = can × (v ≡ g.target s) × (costs2 v ≡ cost) × (cost <ℤ costs v) × (parents2 v ≡ Some s)

  falls2 : (v : ℕ) → costs2 v ≤ℤ costs v
  falls2 v = elim (low.each v) [
    | inl same ↦ let e = same.0 in omega (arith, ints)
    | inr set ↦ let e = set.2 in let l = set.3 in omega (arith, ints)
  ]

  -- of a node with a last step: the one that it had, or this one
  by_last : (P : ResidualArc → Type 0) (v : ℕ) → ((t : ResidualArc) → parents v ≡ Some t → costs2 v ≡ costs v → P t) → (can → v ≡ g.target s → costs2 v ≡ cost → P s) → (t : ResidualArc) → parents2 v ≡ Some t → P t
  by_last P v old new t last = elim (low.each v) [
    | inl same ↦ old t (sym same.1 ∙ last) same.0
    | inr set ↦ subst P (one_some (sym set.4 ∙ last)) (new set.0 set.1 set.2)
  ]

  sums2 : (v : ℕ) (t : ResidualArc) → parents2 v ≡ Some t → (costs2 (g.source t) +ℤ g.cost t) ≤ℤ costs2 v
  sums2 v = by_last (λ t. (costs2 (g.source t) +ℤ g.cost t) ≤ℤ costs2 v) v
      (λ t e same. let one = labels.sums v t e in let fell = falls2 (g.source t) in omega (arith, ints))
      (λ _ _ e. let fell = falls2 (g.source s) in omega (arith, ints))

  most2 : (v u : ℕ) (steps : List ResidualArc) → IsWalkBack g parents2 v steps u → (costs2 u +ℤ walk_cost g steps) ≤ℤ costs2 v
  most2 v u [] back = let same = ap costs2 back in omega (arith, ints)
  most2 v u (t ∷ steps) back =
      let rest = most2 (g.source t) u steps back.1 in
      let one = sums2 v t back.0 in
      omega (arith, ints)

  -- a walk back from a node that stayed is an old one, or is fell than the costs of its ends say
  kept : (v u : ℕ) (steps : List ResidualArc) → IsWalkBack g parents2 v steps u → Same v → IsWalkBack g parents v steps u ⊎ ((costs2 u +ℤ walk_cost g steps) <ℤ costs2 v)
  kept v u [] back same = inl back
  kept v u (t ∷ steps) back same =
      let was : parents v ≡ Some t = sym same.1 ∙ back.0 in
      let one = labels.sums v t was in
      let stayed = same.0 in
      elim (low.each (g.source t)) [
        | inl same2 ↦
            let still = same2.0 in
            elim (kept (g.source t) u steps back.1 same2) [
              | inl old ↦ inl (was, old)
              | inr less ↦ inr (omega (arith, ints))
            ]
        | inr set ↦
            let now = set.2 in
            let fell = set.3 in
            let rest = most2 (g.source t) u steps back.1 in
            inr (omega (arith, ints))
      ]

  negative2 : (v : ℕ) (t : ResidualArc) (steps : List ResidualArc) → IsWalkBack g parents2 v (t ∷ steps) v → walk_cost g (t ∷ steps) <ℤ pos 0
  negative2 v t steps back = elim (low.each v) [
    | inl same ↦ elim (kept v v (t ∷ steps) back same) [
      | inl old ↦ labels.negative v t steps old
      | inr less ↦ omega (arith, ints)
    ]
    | inr set ↦
        let is : t ≡ s = one_some (sym back.0 ∙ set.4) in
        let now : costs2 v ≡ (costs (g.source t) +ℤ g.cost t) = subst (λ (r : ResidualArc). costs2 v ≡ (costs (g.source r) +ℤ g.cost r)) (sym is) set.2 in
        let fell : (costs (g.source t) +ℤ g.cost t) <ℤ costs v = subst (λ (r : ResidualArc). (costs (g.source r) +ℤ g.cost r) <ℤ costs v) (sym is) set.3 in
        elim (low.each (g.source t)) [
          | inl same2 ↦
              let still = same2.0 in
              elim (kept (g.source t) v steps back.1 same2) [
                | inl old ↦ let most = at_most g first costs parents labels (g.source t) v steps old in omega (arith, ints)
                | inr less ↦ omega (arith, ints)
              ]
          | inr set2 ↦
              let now2 = set2.2 in
              let fell2 = set2.3 in
              let rest = most2 (g.source t) v steps back.1 in
              omega (arith, ints)
        ]
  ]

  pub lowered : AreLabels g first costs2 parents2
  lowered = record {
    opened = λ v. by_last (λ t. g.is_open t) v (λ t e _. labels.opened v t e) (λ c _ _. open_if c);
    ends = λ v. by_last (λ t. g.target t ≡ v) v (λ t e _. labels.ends v t e) (λ _ e _. sym e);
    sums = sums2;
    roots = λ v none. elim (low.each v) [
      | inl same ↦ same.0 ∙ labels.roots v (sym same.1 ∙ none)
      | inr set ↦ no_some (sym none ∙ set.4)
    ];
    negative = negative2;
  }

-- no cost rises
pub falls : (can : Type 0) (node : ℕ) (cost : ℤ) (s : ResidualArc) (costs costs2 : Costs) (parents parents2 : ℕ → Option ResidualArc) → IsLowered can node cost s costs costs2 parents parents2 → (v : ℕ) → costs2 v ≤ℤ costs v
falls can node cost s costs costs2 parents parents2 low v = elim (low.each v) [
  | inl same ↦ let e = same.0 in omega (arith, ints)
  | inr set ↦ let e = set.2 in let l = set.3 in omega (arith, ints)
]

-- what is below the cost and the old costs stays below
pub above : (can : Type 0) (node : ℕ) (cost : ℤ) (s : ResidualArc) (costs costs2 : Costs) (parents parents2 : ℕ → Option ResidualArc) → IsLowered can node cost s costs costs2 parents parents2 → (v : ℕ) (bound : ℤ) → bound ≤ℤ cost → bound ≤ℤ costs v → bound ≤ℤ costs2 v
above can node cost s costs costs2 parents parents2 low v bound one old = elim (low.each v) [
  | inl same ↦ let e = same.0 in omega (arith, ints)
  | inr set ↦ let e = set.2 in omega (arith, ints)
]

module _ (arcs : List IndexedArc) (units : List ℕ) (a : IndexedArc) (i : ℕ) (there : slice_get arcs i ≡ Some a) where
  abbrev g : Steps ResidualArc
  g = residual arcs units

  abbrev ahead : ResidualArc
  ahead = record { arc = i; forward = true }

  abbrev back : ResidualArc
  back = record { arc = i; forward = false }

  -- a step at the arc is one of the two
  one_of : (s : ResidualArc) → s.arc ≡ i → (s ≡ ahead) ⊎ (s ≡ back)
  one_of s is = elim s.forward as (λ b. s.forward ≡ b → (s ≡ ahead) ⊎ (s ≡ back)) [
    | true ↦ λ e. inl (λ k. record { arc = is k; forward = e k })
    | false ↦ λ e. inr (λ k. record { arc = is k; forward = e k })
  ] refl

  module _ (costs0 costs1 costs2 : Costs) (parents0 parents1 parents2 : ℕ → Option ResidualArc) (can1 can2 : Type 0) (cost1 cost2 : ℤ)
      (up1 : can1 → slice_index units i < a.capacity) (down1 : slice_index units i < a.capacity → can1)
      (up2 : can2 → 0 < slice_index units i) (down2 : 0 < slice_index units i → can2)
      (is1 : cost1 ≡ (costs0 a.from +ℤ pos a.cost)) (is2 : cost2 ≡ (costs1 a.to +ℤ neg_ℤ (pos a.cost)))
      (low1 : IsLowered can1 a.to cost1 ahead costs0 costs1 parents0 parents1)
      (low2 : IsLowered can2 a.from cost2 back costs1 costs2 parents1 parents2) where
    open1 : g.is_open ahead ≡ (slice_index units i < a.capacity)
    open1 = ap (λ o. CanBeTaken o true (slice_index units i)) there

    open2 : g.is_open back ≡ (0 < slice_index units i)
    open2 = ap (λ o. CanBeTaken o false (slice_index units i)) there

    price1 : (costs0 (g.source ahead) +ℤ g.cost ahead) ≡ cost1
    price1 = ap (λ o. costs0 (start_of o true) +ℤ cost_by o true) there ∙ sym is1

    price2 : (costs1 (g.source back) +ℤ g.cost back) ≡ cost2
    price2 = ap (λ o. costs1 (start_of o false) +ℤ cost_by o false) there ∙ sym is2

    first_low : IsLowered can1 (g.target ahead) (costs0 (g.source ahead) +ℤ g.cost ahead) ahead costs0 costs1 parents0 parents1
    first_low = subst (λ n. IsLowered can1 n (costs0 (g.source ahead) +ℤ g.cost ahead) ahead costs0 costs1 parents0 parents1) (sym (ap (λ o. head_of o true) there))
        (subst (λ p. IsLowered can1 a.to p ahead costs0 costs1 parents0 parents1) (sym price1) low1)

    second_low : IsLowered can2 (g.target back) (costs1 (g.source back) +ℤ g.cost back) back costs1 costs2 parents1 parents2
    second_low = subst (λ n. IsLowered can2 n (costs1 (g.source back) +ℤ g.cost back) back costs1 costs2 parents1 parents2) (sym (ap (λ o. head_of o false) there))
        (subst (λ p. IsLowered can2 a.from p back costs1 costs2 parents1 parents2) (sym price2) low2)

    both : (first : Costs) → AreLabels g first costs0 parents0 → AreLabels g first costs2 parents2
    both first labels =
        lowered g first costs1 costs2 parents1 parents2 can2 back
        (lowered g first costs0 costs1 parents0 parents1 can1 ahead labels (λ c. coe_to (sym open1) (up1 c)) first_low)
        (λ c. coe_to (sym open2) (up2 c)) second_low

    fell : (v : ℕ) → costs2 v ≤ℤ costs0 v
    fell v =
        let one = falls can1 a.to cost1 ahead costs0 costs1 parents0 parents1 low1 v in
        let two = falls can2 a.from cost2 back costs1 costs2 parents1 parents2 low2 v in
        omega (arith, ints)

    relaxed : (s : ResidualArc) → s.arc ≡ i → g.is_open s → costs2 (g.target s) ≤ℤ (costs0 (g.source s) +ℤ g.cost s)
    relaxed s is can = elim (one_of s is) [
      | inl e ↦ subst (λ (r : ResidualArc). costs2 (g.target r) ≤ℤ (costs0 (g.source r) +ℤ g.cost r)) (sym e)
          (let low = first_low.reached (down1 (coe_to open1 (subst (λ (r : ResidualArc). g.is_open r) e can))) in
          let two = falls can2 a.from cost2 back costs1 costs2 parents1 parents2 low2 (g.target ahead) in
          omega (arith, ints))
      | inr e ↦ subst (λ (r : ResidualArc). costs2 (g.target r) ≤ℤ (costs0 (g.source r) +ℤ g.cost r)) (sym e)
          (let low = second_low.reached (down2 (coe_to open2 (subst (λ (r : ResidualArc). g.is_open r) e can))) in
          let one = falls can1 a.to cost1 ahead costs0 costs1 parents0 parents1 low1 (g.source back) in
          omega (arith, ints))
    ]

    pub taken : ((first : Costs) → AreLabels g first costs0 parents0 → AreLabels g first costs2 parents2) × ((v : ℕ) → costs2 v ≤ℤ costs0 v) × ((s : ResidualArc) → s.arc ≡ i → g.is_open s → costs2 (g.target s) ≤ℤ (costs0 (g.source s) +ℤ g.cost s))
    taken = (both, fell, relaxed)

-- an open step is at an arc
pub past : (arcs : List IndexedArc) (units : List ℕ) (s : ResidualArc) (n : ℕ) → length arcs ≤ n → (residual arcs units).is_open s → s.arc < n
past arcs units s n all can = elim (cases_lt s.arc n) [
  | inl below ↦ below
  | inr above ↦ let none = slice_get_past arcs s.arc (omega arith) in absurd (subst (λ o. CanBeTaken o s.forward (slice_index units s.arc)) none can)
]
