-- Flows and potentials by name, made of those by number.
use Rattle.std.proofs.Common.{◌≡◌, ◌∙◌, ap, refl, ℕ, zero, suc, ◌<◌, ◌^◌, cond, List, [], ◌∷◌, ◌++◌, Some, None, arith}
use Rattle.std.specs.Prelude.{ℤ, slice_get, slice_index}
use Rattle.std.proofs.lemmas.List.Sums.{sum_by-cons}
use Rattle.fm_lattice.specs.Maps.{IsBelow, IsRising, AreValues}
use Rattle.fm_records.specs.Rising.{IsBelowAll, Rises}
use Rattle.fm_net.specs.declared.node.Node.{Node}
use Rattle.fm_net.specs.Nodes.{node_cmp, ends_cmp}
use Rattle.fm_net.specs.NetworkEquality.{same_node}
use Rattle.fm_certificate.specs.Totals.{Entry, target, units_at}
use Rattle.fm_certificate.proofs.Alike.{other_node}
use Rattle.fm_cycles.specs.declared.indexed_arcs.IndexedArc.{IndexedArc}
use Rattle.fm_indexed.specs.Numbered.{NetArc, IsArcOf, AreArcsOf}
use Rattle.fm_indexed.specs.inner.Named.{named_units, named_potentials, name_at, named_ends, units_by}

pub append_one : {A : Type 0} → (xs : List A) (x : A) (ys : List A) → xs ++ x ∷ ys ≡ (xs ++ x ∷ []) ++ ys
append_one [] x ys = refl
append_one (z ∷ zs) x ys = let rest = append_one zs x ys in λ i. z ∷ rest i

none_there : {A P : Type 0} {x : A} → None ≡ Some x → P
none_there e = absurd (let no : ⊥ = cc in no)

-- the keys of named units rise as those of the arcs do
below_named : (k : Node × Node) (arcs : List NetArc) (units : List ℕ) → IsBelow ends_cmp k arcs → IsBelow ends_cmp k (named_units arcs units)
below_named k [] units b = tt
below_named k (a ∷ arcs) [] b = (b.0, below_named k arcs [] b.1)
below_named k (a ∷ arcs) (u ∷ units) b = (b.0, below_named k arcs units b.1)

pub named_rise : (arcs : List NetArc) (units : List ℕ) → IsRising ends_cmp arcs → IsRising ends_cmp (named_units arcs units)
named_rise [] units r = tt
named_rise (a ∷ arcs) [] r = (below_named a.0 arcs [] r.0, named_rise arcs [] r.1)
named_rise (a ∷ arcs) (u ∷ units) r = (below_named a.0 arcs units r.0, named_rise arcs units r.1)

below_valued : (n : Node) (nodes : List Node) (values : List ℤ) → IsBelowAll node_cmp n nodes → IsBelow node_cmp n (named_potentials nodes values)
below_valued n [] values b = tt
below_valued n (m ∷ nodes) [] b = (b.0, below_valued n nodes [] b.1)
below_valued n (m ∷ nodes) (p ∷ values) b = (b.0, below_valued n nodes values b.1)

pub valued_rise : (nodes : List Node) (values : List ℤ) → Rises node_cmp nodes → IsRising node_cmp (named_potentials nodes values)
valued_rise [] values r = tt
valued_rise (n ∷ nodes) [] r = (below_valued n nodes [] r.0, valued_rise nodes [] r.1)
valued_rise (n ∷ nodes) (p ∷ values) r = (below_valued n nodes values r.0, valued_rise nodes values r.1)

-- each unit fits if all do
pub named_fit : (arcs : List NetArc) (units : List ℕ) → ((i : ℕ) → slice_index units i < 2 ^ 64) → AreValues (λ units. units < 2 ^ 64) (named_units arcs units)
named_fit [] units fits = tt
named_fit (a ∷ arcs) [] fits = (omega arith, named_fit arcs [] fits)
named_fit (a ∷ arcs) (u ∷ units) fits = (fits 0, named_fit arcs units (λ i. fits (suc i)))

-- the arcs' ends are those that stand at their places
name_is : (nodes : List Node) (v : ℕ) (n : Node) → slice_get nodes v ≡ Some n → name_at nodes v ≡ n
name_is [] v n at = none_there at
name_is (m ∷ nodes) zero n at = cc
name_is (m ∷ nodes) (suc v) n at = name_is nodes v n at

ends_are : (nodes : List Node) (b : NetArc) (a : IndexedArc) → IsArcOf nodes b a → named_ends nodes a ≡ b.0
ends_are nodes b a is = let from = name_is nodes a.from b.0.0 is.from in let to = name_is nodes a.to b.0.1 is.to in λ i. (from i, to i)

pub by_names : (nodes : List Node) (arcs : List NetArc) (numbers : List IndexedArc) (units : List ℕ) → AreArcsOf nodes arcs numbers → units_by nodes numbers units ≡ named_units arcs units
by_names nodes [] [] units are = refl
by_names nodes [] (a ∷ numbers) units are = absurd are
by_names nodes (b ∷ arcs) [] units are = absurd are
by_names nodes (b ∷ arcs) (a ∷ numbers) [] are = let ends = ends_are nodes b a are.0 in let rest = by_names nodes arcs numbers [] are.1 in λ i. (ends i, 0) ∷ rest i
by_names nodes (b ∷ arcs) (a ∷ numbers) (u ∷ units) are = let ends = ends_are nodes b a are.0 in let rest = by_names nodes arcs numbers units are.1 in λ i. (ends i, u) ∷ rest i

-- nothing enters what is none of the nodes
module _ (nodes : List Node) (n : Node) (none : (v : ℕ) → slice_get nodes v ≡ Some n → ⊥) where
  abbrev here : Entry → ℕ
  here e = cond (same_node (target e.0) n) e.1 0

  elsewhere : (b : NetArc) (a : IndexedArc) (u : ℕ) → IsArcOf nodes b a → here (b.0, u) ≡ 0
  elsewhere b a u is = let other = other_node b.0.1 n (λ e. none a.to (is.to ∙ ap (λ m. Some m) e)) in rw other refl

  pub enters_none : (arcs : List NetArc) (numbers : List IndexedArc) (units : List ℕ) → AreArcsOf nodes arcs numbers → units_at target (named_units arcs units) n ≡ 0
  enters_none [] numbers units are = refl
  enters_none (b ∷ arcs) [] units are = absurd are
  enters_none (b ∷ arcs) (a ∷ numbers) [] are =
      let rest = enters_none arcs numbers [] are.1 in
      let first = elsewhere b a 0 are.0 in
      omega (arith, sum_by-cons here (b.0, 0) (named_units arcs []))
  enters_none (b ∷ arcs) (a ∷ numbers) (u ∷ units) are =
      let rest = enters_none arcs numbers units are.1 in
      let first = elsewhere b a u are.0 in
      omega (arith, sum_by-cons here (b.0, u) (named_units arcs units))
