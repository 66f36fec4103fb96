-- A binary search among the nodes of a kind finds a node that stands there.
use Rattle.std.proofs.Common.{◌≡◌, ◌∙◌, ap, sym, subst, refl, inl, inr, ℕ, ◌+◌, ◌-◌, ◌<◌, ◌≤◌, List, Some, length, drop, get_or, get_or-take, get_or-drop, HoldsAt, arith}
use Rattle.std.specs.Prelude.{slice_get, slice_range}
use Rattle.std.specs.Ordering.{ordering_index}
use Rattle.std.specs.List.Sorted.{IsNonDecreasingBy, IsPartitionPoint}
use Rattle.std.specs.declared.cmp.Ordering.{Ordering}
use Rattle.std.specs.declared.cmp.Ordering.TheVariants.{Less, Equal, Greater}
use Rattle.std.proofs.lemmas.Bool.{cases_lt}
use Rattle.std.proofs.lemmas.Cmp.{tied_itself}
use Rattle.std.proofs.lemmas.Option.{slice_get-get_or}
use Rattle.fm_records.specs.Rising.{Rises}
use Rattle.fm_net.specs.declared.node.Node.{Node}
use Rattle.fm_net.specs.Nodes.{node_cmp}
use Rattle.fm_net.specs.laws.NodeOrder.{node_exact, node_total}
use Rattle.fm_indexed.proofs.Placed.{earlier_less}

index_most : (o : Ordering) → ordering_index o ≤ 2
index_most Less = omega arith
index_most Equal = omega arith
index_most Greater = omega arith

index_le : (x m n : Node) → node_cmp m n ≡ Less → ordering_index (node_cmp m x) ≤ ordering_index (node_cmp n x)
index_le x m n less = elim (node_cmp n x) as (λ o. node_cmp n x ≡ o → ordering_index (node_cmp m x) ≤ ordering_index o) [
  | Less ↦ λ h. let e = node_total.trans m n x less h in rw e (omega arith)
  | Equal ↦ λ h. let same = node_exact n x h in let e : node_cmp m x ≡ Less = ap (node_cmp m) (sym same) ∙ less in rw e (omega arith)
  | Greater ↦ λ h. index_most (node_cmp m x)
] refl

module _ (nodes : List Node) (rises : Rises node_cmp nodes) (x : Node) (f e : ℕ) (part : List Node) (is : part ≡ slice_range nodes f e) (sized : length part + f ≡ e) (within : e ≤ length nodes) where
  at : (i : ℕ) (d : Node) → i < length part → get_or part i d ≡ get_or nodes (f + i) d
  at i d less = ap (λ (p : List Node). get_or p i d) is ∙ get_or-take (e - f) (drop f nodes) i d (omega arith) ∙ get_or-drop f nodes i d

  there : (i : ℕ) (d : Node) → i < length part → slice_get nodes (f + i) ≡ Some (get_or part i d)
  there i d less = slice_get-get_or nodes (f + i) d (omega arith) ∙ ap (λ (n : Node). Some n) (sym (at i d less))

  pub found : (i : ℕ) → i < length part → HoldsAt (λ y. node_cmp y x ≡ Equal) part i → slice_get nodes (f + i) ≡ Some x
  found i less holds = there i x less ∙ ap (λ (n : Node). Some n) (node_exact (get_or part i x) x (holds x))

  climbs : IsNonDecreasingBy (λ y. ordering_index (node_cmp y x)) part
  climbs i j d le less = elim (cases_lt i j) [
    | inl before ↦ index_le x (get_or part i d) (get_or part j d) (earlier_less nodes (f + i) (f + j) (get_or part i d) (get_or part j d) rises (there i d (omega arith)) (there j d less) (omega arith))
    | inr later ↦ let same : i ≡ j = omega arith in subst (λ k. ordering_index (node_cmp (get_or part i d) x) ≤ ordering_index (node_cmp (get_or part k d) x)) same (omega arith)
  ]

  pub not_missing : (v : ℕ) → f ≤ v → v < e → slice_get nodes v ≡ Some x → (i : ℕ) → (IsNonDecreasingBy (λ y. ordering_index (node_cmp y x)) part → IsPartitionPoint (λ y. node_cmp y x ≡ Less) (λ y. node_cmp y x ≡ Greater) part i) → ⊥
  not_missing v from to at_v i parted =
      let p = parted climbs in
      let back : f + (v - f) ≡ v = omega arith in
      let both : Some (get_or part (v - f) x) ≡ Some x = sym (there (v - f) x (omega arith)) ∙ ap (slice_get nodes) back ∙ at_v in
      let same : get_or part (v - f) x ≡ x = cc in
      let tied : node_cmp (get_or part (v - f) x) x ≡ Equal = ap (λ n. node_cmp n x) same ∙ tied_itself node_total x in
      elim (cases_lt (v - f) i) [
        | inl before ↦ let less = p.0 (v - f) x (omega arith) before in let no : Less ≡ Equal = sym less ∙ tied in absurd (cc)
        | inr behind ↦ let more = p.1 (v - f) x behind (omega arith) in let no : Greater ≡ Equal = sym more ∙ tied in absurd (cc)
      ]
