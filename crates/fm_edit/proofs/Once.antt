-- No two edits of a change are of the same node or arc.
use Rattle.std.proofs.Common.{◌≡◌, ◌∙◌, Bool, true, false, List, [], ◌∷◌, ◌++◌, Option, Some, None, refl, sym, ap, subst, inl, inr}
use Rattle.std.specs.Prelude.{not, is_some, map}
use Rattle.std.specs.declared.cmp.Ordering.TheVariants.{Less, Equal}
use Rattle.std.proofs.lemmas.Cmp.{tied_itself}
use Rattle.fm_lattice.specs.Maps.{IsBelow, IsRising}
use Rattle.fm_records.specs.Options.{or_else}
use Rattle.fm_records.specs.Sets.{IsMember}
use Rattle.fm_records.specs.Rising.{IsBelowAll, Rises}
use Rattle.fm_net.specs.declared.node.Node.{Node}
use Rattle.fm_net.specs.declared.node.Node.TheVariants.{Sink}
use Rattle.fm_net.specs.declared.edit.Edit.{Edit}
use Rattle.fm_net.specs.declared.edit.Edit.TheVariants.{DropNode, PutNode}
use Rattle.fm_net.specs.Nodes.{node_cmp, ends_cmp}
use Rattle.fm_net.specs.laws.NodeOrder.{node_exact, node_total, ends_exact, ends_total}
use Rattle.fm_net.specs.Net.{Net, CanBeNet, has_node}
use Rattle.fm_net.proofs.ListLaws.{has_member, passes_kept, rises_kept}
use Rattle.fm_net.proofs.KeptLists.{rising_kept}
use Rattle.fm_net.proofs.EditLaws.{member_found}
use Rattle.fm_net.specs.Edits.{Arc, joins, has_arc, gone_arcs, gone_nodes, new_nodes, new_arcs, drop_of, put_of, change}
use Rattle.fm_edit.specs.Change.{edit_of, AreDistinctEdits}
use Rattle.fm_edit.proofs.LookLaws.{each_of_both, each_mapped}
use Rattle.fm_edit.proofs.Sums.{kept_member}

abbrev IsOther : Edit → Edit → Type 0
IsOther e f = ¬ (edit_of f ≡ edit_of e)

not_both : {P : Type 0} (b : Bool) → b ≡ true → not b ≡ true → P
not_both true e f = absurd (let no : ⊥ = cc in no)
not_both false e f = absurd (let no : ⊥ = cc in no)

less_tied : {P : Type 0} → Less ≡ Equal → P
less_tied e = absurd (let no : ⊥ = cc in no)

none_some : {P : Type 0} (n : Node) → None ≡ Some n → P
none_some n e = absurd (let no : ⊥ = cc in no)

same_ends : (a b : Node × Node) → ◌≡◌ {A = Node × Option Node} (a.0, Some a.1) (b.0, Some b.1) → a ≡ b
same_ends a b e =
    let first : a.0 ≡ b.0 = ap (λ (p : Node × Option Node). p.0) e in
    let second : a.1 ≡ b.1 = ap (λ (p : Node × Option Node). or_else Sink p.1) e in
    λ i. (first i, second i)

same_node : (a b : Node) → ◌≡◌ {A = Node × Option Node} (a, None) (b, None) → a ≡ b
same_node a b e = ap (λ (p : Node × Option Node). p.0) e

unlike : {P : Type 0} (n a b : Node) → ◌≡◌ {A = Node × Option Node} (n, None) (a, Some b) → P
unlike n a b e = none_some b (ap (λ (p : Node × Option Node). p.1) e)

apart_both : (xs ys : List Edit) → AreDistinctEdits xs → AreDistinctEdits ys → ((e : Edit) → IsMember e xs → (f : Edit) → IsMember f ys → IsOther e f) → AreDistinctEdits (xs ++ ys)
apart_both [] ys p q apart = q
apart_both (x ∷ xs) ys p q apart = (each_of_both (IsOther x) xs ys p.0 (apart x (inl refl)), apart_both xs ys p.1 q (λ e h. apart e (inr h)))

-- arcs and nodes that rise
below_arc : (k : Node × Node) (a : Arc) (es : List Arc) → IsBelow ends_cmp k es → IsMember a es → ends_cmp k a.0 ≡ Less
below_arc k a [] b h = absurd h
below_arc k a (x ∷ es) b h = elim h [ inl is ↦ subst (λ (z : Arc). ends_cmp k z.0 ≡ Less) is b.0 | inr later ↦ below_arc k a es b.1 later ]

below_node : (k n : Node) (ns : List Node) → IsBelowAll node_cmp k ns → IsMember n ns → node_cmp k n ≡ Less
below_node k n [] b h = absurd h
below_node k n (x ∷ ns) b h = elim h [ inl is ↦ subst (λ z. node_cmp k z ≡ Less) is b.0 | inr later ↦ below_node k n ns b.1 later ]

arcs_apart : (f : Arc → Edit) → ((a b : Arc) → edit_of (f b) ≡ edit_of (f a) → b.0 ≡ a.0) → (es : List Arc) → IsRising ends_cmp es → AreDistinctEdits (map f es)
arcs_apart f names [] r = tt
arcs_apart f names (a ∷ es) r = (
  each_mapped (IsOther (f a)) f es
      (λ b h same. less_tied (sym (below_arc a.0 b es r.0 h) ∙ ap (ends_cmp a.0) (names a b same) ∙ tied_itself ends_total a.0)),
  arcs_apart f names es r.1,
)

nodes_apart : (f : Node → Edit) → ((a b : Node) → edit_of (f b) ≡ edit_of (f a) → b ≡ a) → (ns : List Node) → Rises node_cmp ns → AreDistinctEdits (map f ns)
nodes_apart f names [] r = tt
nodes_apart f names (n ∷ ns) r = (
  each_mapped (IsOther (f n)) f ns
      (λ b h same. less_tied (sym (below_node n b ns r.0 h) ∙ ap (node_cmp n) (names n b same) ∙ tied_itself node_total n)),
  nodes_apart f names ns r.1,
)

module _ (n m : Net) (p : CanBeNet n) (q : CanBeNet m) where
  abbrev goes : Arc → Bool
  goes a = not (joins m a.0)

  abbrev comes : Arc → Bool
  comes a = not (has_arc n a)

  abbrev leaves : Node → Bool
  leaves x = not (has_node m x)

  abbrev enters : Node → Bool
  enters x = not (has_node n x)

  -- an arc that goes has other ends than one that comes
  gone_and_new : (a : Arc) → IsMember a (gone_arcs n m) → (b : Arc) → IsMember b (new_arcs n m) → IsOther (drop_of a) (put_of b)
  gone_and_new a h b g same =
      let there = member_found ends_cmp ends_total ends_exact b m.arcs q.arcs_rise (kept_member comes b m.arcs g) in
      not_both (joins m a.0) (ap (joins m) (sym (same_ends b.0 a.0 same)) ∙ ap is_some there) (passes_kept goes a n.arcs h)

  left_and_entered : (x : Node) → IsMember x (gone_nodes n m) → (y : Node) → IsMember y (new_nodes n m) → IsOther (DropNode x) (PutNode y)
  left_and_entered x h y g same =
      let there = has_member node_cmp node_total node_exact y m.nodes (kept_member enters y m.nodes g) in
      not_both (has_node m x) (ap (has_node m) (sym (same_node y x same)) ∙ there) (passes_kept leaves x n.nodes h)

  pub change_apart : AreDistinctEdits (change n m)
  change_apart =
      let dropped = gone_arcs n m in
      let left = gone_nodes n m in
      let entered = new_nodes n m in
      let put = new_arcs n m in
      apart_both (map drop_of dropped) (map DropNode left ++ (map PutNode entered ++ map put_of put))
      (arcs_apart drop_of (λ a b same. same_ends b.0 a.0 same) dropped (rising_kept ends_cmp ends_total ends_exact goes n.arcs p.arcs_rise))
      (apart_both (map DropNode left) (map PutNode entered ++ map put_of put)
      (nodes_apart DropNode (λ x y same. same_node y x same) left (rises_kept node_cmp node_total node_exact leaves n.nodes p.nodes_rise))
      (apart_both (map PutNode entered) (map put_of put)
      (nodes_apart PutNode (λ x y same. same_node y x same) entered (rises_kept node_cmp node_total node_exact enters m.nodes q.nodes_rise))
      (arcs_apart put_of (λ a b same. same_ends b.0 a.0 same) put (rising_kept ends_cmp ends_total ends_exact comes m.arcs q.arcs_rise))
      (each_mapped (λ e. (f : Edit) → IsMember f (map put_of put) → IsOther e f) PutNode entered
      (λ x h. each_mapped (IsOther (PutNode x)) put_of put (λ b g same. unlike x b.0.0 b.0.1 (sym same)))))
      (each_mapped (λ e. (f : Edit) → IsMember f (map PutNode entered ++ map put_of put) → IsOther e f) DropNode left
      (λ x h.
      each_of_both (IsOther (DropNode x)) (map PutNode entered) (map put_of put)
      (each_mapped (IsOther (DropNode x)) PutNode entered (left_and_entered x h))
      (each_mapped (IsOther (DropNode x)) put_of put (λ b g same. unlike x b.0.0 b.0.1 (sym same))))))
      (each_mapped (λ e. (f : Edit) → IsMember f (map DropNode left ++ (map PutNode entered ++ map put_of put)) → IsOther e f) drop_of dropped
      (λ a h.
      each_of_both (IsOther (drop_of a)) (map DropNode left) (map PutNode entered ++ map put_of put)
      (each_mapped (IsOther (drop_of a)) DropNode left (λ x g same. unlike x a.0.0 a.0.1 same))
      (each_of_both (IsOther (drop_of a)) (map PutNode entered) (map put_of put)
      (each_mapped (IsOther (drop_of a)) PutNode entered (λ x g same. unlike x a.0.0 a.0.1 same))
      (each_mapped (IsOther (drop_of a)) put_of put (gone_and_new a h)))))
