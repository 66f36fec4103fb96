-- No fewer edits make a change: each of its edits is of a node or an arc that differs, and no two are of the same.
use Rattle.std.proofs.Common.{◌≡◌, ◌∙◌, ◌≤◌, ◌+◌, ℕ, Bool, true, false, cond, List, [], ◌∷◌, length, Option, Some, None, refl, sym, ap, inl, inr, arith}
use Rattle.std.specs.Prelude.{◌&&◌, ◌||◌, not, is_some, map}
use Rattle.std.specs.List.{list_any}
use Rattle.std.specs.Ordering.{is_eq}
use Rattle.std.specs.Cmp.{Equal-is}
use Rattle.fm_lattice.specs.Maps.{lookup, IsRising, keep_new}
use Rattle.fm_lattice.specs.laws.MapLaws.{rising_put}
use Rattle.fm_records.specs.Options.{passes, when}
use Rattle.fm_records.specs.Sets.{IsMember}
use Rattle.fm_records.specs.Rising.{Rises}
use Rattle.fm_net.specs.declared.node.Node.{Node}
use Rattle.fm_net.specs.declared.edit.Edit.{Edit}
use Rattle.fm_net.specs.declared.edit.Edit.TheVariants.{DropArc, DropNode, PutNode, PutArc}
use Rattle.fm_net.specs.Nodes.{node_cmp, ends_cmp}
use Rattle.fm_net.specs.laws.NodeOrder.{node_exact, node_total, ends_exact, ends_total}
use Rattle.fm_net.specs.Net.{Net, CanBeNet, has_node}
use Rattle.fm_net.proofs.ListLaws.{has_member, passes_kept}
use Rattle.fm_net.proofs.KeptLists.{has_inserted}
use Rattle.fm_records.proofs.TableLaws.{rises_insert}
use Rattle.fm_net.proofs.EditLaws.{member_found, stands_removed, rises_removed, at_removed, rising_removed, at_put}
use Rattle.fm_net.specs.Edits.{Arc, after_edit, after_edits, joins, same_value, has_arc, gone_arcs, gone_nodes, new_nodes, new_arcs, drop_of, put_of, change}
use Rattle.fm_edit.specs.Change.{edit_of, AreDistinctEdits}
use Rattle.fm_edit.proofs.LookLaws.{each_of_both, each_mapped}
use Rattle.fm_edit.proofs.Made.{not_both, same_itself}
use Rattle.fm_edit.proofs.Once.{change_apart}
use Rattle.fm_edit.proofs.Sums.{kept_member}

-- what a network says of a node, or of the arc between two ends
abbrev says : Net → Node → Option Node → Option (ℕ × ℕ)
says net a None = when (has_node net a) (0, 0)
says net a (Some b) = lookup ends_cmp (a, b) net.arcs

abbrev is_same : Node → Option Node → Node → Option Node → Bool
is_same a None c None = is_eq (node_cmp a c)
is_same a (Some b) c (Some d) = is_eq (ends_cmp (a, b) (c, d))
is_same a None c (Some d) = false
is_same a (Some b) c None = false

abbrev is_of : Node → Option Node → Edit → Bool
is_of a b e = is_same a b (edit_of e).0 (edit_of e).1

same_place : (a : Node) (b : Option Node) (c : Node) (d : Option Node) → is_same a b c d ≡ true → ◌≡◌ {A = Node × Option Node} (a, b) (c, d)
same_place a None c None e = ap (λ (n : Node). (n, None)) (node_exact a c ((Equal-is (node_cmp a c)).0 e))
same_place a (Some b) c (Some d) e = ap (λ (p : Node × Node). (p.0, Some p.1)) (ends_exact (a, b) (c, d) ((Equal-is (ends_cmp (a, b) (c, d))).0 e))
same_place a None c (Some d) e = absurd (let wrong : ⊥ = cc in wrong)
same_place a (Some b) c None e = absurd (let wrong : ⊥ = cc in wrong)

-- an edit changes nothing but what it is of
record Rise (net : Net) : Type 0 where
  pub nodes : Rises node_cmp net.nodes
  pub arcs : IsRising ends_cmp net.arcs

still_rises : (e : Edit) (net : Net) → Rise net → Rise (after_edit e net)
still_rises (DropArc from to) net r = record { nodes = r.nodes; arcs = rising_removed (from, to) net.arcs r.arcs }
still_rises (DropNode n) net r = record { nodes = rises_removed n net.nodes r.nodes; arcs = r.arcs }
still_rises (PutNode n) net r = record { nodes = rises_insert node_cmp node_total node_exact n net.nodes r.nodes; arcs = r.arcs }
still_rises (PutArc from to capacity cost) net r = record { nodes = r.nodes; arcs = rising_put ends_cmp ends_total ends_exact keep_new (from, to) (capacity, cost) net.arcs r.arcs }

untouched : (e : Edit) (net : Net) → Rise net → (a : Node) (b : Option Node) → is_of a b e ≡ false → says (after_edit e net) a b ≡ says net a b
untouched (DropArc from to) net r a (Some b) h = at_removed (from, to) (a, b) net.arcs r.arcs ∙ ap (λ t. cond t None (lookup ends_cmp (a, b) net.arcs)) h
untouched (DropArc from to) net r a None h = refl
untouched (DropNode n) net r a (Some b) h = refl
untouched (DropNode n) net r a None h = ap (λ t. when t (0, 0)) (stands_removed n a net.nodes r.nodes ∙ ap (λ t. not t && has_node net a) h)
untouched (PutNode n) net r a (Some b) h = refl
untouched (PutNode n) net r a None h = ap (λ t. when t (0, 0)) (has_inserted node_cmp node_total node_exact n a net.nodes ∙ ap (λ t. t || has_node net a) h)
untouched (PutArc from to capacity cost) net r a (Some b) h = at_put (from, to) (a, b) (capacity, cost) net.arcs r.arcs ∙ ap (λ t. cond t (Some (capacity, cost)) (lookup ends_cmp (a, b) net.arcs)) h
untouched (PutArc from to capacity cost) net r a None h = refl

either_false : (a b : Bool) → (a || b) ≡ false → (a ≡ false) × (b ≡ false)
either_false true b e = absurd (let wrong : ⊥ = cc in wrong)
either_false false b e = (refl, e)

stays : (es : List Edit) (net : Net) → Rise net → (a : Node) (b : Option Node) → list_any (is_of a b) es ≡ false → says (after_edits es net) a b ≡ says net a b
stays [] net r a b h = refl
stays (e ∷ es) net r a b h =
    let parts = either_false (is_of a b e) (list_any (is_of a b) es) h in
    stays es (after_edit e net) (still_rises e net r) a b parts.1 ∙ untouched e net r a b parts.0

-- each edit of a change is of what differs
some_when : (b : Bool) → is_some {T = ℕ × ℕ} (when b (0, 0)) ≡ b
some_when true = refl
some_when false = refl

module _ (n m : Net) (p : CanBeNet n) (q : CanBeNet m) where
  Differs : Edit → Type 0
  Differs e = says m (edit_of e).0 (edit_of e).1 ≡ says n (edit_of e).0 (edit_of e).1 → ⊥

  same_nodes : (x : Node) → says m x None ≡ says n x None → has_node m x ≡ has_node n x
  same_nodes x e = sym (some_when (has_node m x)) ∙ ap is_some e ∙ some_when (has_node n x)

  arc_goes : (a : Arc) → IsMember a (gone_arcs n m) → Differs (drop_of a)
  unfolding Differs
  arc_goes a h same =
      let there = member_found ends_cmp ends_total ends_exact a n.arcs p.arcs_rise (kept_member (λ (x : Arc). not (joins m x.0)) a n.arcs h) in
      not_both (joins m a.0) (ap is_some (same ∙ there)) (passes_kept (λ (x : Arc). not (joins m x.0)) a n.arcs h)

  arc_comes : (a : Arc) → IsMember a (new_arcs n m) → Differs (put_of a)
  unfolding Differs
  arc_comes a h same =
      let there = member_found ends_cmp ends_total ends_exact a m.arcs q.arcs_rise (kept_member (λ (x : Arc). not (has_arc n x)) a m.arcs h) in
      not_both (has_arc n a) (ap (passes (same_value a.1)) (sym same ∙ there) ∙ same_itself a.1) (passes_kept (λ (x : Arc). not (has_arc n x)) a m.arcs h)

  node_goes : (x : Node) → IsMember x (gone_nodes n m) → Differs (DropNode x)
  unfolding Differs
  node_goes x h same =
      let there = has_member node_cmp node_total node_exact x n.nodes (kept_member (λ (y : Node). not (has_node m y)) x n.nodes h) in
      not_both (has_node m x) (same_nodes x same ∙ there) (passes_kept (λ (y : Node). not (has_node m y)) x n.nodes h)

  node_comes : (x : Node) → IsMember x (new_nodes n m) → Differs (PutNode x)
  unfolding Differs
  node_comes x h same =
      let there = has_member node_cmp node_total node_exact x m.nodes (kept_member (λ (y : Node). not (has_node n y)) x m.nodes h) in
      not_both (has_node n x) (sym (same_nodes x same) ∙ there) (passes_kept (λ (y : Node). not (has_node n y)) x m.nodes h)

  all_differ : (e : Edit) → IsMember e (change n m) → Differs e
  all_differ =
      each_of_both Differs (map drop_of (gone_arcs n m)) _
      (each_mapped Differs drop_of (gone_arcs n m) arc_goes)
      (each_of_both Differs (map DropNode (gone_nodes n m)) _
      (each_mapped Differs DropNode (gone_nodes n m) node_goes)
      (each_of_both Differs (map PutNode (new_nodes n m)) _
      (each_mapped Differs PutNode (new_nodes n m) node_comes)
      (each_mapped Differs put_of (new_arcs n m) arc_comes)))

  -- so edits that make the change have one of it
  made_by : (es : List Edit) → after_edits es n ≡ m → (e : Edit) → IsMember e (change n m) → list_any (is_of (edit_of e).0 (edit_of e).1) es ≡ true
  unfolding Differs
  made_by es is e h = elim (list_any (is_of (edit_of e).0 (edit_of e).1) es) as (λ b. list_any (is_of (edit_of e).0 (edit_of e).1) es ≡ b → b ≡ true) [
    | true ↦ λ _. refl
    | false ↦ λ none. absurd (all_differ e h (ap (λ (z : Net). says z (edit_of e).0 (edit_of e).1) (sym is) ∙ stays es n (record { nodes = p.nodes_rise; arcs = p.arcs_rise }) (edit_of e).0 (edit_of e).1 none))
  ] refl

-- the list without its first edit of the same
without : Edit → List Edit → List Edit
without e [] = []
without e (f ∷ fs) = cond (is_of (edit_of e).0 (edit_of e).1 f) fs (f ∷ without e fs)

shorter : (e : Edit) (es : List Edit) → list_any (is_of (edit_of e).0 (edit_of e).1) es ≡ true → length es ≡ length (without e es) + 1
unfolding without
shorter e [] h = absurd (let wrong : ⊥ = cc in wrong)
shorter e (f ∷ fs) h =
    let rest = shorter e fs in
    elim (is_of (edit_of e).0 (edit_of e).1 f) as (λ b. (b || list_any (is_of (edit_of e).0 (edit_of e).1) fs) ≡ true → length (f ∷ fs) ≡ length (cond b fs (f ∷ without e fs)) + 1) [
      | true ↦ λ _. omega arith
      | false ↦ λ g. let less = rest g in omega (arith, less)
    ] h

left : (c e : Edit) → ¬ (edit_of e ≡ edit_of c) → (es : List Edit) → list_any (is_of (edit_of e).0 (edit_of e).1) es ≡ true → list_any (is_of (edit_of e).0 (edit_of e).1) (without c es) ≡ true
unfolding without
left c e other [] h = h
left c e other (f ∷ fs) h =
    let rest = left c e other fs in
    let mine : Edit → Bool = is_of (edit_of e).0 (edit_of e).1 in
    elim (is_of (edit_of c).0 (edit_of c).1 f) as (λ b. is_of (edit_of c).0 (edit_of c).1 f ≡ b → list_any mine (cond b fs (f ∷ without c fs)) ≡ true) [
      | true ↦ λ of_c.
          elim (mine f) as (λ b. mine f ≡ b → (b || list_any mine fs) ≡ true → list_any mine fs ≡ true) [
            | true ↦ λ of_e _. absurd (other (same_place (edit_of e).0 (edit_of e).1 (edit_of f).0 (edit_of f).1 of_e ∙ sym (same_place (edit_of c).0 (edit_of c).1 (edit_of f).0 (edit_of f).1 of_c)))
            | false ↦ λ _ g. g
          ] refl h
      | false ↦ λ _.
          elim (mine f) as (λ b. (b || list_any mine fs) ≡ true → (b || list_any mine (without c fs)) ≡ true) [
            | true ↦ λ _. refl
            | false ↦ λ g. rest g
          ] h
    ] refl

as_many : (cs es : List Edit) → AreDistinctEdits cs → ((e : Edit) → IsMember e cs → list_any (is_of (edit_of e).0 (edit_of e).1) es ≡ true) → length cs ≤ length es
as_many [] es apart each = omega arith
as_many (c ∷ cs) es apart each =
    let fewer = shorter c es (each c (inl refl)) in
    let rest = as_many cs (without c es) apart.1 (λ e h. left c e (apart.0 e h) es (each e (inr h))) in
    omega (arith, fewer, rest)

pub none_shorter : (n m : Net) → CanBeNet n → CanBeNet m → (es : List Edit) → after_edits es n ≡ m → length (change n m) ≤ length es
none_shorter n m p q es is = as_many (change n m) es (change_apart n m p q) (made_by n m p q es is)
