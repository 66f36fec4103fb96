-- If all that differs was touched, the edits found among what was touched are the change.
use Rattle.std.specs.Prelude.{◌≡◌, ℕ, Bool, true, false, cond, not, ◌&&◌, ◌||◌, List, [], ◌∷◌, ◌++◌, Option, Some, None, is_some, filter, map, option_map, refl}
use Rattle.std.specs.List.{filter_map, cons_option}
use Rattle.std.specs.Ordering.{is_eq}
use Rattle.std.proofs.Common.{sym, ap, ◌∙◌, eq-eqb}
use Rattle.fm_lattice.specs.laws.ChainLaws.{by_cases}
use Rattle.fm_lattice.specs.Maps.{lookup, IsBelow, IsRising}
use Rattle.fm_lattice.specs.laws.MapLaws.{same_map, lookup_below}
use Rattle.fm_records.specs.Options.{when, and_then, passes}
use Rattle.fm_records.specs.Rising.{IsBelowAll, Rises}
use Rattle.fm_net.specs.declared.node.Node.{Node}
use Rattle.fm_net.specs.Nodes.{node_cmp, ends_cmp}
use Rattle.fm_net.specs.laws.NodeOrder.{node_exact, node_total, ends_exact, ends_total}
use Rattle.fm_net.specs.Net.{Net, has_node, CanBeNet}
use Rattle.fm_net.proofs.ListLaws.{rises_kept, same_rising}
use Rattle.fm_net.specs.declared.edit.Edit.TheVariants.{DropArc, DropNode, PutNode}
use Rattle.fm_net.specs.Edits.{Arc, joins, same_value, has_arc, gone_arcs, new_arcs, drop_of, put_of, change}
use Rattle.fm_net.proofs.KeptLists.{rising_kept, lookup_kept, has, has_kept}
use Rattle.fm_net.specs.Touched.{Touches, gone_pair, put_pair, put_at, touched_change}

module _ {X Y Z : Type 0} where
  map_map : (f : X → Y) (h : Y → Z) (xs : List X) → map h (map f xs) ≡ map (λ x. h (f x)) xs
  map_map f h [] = refl
  map_map f h (x ∷ xs) = ap (λ zs. h (f x) ∷ zs) (map_map f h xs)

-- the ends of arcs that rise
below_ends : (k : Node × Node) (es : List Arc) → IsBelow ends_cmp k es → IsBelowAll ends_cmp k (map (λ a. a.0) es)
below_ends k [] b = tt
below_ends k (x ∷ es) b = (b.0, below_ends k es b.1)

rising_ends : (es : List Arc) → IsRising ends_cmp es → Rises ends_cmp (map (λ a. a.0) es)
rising_ends [] r = tt
rising_ends (x ∷ es) r = (below_ends x.0 es r.0, rising_ends es r.1)

abbrev among : List (Node × Node) → Node × Node → Bool
among = has ends_cmp ends_total ends_exact

has_ends : (e : Node × Node) (es : List Arc) → among (map (λ a. a.0) es) e ≡ is_some (lookup ends_cmp e es)
has_ends e [] = refl
has_ends e (x ∷ es) =
    let rest = has_ends e es in
    elim (is_eq (ends_cmp e x.0)) as (λ b. (b || among (map (λ a. a.0) es) e) ≡ is_some (cond b (Some x.1) (lookup ends_cmp e es))) [ true ↦ refl | false ↦ rest ]

gone_value : (b : Bool) (o : Option (ℕ × ℕ)) → is_some (and_then (λ v. when (not b) v) o) ≡ (is_some o && not b)
gone_value true None = refl
gone_value true (Some v) = refl
gone_value false None = refl
gone_value false (Some v) = refl

same_gone : (o : Option (ℕ × ℕ)) → (is_some o && not (is_some o)) ≡ false
same_gone None = refl
same_gone (Some v) = refl

both_same : (b : Bool) → (b && not b) ≡ false
both_same true = refl
both_same false = refl

and_false : (b : Bool) → (b && false) ≡ false
and_false true = refl
and_false false = refl

and_yes : (b : Bool) → (b && true) ≡ b
and_yes true = refl
and_yes false = refl

turn : (a b : Bool) → (a && b) ≡ (b && a)
turn true true = refl
turn true false = refl
turn false true = refl
turn false false = refl

module _ (n m : Net) (nodes : List Node) (pairs : List (Node × Node)) (p : CanBeNet n) (q : CanBeNet m) (t : Touches n m nodes pairs) where
  gone_same : filter (gone_pair n m) pairs ≡ map (λ a. a.0) (gone_arcs n m)
  gone_same =
      same_rising ends_cmp ends_total ends_exact (filter (gone_pair n m) pairs) (map (λ a. a.0) (gone_arcs n m))
      (rises_kept ends_cmp ends_total ends_exact (gone_pair n m) pairs t.pairs_rise)
      (rising_ends (gone_arcs n m) (rising_kept ends_cmp ends_total ends_exact (λ (a : Arc). not (joins m a.0)) n.arcs p.arcs_rise))
      (λ e.
      has_kept ends_cmp ends_total ends_exact (gone_pair n m) e pairs
      ∙ elim (among pairs e) as (λ b. among pairs e ≡ b → (gone_pair n m e && b) ≡ gone_pair n m e) [
        | true ↦ λ _. and_yes (gone_pair n m e)
        | false ↦ λ f. and_false (gone_pair n m e) ∙ sym (ap (λ o. joins n e && not (is_some o)) (t.each_pair e f) ∙ both_same (joins n e))
      ] refl
      ∙ sym (gone_value (joins m e) (lookup ends_cmp e n.arcs))
      ∙ sym (ap (λ o. is_some o) (lookup_kept ends_cmp ends_total ends_exact (λ (a : Arc). not (joins m a.0)) e n.arcs p.arcs_rise))
      ∙ sym (has_ends e (gone_arcs n m)))

  abbrev stands_in : List Node → Node → Bool
  stands_in = has node_cmp node_total node_exact

  nodes_same : (x y : Net) → Rises node_cmp x.nodes → ((z : Node) → stands_in nodes z ≡ false → has_node y z ≡ has_node x z) → filter (λ z. has_node x z && not (has_node y z)) nodes ≡ filter (λ z. not (has_node y z)) x.nodes
  nodes_same x y r alike =
      same_rising node_cmp node_total node_exact (filter (λ z. has_node x z && not (has_node y z)) nodes) (filter (λ z. not (has_node y z)) x.nodes)
      (rises_kept node_cmp node_total node_exact (λ z. has_node x z && not (has_node y z)) nodes t.nodes_rise)
      (rises_kept node_cmp node_total node_exact (λ z. not (has_node y z)) x.nodes r)
      (λ z.
      has_kept node_cmp node_total node_exact (λ w. has_node x w && not (has_node y w)) z nodes
      ∙ elim (stands_in nodes z) as (λ b. stands_in nodes z ≡ b → ((has_node x z && not (has_node y z)) && b) ≡ (has_node x z && not (has_node y z))) [
        | true ↦ λ _. and_yes (has_node x z && not (has_node y z))
        | false ↦ λ f. and_false (has_node x z && not (has_node y z)) ∙ sym (ap (λ b. has_node x z && not b) (alike z f) ∙ both_same (has_node x z))
      ] refl
      ∙ turn (has_node x z) (not (has_node y z))
      ∙ sym (has_kept node_cmp node_total node_exact (λ w. not (has_node y w)) z x.nodes))

-- rows of values at pairs that rise
module _ (f : Node × Node → Option (ℕ × ℕ)) where
  abbrev row : Node × Node → Option Arc
  row e = option_map (λ v. (e, v)) (f e)

  below_rows : (k : Node × Node) (ps : List (Node × Node)) → IsBelowAll ends_cmp k ps → IsBelow ends_cmp k (filter_map row ps)
  below_rows k [] b = tt
  below_rows k (x ∷ ps) b = elim (f x) as (λ o. IsBelow ends_cmp k (cons_option (option_map (λ v. (x, v)) o) (filter_map row ps))) [ None ↦ below_rows k ps b.1 | Some v ↦ (b.0, below_rows k ps b.1) ]

  rising_rows : (ps : List (Node × Node)) → Rises ends_cmp ps → IsRising ends_cmp (filter_map row ps)
  rising_rows [] r = tt
  rising_rows (x ∷ ps) r = elim (f x) as (λ o. IsRising ends_cmp (cons_option (option_map (λ v. (x, v)) o) (filter_map row ps))) [ None ↦ rising_rows ps r.1 | Some v ↦ (below_rows x ps r.0, rising_rows ps r.1) ]

  lookup_rows : (e : Node × Node) (ps : List (Node × Node)) → Rises ends_cmp ps → lookup ends_cmp e (filter_map row ps) ≡ cond (among ps e) (f e) None
  lookup_rows e [] r = refl
  lookup_rows e (x ∷ ps) r =
      let rest = lookup_rows e ps r.1 in
      elim (f x) as (λ o. f x ≡ o → lookup ends_cmp e (cons_option (option_map (λ v. (x, v)) o) (filter_map row ps)) ≡ cond (is_eq (ends_cmp e x) || among ps e) (f e) None) [
        | None ↦ λ h. by_cases (ends_cmp e x) (λ c. lookup ends_cmp e (filter_map row ps) ≡ cond (is_eq c || among ps e) (f e) None)
            (λ _. rest)
            (λ u. let is = ends_exact e x u in ap (λ z. lookup ends_cmp z (filter_map row ps)) is ∙ lookup_below ends_cmp ends_total ends_exact x (filter_map row ps) (below_rows x ps r.0) ∙ sym (ap f is ∙ h))
            (λ _. rest)
        | Some v ↦ λ h. by_cases (ends_cmp e x) (λ c. cond (is_eq c) (Some v) (lookup ends_cmp e (filter_map row ps)) ≡ cond (is_eq c || among ps e) (f e) None)
            (λ _. rest)
            (λ u. sym (ap f (ends_exact e x u) ∙ h))
            (λ _. rest)
      ] refl

  as_edits : (ps : List (Node × Node)) → map put_of (filter_map row ps) ≡ filter_map (λ e. option_map (put_at e) (f e)) ps
  as_edits [] = refl
  as_edits (x ∷ ps) =
      let rest = as_edits ps in
      elim (f x) as (λ o. map put_of (cons_option (option_map (λ v. (x, v)) o) (filter_map row ps)) ≡ cons_option (option_map (put_at x) o) (filter_map (λ e. option_map (put_at e) (f e)) ps)) [
        | None ↦ rest
        | Some v ↦ ap (λ es. put_of (x, v) ∷ es) rest
      ]

module _ (n m : Net) (nodes : List Node) (pairs : List (Node × Node)) (p : CanBeNet n) (q : CanBeNet m) (t : Touches n m nodes pairs) where
  same_value_self : (v : ℕ × ℕ) → same_value v v ≡ true
  same_value_self v = rw (eq-eqb v.0 v.0 refl, eq-eqb v.1 v.1 refl) refl

  nothing_new : (o : Option (ℕ × ℕ)) → and_then (λ v. when (not (passes (same_value v) o)) v) o ≡ None
  nothing_new None = refl
  nothing_new (Some v) = rw (same_value_self v) refl

  new_same : filter_map (λ e. option_map (put_at e) (put_pair n m e)) pairs ≡ map put_of (new_arcs n m)
  new_same =
      sym (as_edits (put_pair n m) pairs)
      ∙ ap (λ es. map put_of es)
      (same_map ends_cmp ends_total ends_exact (filter_map (row (put_pair n m)) pairs) (new_arcs n m)
      (rising_rows (put_pair n m) pairs t.pairs_rise)
      (rising_kept ends_cmp ends_total ends_exact (λ (a : Arc). not (has_arc n a)) m.arcs q.arcs_rise)
      (λ e.
      lookup_rows (put_pair n m) e pairs t.pairs_rise
      ∙ elim (among pairs e) as (λ b. among pairs e ≡ b → cond b (put_pair n m e) None ≡ put_pair n m e) [
        | true ↦ λ _. refl
        | false ↦ λ f. sym (ap (λ o. and_then (λ v. when (not (passes (same_value v) (lookup ends_cmp e n.arcs))) v) o) (t.each_pair e f) ∙ nothing_new (lookup ends_cmp e n.arcs))
      ] refl
      ∙ sym (lookup_kept ends_cmp ends_total ends_exact (λ (a : Arc). not (has_arc n a)) e m.arcs q.arcs_rise)))

  -- the edits of what was touched are the change
  pub touched_is_change : touched_change n m nodes pairs ≡ change n m
  touched_is_change =
      let arcs : map (λ e. DropArc e.0 e.1) (filter (gone_pair n m) pairs) ≡ map drop_of (gone_arcs n m) = ap (map (λ e. DropArc e.0 e.1)) (gone_same n m nodes pairs p q t) ∙ map_map (λ (a : Arc). a.0) (λ (e : Node × Node). DropArc e.0 e.1) (gone_arcs n m) in
      let gone = ap (map DropNode) (nodes_same n m nodes pairs p q t n m p.nodes_rise t.each_node) in
      let came = ap (map PutNode) (nodes_same n m nodes pairs p q t m n q.nodes_rise (λ z f. sym (t.each_node z f))) in
      λ i. arcs i ++ (gone i ++ (came i ++ new_same i))
