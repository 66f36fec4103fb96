-- The change from one network to another may be made on the first, and gives the second.
use Rattle.std.specs.Prelude.{◌≡◌, ℕ, Bool, true, false, cond, not, ◌==◌, ◌&&◌, ◌||◌, List, [], ◌∷◌, ◌++◌, Option, Some, None, is_some, IsSome, map, refl}
use Rattle.std.specs.Ordering.{is_eq}
use Rattle.std.specs.Cmp.{IsTotalOrder}
use Rattle.std.specs.declared.cmp.Ordering.{Ordering}
use Rattle.std.specs.declared.cmp.Ordering.TheVariants.{Less, Greater}
use Rattle.std.proofs.Common.{sym, ap, ◌∙◌, subst, inl, inr}
use Rattle.std.proofs.lemmas.Bool.{eqb-true}
use Rattle.std.proofs.lemmas.Cmp.{tied_itself}
use Rattle.fm_lattice.specs.Chains.{TellsApart}
use Rattle.fm_lattice.specs.laws.ChainLaws.{by_cases, less_greater, greater_less}
use Rattle.fm_lattice.specs.Joins.{option_join}
use Rattle.fm_lattice.specs.Maps.{lookup, IsBelow, IsRising, put, keep_new}
use Rattle.fm_lattice.specs.laws.MapLaws.{lookup_below, same_map, rising_put, lookup_put}
use Rattle.fm_records.specs.Options.{when, and_then, passes}
use Rattle.fm_records.specs.Sets.{IsMember}
use Rattle.fm_records.specs.Rising.{IsBelowAll, Rises}
use Rattle.fm_net.specs.declared.node.Node.{Node}
use Rattle.fm_net.specs.declared.node.Node.TheVariants.{Sink, Unscheduled, Request, Machine, Task}
use Rattle.fm_net.specs.Nodes.{node_cmp, ends_cmp, IsInRange, IsRequestInRange}
use Rattle.fm_net.specs.laws.NodeOrder.{node_exact, node_total, ends_exact, ends_total}
use Rattle.fm_net.specs.Net.{Net, has_node, arc_at, IsTouched, CanBeNet, with_node, without_node, with_arc, without_arc, remove_node, remove_arc}
use Rattle.fm_net.proofs.ListLaws.{same_rising, has_member, passes_kept}
use Rattle.fm_net.specs.declared.edit.Edit.{Edit}
use Rattle.fm_net.specs.declared.edit.Edit.TheVariants.{DropNode, PutNode}
use Rattle.fm_net.specs.Edits.{Arc, after_edit, after_edits, MayPutArc, MayEdit, MayEditAll, joins, same_value, has_arc, gone_arcs, gone_nodes, new_nodes, new_arcs, drop_of, put_of, change}
use Rattle.fm_net.proofs.KeptLists.{rising_kept, lookup_kept, has, has_kept, has_inserted}
use Rattle.fm_records.proofs.TableLaws.{rises_insert}

none : {A P : Type 0} {a : A} → None ≡ Some a → P
none e = absurd (let no : ⊥ = cc in no)

-- What is left of a network's lists.

below_removed_node : (k n : Node) (ns : List Node) → IsBelowAll node_cmp k ns → IsBelowAll node_cmp k (remove_node n ns)
below_removed_node k n [] b = tt
below_removed_node k n (m ∷ ns) b = elim (is_eq (node_cmp n m)) as (λ c. IsBelowAll node_cmp k (cond c ns (m ∷ remove_node n ns))) [ true ↦ b.1 | false ↦ (b.0, below_removed_node k n ns b.1) ]

pub rises_removed : (n : Node) (ns : List Node) → Rises node_cmp ns → Rises node_cmp (remove_node n ns)
rises_removed n [] r = tt
rises_removed n (m ∷ ns) r = elim (is_eq (node_cmp n m)) as (λ c. Rises node_cmp (cond c ns (m ∷ remove_node n ns))) [ true ↦ r.1 | false ↦ (below_removed_node m n ns r.0, rises_removed n ns r.1) ]

has_below : (k : Node) (ns : List Node) → IsBelowAll node_cmp k ns → has node_cmp node_total node_exact ns k ≡ false
has_below k [] b = refl
has_below k (n ∷ ns) b = rw b.0 (has_below k ns b.1)

abbrev stands : List Node → Node → Bool
stands = has node_cmp node_total node_exact

-- the order of a pair that is not one
apart_less : (k n : Node) → node_cmp k n ≡ Less → is_eq (node_cmp n k) ≡ false
apart_less k n e = rw (less_greater node_cmp node_total k n e) refl

apart_greater : (k n : Node) → node_cmp k n ≡ Greater → is_eq (node_cmp n k) ≡ false
apart_greater k n e = rw (greater_less node_cmp node_total k n e) refl

stands_removed_other : (n k m : Node) (ns : List Node) → is_eq (node_cmp m n) ≡ false → stands (remove_node n ns) k ≡ (not (is_eq (node_cmp k n)) && stands ns k) → (is_eq (node_cmp k m) || stands (remove_node n ns) k) ≡ (not (is_eq (node_cmp k n)) && (is_eq (node_cmp k m) || stands ns k))
stands_removed_other n k m ns other rest =
    by_cases (node_cmp k m) (λ o. (is_eq o || stands (remove_node n ns) k) ≡ (not (is_eq (node_cmp k n)) && (is_eq o || stands ns k)))
    (λ _. rest)
    (λ t. let is : is_eq (node_cmp k n) ≡ false = ap (λ z. is_eq (node_cmp z n)) (node_exact k m t) ∙ other in rw is refl)
    (λ _. rest)

pub stands_removed : (n k : Node) (ns : List Node) → Rises node_cmp ns → stands (remove_node n ns) k ≡ (not (is_eq (node_cmp k n)) && stands ns k)
stands_removed n k [] r = elim (is_eq (node_cmp k n)) as (λ b. false ≡ (not b && false)) [ true ↦ refl | false ↦ refl ]
stands_removed n k (m ∷ ns) r =
    let rest = stands_removed n k ns r.1 in
    by_cases (node_cmp n m) (λ o. stands (cond (is_eq o) ns (m ∷ remove_node n ns)) k ≡ (not (is_eq (node_cmp k n)) && (is_eq (node_cmp k m) || stands ns k)))
    (λ e. stands_removed_other n k m ns (apart_less n m e) rest)
    (λ t.
    let is : n ≡ m = node_exact n m t in
    rw is (by_cases (node_cmp k m) (λ o. stands ns k ≡ (not (is_eq o) && (is_eq o || stands ns k)))
    (λ _. refl)
    (λ u. rw (node_exact k m u) (has_below m ns r.0))
    (λ _. refl)))
    (λ e. stands_removed_other n k m ns (apart_greater n m e) rest)

abbrev at : Node × Node → List Arc → Option (ℕ × ℕ)
at e arcs = lookup ends_cmp e arcs

below_removed_arc : (k e : Node × Node) (arcs : List Arc) → IsBelow ends_cmp k arcs → IsBelow ends_cmp k (remove_arc e arcs)
below_removed_arc k e [] b = tt
below_removed_arc k e (a ∷ arcs) b = elim (is_eq (ends_cmp e a.0)) as (λ c. IsBelow ends_cmp k (cond c arcs (a ∷ remove_arc e arcs))) [ true ↦ b.1 | false ↦ (b.0, below_removed_arc k e arcs b.1) ]

pub rising_removed : (e : Node × Node) (arcs : List Arc) → IsRising ends_cmp arcs → IsRising ends_cmp (remove_arc e arcs)
rising_removed e [] r = tt
rising_removed e (a ∷ arcs) r = elim (is_eq (ends_cmp e a.0)) as (λ c. IsRising ends_cmp (cond c arcs (a ∷ remove_arc e arcs))) [ true ↦ r.1 | false ↦ (below_removed_arc a.0 e arcs r.0, rising_removed e arcs r.1) ]

at_removed_other : (e q : Node × Node) (a : Arc) (arcs : List Arc) → is_eq (ends_cmp a.0 e) ≡ false → at q (remove_arc e arcs) ≡ cond (is_eq (ends_cmp q e)) None (at q arcs) → cond (is_eq (ends_cmp q a.0)) (Some a.1) (at q (remove_arc e arcs)) ≡ cond (is_eq (ends_cmp q e)) None (cond (is_eq (ends_cmp q a.0)) (Some a.1) (at q arcs))
at_removed_other e q a arcs other rest =
    by_cases (ends_cmp q a.0) (λ o. cond (is_eq o) (Some a.1) (at q (remove_arc e arcs)) ≡ cond (is_eq (ends_cmp q e)) None (cond (is_eq o) (Some a.1) (at q arcs)))
    (λ _. rest)
    (λ t. let is : is_eq (ends_cmp q e) ≡ false = ap (λ z. is_eq (ends_cmp z e)) (ends_exact q a.0 t) ∙ other in rw is refl)
    (λ _. rest)

nothing : (b : Bool) → ◌≡◌ {A = Option (ℕ × ℕ)} None (cond b None None)
nothing true = refl
nothing false = refl

pub at_removed : (e q : Node × Node) (arcs : List Arc) → IsRising ends_cmp arcs → at q (remove_arc e arcs) ≡ cond (is_eq (ends_cmp q e)) None (at q arcs)
at_removed e q [] r = nothing (is_eq (ends_cmp q e))
at_removed e q (a ∷ arcs) r =
    let rest = at_removed e q arcs r.1 in
    by_cases (ends_cmp e a.0) (λ o. at q (cond (is_eq o) arcs (a ∷ remove_arc e arcs)) ≡ cond (is_eq (ends_cmp q e)) None (cond (is_eq (ends_cmp q a.0)) (Some a.1) (at q arcs)))
    (λ l. at_removed_other e q a arcs (rw (less_greater ends_cmp ends_total e a.0 l) refl) rest)
    (λ t.
    let is : e ≡ a.0 = ends_exact e a.0 t in
    rw is (by_cases (ends_cmp q a.0) (λ o. at q arcs ≡ cond (is_eq o) None (cond (is_eq o) (Some a.1) (at q arcs)))
    (λ _. refl)
    (λ u. rw (ends_exact q a.0 u) (lookup_below ends_cmp ends_total ends_exact a.0 arcs r.0))
    (λ _. refl)))
    (λ g. at_removed_other e q a arcs (rw (greater_less ends_cmp ends_total e a.0 g) refl) rest)

-- what is put, over what was there
abbrev over : Option (ℕ × ℕ) → Option (ℕ × ℕ) → Option (ℕ × ℕ)
over None o = o
over (Some v) o = Some v

joined_replaced : (o : Option (ℕ × ℕ)) (b : Bool) (v : ℕ × ℕ) → option_join keep_new o (cond b (Some v) None) ≡ cond b (Some v) o
joined_replaced None true v = refl
joined_replaced None false v = refl
joined_replaced (Some w) true v = refl
joined_replaced (Some w) false v = refl

pub at_put : (e q : Node × Node) (v : ℕ × ℕ) (arcs : List Arc) → IsRising ends_cmp arcs → at q (put ends_cmp keep_new e v arcs) ≡ cond (is_eq (ends_cmp q e)) (Some v) (at q arcs)
at_put e q v arcs r = lookup_put ends_cmp ends_total ends_exact keep_new q e v arcs r ∙ joined_replaced (at q arcs) (is_eq (ends_cmp q e)) v

-- Edits one list after another.

pub after_both : (es fs : List Edit) (net : Net) → after_edits (es ++ fs) net ≡ after_edits fs (after_edits es net)
after_both [] fs net = refl
after_both (e ∷ es) fs net = after_both es fs (after_edit e net)

pub may_both : (es fs : List Edit) (net : Net) → MayEditAll net es → MayEditAll (after_edits es net) fs → MayEditAll net (es ++ fs)
may_both [] fs net a b = b
may_both (e ∷ es) fs net a b = (a.0, may_both es fs (after_edit e net) a.1 b)

-- First the arcs are dropped.

record Dropped (bs : List Arc) (net : Net) : Type 0 where
  pub nodes : (after_edits (map drop_of bs) net).nodes ≡ net.nodes
  pub rise : IsRising ends_cmp (after_edits (map drop_of bs) net).arcs
  pub arcs : (q : Node × Node) → at q (after_edits (map drop_of bs) net).arcs ≡ cond (is_some (at q bs)) None (at q net.arcs)
  pub may : MayEditAll net (map drop_of bs)

dropped_twice : (b c : Bool) (o : Option (ℕ × ℕ)) (v : ℕ × ℕ) (r : Option (ℕ × ℕ)) → is_some r ≡ c → cond c None (cond b None o) ≡ cond (is_some (cond b (Some v) r)) None o
dropped_twice true true o v r e = refl
dropped_twice true false o v r e = refl
dropped_twice false true o v r e = rw e refl
dropped_twice false false o v r e = rw e refl

dropped : (bs : List Arc) (net : Net) → IsRising ends_cmp net.arcs → Dropped bs net
dropped [] net r = record { nodes = refl; rise = r; arcs = λ q. refl; may = tt }
dropped (a ∷ bs) net r =
    let rest = dropped bs (without_arc a.0.0 a.0.1 net) (rising_removed a.0 net.arcs r) in
    record {
      nodes = rest.nodes;
      rise = rest.rise;
      arcs = λ q.
          rest.arcs q
          ∙ ap (λ o. cond (is_some (at q bs)) None o) (at_removed a.0 q net.arcs r)
          ∙ dropped_twice (is_eq (ends_cmp q a.0)) (is_some (at q bs)) (at q net.arcs) a.1 (at q bs) refl;
      may = (tt, rest.may);
    }

-- Then the nodes are dropped.

record Left (ns : List Node) (net : Net) : Type 0 where
  pub arcs : (after_edits (map DropNode ns) net).arcs ≡ net.arcs
  pub rise : Rises node_cmp (after_edits (map DropNode ns) net).nodes
  pub nodes : (q : Node) → stands (after_edits (map DropNode ns) net).nodes q ≡ (not (stands ns q) && stands net.nodes q)
  pub may : MayEditAll net (map DropNode ns)

abbrev MayLeave : Net → List Node → Type 0
MayLeave net ns = (n : Node) → IsMember n ns → (¬ (n ≡ Sink)) × (¬ IsTouched net n)

left_twice : (a b c : Bool) → (not b && (not a && c)) ≡ (not (a || b) && c)
left_twice true true c = refl
left_twice true false c = refl
left_twice false true c = refl
left_twice false false c = refl

left : (ns : List Node) (net : Net) → Rises node_cmp net.nodes → MayLeave net ns → Left ns net
left [] net r free = record { arcs = refl; rise = r; nodes = λ q. refl; may = tt }
left (n ∷ ns) net r free =
    let rest = left ns (without_node n net) (rises_removed n net.nodes r) (λ m h. free m (inr h)) in
    record {
      arcs = rest.arcs;
      rise = rest.rise;
      nodes = λ q.
          rest.nodes q
          ∙ ap (λ b. not (stands ns q) && b) (stands_removed n q net.nodes r)
          ∙ left_twice (is_eq (node_cmp q n)) (stands ns q) (stands net.nodes q);
      may = (free n (inl refl), rest.may);
    }

-- Then the nodes are put.

record Came (ns : List Node) (net : Net) : Type 0 where
  pub arcs : (after_edits (map PutNode ns) net).arcs ≡ net.arcs
  pub rise : Rises node_cmp (after_edits (map PutNode ns) net).nodes
  pub nodes : (q : Node) → stands (after_edits (map PutNode ns) net).nodes q ≡ (stands ns q || stands net.nodes q)
  pub may : MayEditAll net (map PutNode ns)

came_twice : (a b c : Bool) → (b || (a || c)) ≡ ((a || b) || c)
came_twice true true c = refl
came_twice true false c = refl
came_twice false true c = refl
came_twice false false c = refl

came : (ns : List Node) (net : Net) → Rises node_cmp net.nodes → ((n : Node) → IsMember n ns → MayEdit net (PutNode n)) → Came ns net
came [] net r fine = record { arcs = refl; rise = r; nodes = λ q. refl; may = tt }
came (n ∷ ns) net r fine =
    let rest = came ns (with_node n net) (rises_insert node_cmp node_total node_exact n net.nodes r) (λ m h. fine m (inr h)) in
    record {
      arcs = rest.arcs;
      rise = rest.rise;
      nodes = λ q.
          rest.nodes q
          ∙ ap (λ b. stands ns q || b) (has_inserted node_cmp node_total node_exact n q net.nodes)
          ∙ came_twice (is_eq (node_cmp q n)) (stands ns q) (stands net.nodes q);
      may = (fine n (inl refl), rest.may);
    }

-- Last the arcs are put.

record Put (bs : List Arc) (net : Net) : Type 0 where
  pub nodes : (after_edits (map put_of bs) net).nodes ≡ net.nodes
  pub rise : IsRising ends_cmp (after_edits (map put_of bs) net).arcs
  pub arcs : (q : Node × Node) → at q (after_edits (map put_of bs) net).arcs ≡ over (at q bs) (at q net.arcs)
  pub may : MayEditAll net (map put_of bs)

put_twice : (e q : Node × Node) (v : ℕ × ℕ) (bs : List Arc) (o : Option (ℕ × ℕ)) → IsBelow ends_cmp e bs → over (at q bs) (cond (is_eq (ends_cmp q e)) (Some v) o) ≡ over (cond (is_eq (ends_cmp q e)) (Some v) (at q bs)) o
put_twice e q v bs o b =
    by_cases (ends_cmp q e) (λ c. over (at q bs) (cond (is_eq c) (Some v) o) ≡ over (cond (is_eq c) (Some v) (at q bs)) o)
    (λ _. refl)
    (λ t. rw (ends_exact q e t, lookup_below ends_cmp ends_total ends_exact e bs b) refl)
    (λ _. refl)

placed : (bs : List Arc) (net : Net) → IsRising ends_cmp bs → IsRising ends_cmp net.arcs → ((a : Arc) → IsMember a bs → MayPutArc net a.0.0 a.0.1 a.1.0 a.1.1) → Put bs net
placed [] net s r fine = record { nodes = refl; rise = r; arcs = λ q. refl; may = tt }
placed (a ∷ bs) net s r fine =
    let rest = placed bs (with_arc a.0.0 a.0.1 a.1 net) s.1 (rising_put ends_cmp ends_total ends_exact keep_new a.0 a.1 net.arcs r)
    (λ b h. let f = fine b (inr h) in record { from_stands = f.from_stands; to_stands = f.to_stands; kinds = f.kinds; capacity_above = f.capacity_above; cost_within = f.cost_within }) in
    record {
      nodes = rest.nodes;
      rise = rest.rise;
      arcs = λ q.
          rest.arcs q
          ∙ ap (λ o. over (at q bs) o) (at_put a.0 q a.1 net.arcs r)
          ∙ put_twice a.0 q a.1 bs (at q net.arcs) s.0;
      may = (fine a (inl refl), rest.may);
    }

-- a member of a rising list is what is found at its key
module _ {K V : Type 0} (cmp : K → K → Ordering) (total : IsTotalOrder cmp) (same : TellsApart cmp) where
  below_member : (k : K) (a : K × V) (es : List (K × V)) → IsBelow cmp k es → IsMember a es → cmp k a.0 ≡ Less
  below_member k a [] b h = absurd h
  below_member k a (x ∷ es) b h = elim h [ inl is ↦ subst (λ (z : K × V). cmp k z.0 ≡ Less) is b.0 | inr later ↦ below_member k a es b.1 later ]

  pub member_found : (a : K × V) (es : List (K × V)) → IsRising cmp es → IsMember a es → lookup cmp a.0 es ≡ Some a.1
  member_found a [] r h = absurd h
  member_found a (x ∷ es) r h = elim h [
    | inl is ↦ subst (λ (z : K × V). lookup cmp z.0 (x ∷ es) ≡ Some z.1) is (rw (tied_itself total x.0) refl)
    | inr later ↦ let above = below_member x.0 a es r.0 later in rw (less_greater cmp total x.0 a.0 above) (member_found a es r.1 later)
  ]

not_both : {P : Type 0} (b : Bool) → b ≡ true → not b ≡ true → P
not_both true e f = absurd (let no : ⊥ = cc in no)
not_both false e f = absurd (let no : ⊥ = cc in no)

and_true : (a b : Bool) → a && b ≡ true → (a ≡ true) × (b ≡ true)
and_true true b e = (refl, e)
and_true false b e = cc

request_in_range : (n : Node) → IsInRange n → IsRequestInRange n
request_in_range Sink h = tt
request_in_range (Unscheduled j) h = tt
request_in_range (Request r) h = h
request_in_range (Machine m) h = tt
request_in_range (Task t) h = tt

left_value : (b : Bool) (o : Option (ℕ × ℕ)) → cond (is_some (and_then (λ v. when (not b) v) o)) None o ≡ cond b o None
left_value true None = refl
left_value true (Some v) = refl
left_value false None = refl
left_value false (Some v) = refl

both_nodes : (a b : Bool) → ((not a && b) || (not (not b && a) && a)) ≡ b
both_nodes true true = refl
both_nodes true false = refl
both_nodes false true = refl
both_nodes false false = refl

same_value_exact : (v w : ℕ × ℕ) → same_value v w ≡ true → v ≡ w
same_value_exact v w e =
    let both = and_true (v.0 == w.0) (v.1 == w.1) e in
    let first = eqb-true v.0 w.0 both.0 in
    let second = eqb-true v.1 w.1 both.1 in
    λ i. (first i, second i)

both_values : (x y : Option (ℕ × ℕ)) → over (and_then (λ v. when (not (passes (same_value v) x)) v) y) (cond (is_some y) x None) ≡ y
both_values None None = refl
both_values None (Some w) = refl
both_values (Some v) None = refl
both_values (Some v) (Some w) =
    elim (same_value w v) as (λ b. same_value w v ≡ b → over (when (not b) w) (Some v) ≡ Some w) [
      | true ↦ λ e. ap Some (sym (same_value_exact w v e))
      | false ↦ λ _. refl
    ] refl

when_some : {A : Type 0} (b : Bool) (v w : A) → when b v ≡ Some w → v ≡ w
when_some true v w e = cc
when_some false v w e = none e

kept_came : (p : ℕ × ℕ → Bool) (o : Option (ℕ × ℕ)) (w : ℕ × ℕ) → and_then (λ v. when (p v) v) o ≡ Some w → o ≡ Some w
kept_came p None w e = none e
kept_came p (Some v) w e = ap Some (when_some (p v) v w e)

module _ (n m : Net) (p : CanBeNet n) (q : CanBeNet m) where
  abbrev first : Net
  first = after_edits (map drop_of (gone_arcs n m)) n

  abbrev second : Net
  second = after_edits (map DropNode (gone_nodes n m)) first

  abbrev third : Net
  third = after_edits (map PutNode (new_nodes n m)) second

  abbrev last : Net
  last = after_edits (map put_of (new_arcs n m)) third

  arcs_dropped : Dropped (gone_arcs n m) n
  arcs_dropped = dropped (gone_arcs n m) n p.arcs_rise

  at_first : (e : Node × Node) → at e first.arcs ≡ cond (joins m e) (at e n.arcs) None
  at_first e =
      arcs_dropped.arcs e
      ∙ ap (λ o. cond (is_some o) None (at e n.arcs)) (lookup_kept ends_cmp ends_total ends_exact (λ (a : Arc). not (joins m a.0)) e n.arcs p.arcs_rise)
      ∙ left_value (joins m e) (at e n.arcs)

  -- what joins two nodes of the second network
  joined : (a b : Node) → joins m (a, b) ≡ true → (has_node m a ≡ true) × (has_node m b ≡ true)
  joined a b e =
      elim (arc_at m a b) as (λ o. arc_at m a b ≡ o → is_some o ≡ true → (has_node m a ≡ true) × (has_node m b ≡ true)) [
        | None ↦ λ _ h. absurd (let no : ⊥ = cc in no)
        | Some v ↦ λ is _. let arc = q.are_arcs a b v is in (arc.from_stands, arc.to_stands)
      ] refl e

  still_joined : (e : Node × Node) → IsSome (at e first.arcs) → joins m e ≡ true
  still_joined e h =
      elim (joins m e) as (λ b. at e first.arcs ≡ cond b (at e n.arcs) None → b ≡ true) [
        | true ↦ λ _. refl
        | false ↦ λ is. absurd (let some : is_some (at e first.arcs) ≡ true = h in let no : false ≡ true = sym (ap is_some is) ∙ some in let wrong : ⊥ = cc in wrong)
      ] (at_first e)

  may_leave : MayLeave first (gone_nodes n m)
  may_leave x h =
      let gone : not (has_node m x) ≡ true = passes_kept (λ y. not (has_node m y)) x n.nodes h in (
        (λ is. not_both (has_node m x) (ap (has_node m) is ∙ q.has_sink) gone),
        (λ t. elim t.1 [
          | inl s ↦ not_both (has_node m x) (joined x t.0 (still_joined (x, t.0) s)).0 gone
          | inr s ↦ not_both (has_node m x) (joined t.0 x (still_joined (t.0, x) s)).1 gone
        ]),
      )

  nodes_left : Left (gone_nodes n m) first
  nodes_left = left (gone_nodes n m) first (subst (Rises node_cmp) (sym arcs_dropped.nodes) p.nodes_rise) may_leave

  new_stands : (x : Node) → IsMember x (new_nodes n m) → has_node m x ≡ true
  new_stands x h =
      (and_true (not (has_node n x)) (has_node m x)
      (sym (has_kept node_cmp node_total node_exact (λ y. not (has_node n y)) x m.nodes)
      ∙ has_member node_cmp node_total node_exact x (new_nodes n m) h)).1

  nodes_came : Came (new_nodes n m) second
  nodes_came = came (new_nodes n m) second nodes_left.rise (λ x h. request_in_range x (q.in_range x (new_stands x h)))

  at_third : (x : Node) → has_node third x ≡ has_node m x
  at_third x =
      let gone = has_kept node_cmp node_total node_exact (λ y. not (has_node m y)) x n.nodes in
      let new = has_kept node_cmp node_total node_exact (λ y. not (has_node n y)) x m.nodes in
      nodes_came.nodes x
      ∙ ap (λ b. stands (new_nodes n m) x || b) (nodes_left.nodes x)
      ∙ ap (λ ns. stands (new_nodes n m) x || (not (stands (gone_nodes n m) x) && stands ns x)) arcs_dropped.nodes
      ∙ ap (λ b. b || (not (stands (gone_nodes n m) x) && has_node n x)) new
      ∙ ap (λ b. (not (has_node n x) && has_node m x) || (not b && has_node n x)) gone
      ∙ both_nodes (has_node n x) (has_node m x)

  third_arcs : third.arcs ≡ first.arcs
  third_arcs = nodes_came.arcs ∙ nodes_left.arcs

  new_at : (e : Node × Node) → at e (new_arcs n m) ≡ and_then (λ v. when (not (has_arc n (e, v))) v) (at e m.arcs)
  new_at e = lookup_kept ends_cmp ends_total ends_exact (λ (a : Arc). not (has_arc n a)) e m.arcs q.arcs_rise

  new_rise : IsRising ends_cmp (new_arcs n m)
  new_rise = rising_kept ends_cmp ends_total ends_exact (λ (a : Arc). not (has_arc n a)) m.arcs q.arcs_rise

  may_put : (a : Arc) → IsMember a (new_arcs n m) → MayPutArc third a.0.0 a.0.1 a.1.0 a.1.1
  may_put a h =
      let found = member_found ends_cmp ends_total ends_exact a (new_arcs n m) new_rise h in
      let stood = kept_came (λ v. not (has_arc n (a.0, v))) (at a.0 m.arcs) a.1 (sym (new_at a.0) ∙ found) in
      let is = q.are_arcs a.0.0 a.0.1 a.1 stood in
      record {
        from_stands = at_third a.0.0 ∙ is.from_stands;
        to_stands = at_third a.0.1 ∙ is.to_stands;
        kinds = is.kinds;
        capacity_above = is.capacity_above;
        cost_within = is.cost_within;
      }

  arcs_put : Put (new_arcs n m) third
  arcs_put = placed (new_arcs n m) third new_rise (subst (IsRising ends_cmp) (sym third_arcs) arcs_dropped.rise) may_put

  at_last : (e : Node × Node) → at e last.arcs ≡ at e m.arcs
  at_last e =
      arcs_put.arcs e
      ∙ ap (λ o. over o (at e third.arcs)) (new_at e)
      ∙ ap (λ bs. over (and_then (λ v. when (not (has_arc n (e, v))) v) (at e m.arcs)) (at e bs)) third_arcs
      ∙ ap (λ o. over (and_then (λ v. when (not (has_arc n (e, v))) v) (at e m.arcs)) o) (at_first e)
      ∙ both_values (at e n.arcs) (at e m.arcs)

  last_is : last ≡ m
  last_is =
      let nodes : last.nodes ≡ m.nodes = arcs_put.nodes ∙ same_rising node_cmp node_total node_exact third.nodes m.nodes nodes_came.rise q.nodes_rise at_third in
      let arcs : last.arcs ≡ m.arcs = same_map ends_cmp ends_total ends_exact last.arcs m.arcs arcs_put.rise q.arcs_rise at_last in
      λ i. record { nodes = nodes i; arcs = arcs i }

  pub change_gives : after_edits (change n m) n ≡ m
  change_gives =
      after_both (map drop_of (gone_arcs n m)) _ n
      ∙ after_both (map DropNode (gone_nodes n m)) _ first
      ∙ after_both (map PutNode (new_nodes n m)) _ second
      ∙ last_is

  pub change_may : MayEditAll n (change n m)
  change_may =
      may_both (map drop_of (gone_arcs n m)) _ n arcs_dropped.may
      (may_both (map DropNode (gone_nodes n m)) _ first nodes_left.may
      (may_both (map PutNode (new_nodes n m)) _ second nodes_came.may arcs_put.may))
