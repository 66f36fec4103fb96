-- Arcs by the IDs of their ends, and networks with one more arc.
use Rattle.std.proofs.Common.{◌≡◌, ℕ, zero, suc, ◌+◌, ◌-◌, ◌^◌, ◌<◌, ◌≤◌, List, [], ◌∷◌, ◌++◌, Option, Some, None, length, get_or, refl, sym, ap, subst, ◌∙◌, inl, inr, arith}
use Rattle.std.specs.Prelude.{IsTrue}
use Rattle.std.specs.List.{AllByRecursion}
use Rattle.std.specs.Cmp.{IsTotalOrder}
use Rattle.std.specs.Ordering.{on}
use Rattle.std.specs.declared.cmp.Ordering.{Ordering}
use Rattle.std.specs.declared.cmp.Ordering.TheVariants.{Less, Equal, Greater}
use Rattle.std.proofs.lemmas.Cmp.{tied_itself}
use Rattle.std.proofs.lemmas.List.{get_or_default, length-append}
use Rattle.fm_lattice.specs.laws.ChainLaws.{less_greater}
use Rattle.fm_lattice.specs.Maps.{put, keep_new, IsBelow, IsRising}
use Rattle.fm_records.specs.Sets.{IsMember, insert_once}
use Rattle.fm_records.proofs.TableLaws.{some_none}
use Rattle.fm_records.specs.Rising.{IsBelowAll, Rises}
use Rattle.fm_net.specs.declared.node.Node.{Node}
use Rattle.fm_net.specs.declared.node.Node.TheVariants.{Sink}
use Rattle.fm_net.specs.Nodes.{node_cmp, ends_cmp, IsInRange}
use Rattle.fm_net.specs.laws.NodeOrder.{node_total, node_exact, ends_total}
use Rattle.fm_net.specs.Net.{IsArc, IsArcKind, has_node}
use Rattle.fm_net.proofs.ListLaws.{has_member, member_has}
use Rattle.fm_dimacs.specs.Text.{id_in, arc_line}
use Rattle.fm_dimacs.specs.Syntax.{LineState, Comments, Body, Allows, Reaches, IsAfterLast, IsNextNode, BreaksAfter}
use Rattle.fm_dimacs.specs.inner.Scan.{IsArcAmong, IsAfter, ids_of, numbers_at}
use Rattle.fm_dimacs.proofs.Ids.{id_below, id_least, id_tells}
use Rattle.fm_dimacs.proofs.Placed.{id_at}
use Rattle.fm_dimacs.proofs.Leading.{Arc, nodes_of, ids_fit}
use Rattle.fm_dimacs.proofs.Lasting.{leads_more}
use Rattle.fm_dimacs.proofs.Verdict.{broken_here, broken_behind}
use Rattle.fm_dimacs.proofs.ReadLines.{numbers_line, numbers_take, numbers_again}

-- ---- nodes by ID

member_at : (nodes : List Node) (i : ℕ) (d : Node) → i < length nodes → IsMember (get_or nodes i d) nodes
member_at [] i d h = absurd (omega arith)
member_at (m ∷ ms) zero d h = inl refl
member_at (m ∷ ms) (suc i) d h = inr (member_at ms i d (omega arith))

pub node_found : (nodes : List Node) (id : ℕ) (n : Node) → Rises node_cmp nodes → (id ≡ 0 → ⊥) → id - 1 < length nodes → n ≡ get_or nodes (id - 1) n → IsTrue (has_node (record { nodes = nodes; arcs = [] }) n) × (id_in nodes n ≡ id)
node_found nodes id n r some place is =
    let same : (d : Node) → node_cmp (get_or nodes (id - 1) d) n ≡ Equal = λ d. ap (λ m. node_cmp m n) (get_or_default nodes (id - 1) d n place ∙ sym is) ∙ tied_itself node_total n in
    let member = subst (λ m. IsMember m nodes) (sym is) (member_at nodes (id - 1) n place) in
    (has_member node_cmp node_total node_exact n nodes member, id_at 1 nodes n (id - 1) r place same ∙ omega arith)

pub node_missing : (nodes : List Node) (id : ℕ) → length nodes ≤ id - 1 → (n : Node) → IsTrue (has_node (record { nodes = nodes; arcs = [] }) n) → id_in nodes n ≡ id → ⊥
node_missing nodes id few n stands is =
    let below = id_below 1 nodes n (omega arith) in
    let least = id_least 1 nodes n (member_has node_cmp node_total node_exact n nodes stands) in
    omega arith

pub no_node_0 : (nodes : List Node) (n : Node) → IsTrue (has_node (record { nodes = nodes; arcs = [] }) n) → id_in nodes n ≡ 0 → ⊥
no_node_0 nodes n stands is = let least = id_least 1 nodes n (member_has node_cmp node_total node_exact n nodes stands) in omega arith

-- ---- nodes that were read rise and are in range

module _ {X : Type 0} (cmp : X → X → Ordering) (total : IsTotalOrder cmp) where
  below_all : (x y : X) (ys : List X) → cmp x y ≡ Less → IsBelowAll cmp y ys → IsBelowAll cmp x ys
  below_all x y [] e b = tt
  below_all x y (z ∷ ys) e b = (total.trans x y z e b.0, below_all x y ys e b.1)

  rises_more : (xs : List X) (n : X) → Rises cmp xs → IsAfterLast cmp xs n → Rises cmp (xs ++ (n ∷ []))
  rises_more [] n r h = (tt, tt)
  rises_more (x ∷ []) n r h = ((h, tt), (tt, tt))
  rises_more (x ∷ y ∷ ys) n r h =
      let rest = rises_more (y ∷ ys) n r.1 h in
      ((r.0.0, below_all x y (ys ++ (n ∷ [])) r.0.0 rest.0), rest)

all_more : {X : Type 0} (P : X → Type 0) (xs : List X) (n : X) → AllByRecursion P xs → P n → AllByRecursion P (xs ++ (n ∷ []))
all_more P [] n all h = (h, tt)
all_more P (x ∷ xs) n all h = (all.0, all_more P xs n all.1 h)

pub record Sound (nodes : List Node) : Type 0 where
  pub rise : Rises node_cmp nodes
  pub in_range : AllByRecursion IsInRange nodes

next_sound : (nodes : List Node) (n : Node) → Sound nodes → IsNextNode nodes n → Sound (nodes ++ (n ∷ []))
next_sound [] n s h = record { rise = (tt, tt); in_range = (subst IsInRange (sym h) tt, tt) }
next_sound (m ∷ ms) n s h = record { rise = rises_more node_cmp node_total (m ∷ ms) n s.rise h.0; in_range = all_more IsInRange (m ∷ ms) n s.in_range h.1 }

step_sound : (p q : LineState) (line : List ℕ) → Sound (nodes_of p) → Allows p line q → Sound (nodes_of q)
step_sound (Comments nodes) q line s h = elim h [
  | inl x ↦ subst (λ z. Sound (nodes_of z)) (sym x.3) (next_sound nodes x.0 s x.1)
  | inr x ↦ subst (λ z. Sound (nodes_of z)) (sym x.4) s
]
step_sound (Body nodes (u ∷ us) arcs left) q line s h = subst (λ z. Sound (nodes_of z)) (sym h.1) s
step_sound (Body nodes [] arcs (suc left)) q line s h = subst (λ z. Sound (nodes_of z)) (sym h.3) s
step_sound (Body nodes [] arcs zero) q line s h = absurd h

leads_sound : (k : ℕ) (p q : LineState) (text rest : List ℕ) → Sound (nodes_of p) → Reaches k p text q rest → Sound (nodes_of q)
leads_sound zero p q text rest s h = subst (λ z. Sound (nodes_of z)) h.0 s
leads_sound (suc k) p q text rest s h = leads_sound k h.1 q h.2 rest (step_sound p h.1 h.0 s h.4) h.5

pub read_sound : (k : ℕ) (nodes : List Node) (text rest : List ℕ) → Reaches k (Comments []) text (Comments nodes) rest → Sound nodes
read_sound k nodes text rest h = leads_sound k (Comments []) (Comments nodes) text rest (record { rise = tt; in_range = tt }) h

-- the first node is the sink
first_next : (nodes : List Node) (n : Node) → IsNextNode nodes n → ((d : Node) → 0 < length nodes → get_or nodes 0 d ≡ Sink) → (d : Node) → get_or (nodes ++ (n ∷ [])) 0 d ≡ Sink
first_next [] n h first d = h
first_next (m ∷ ms) n h first d = first d (omega arith)

step_first : (p q : LineState) (line : List ℕ) → ((d : Node) → 0 < length (nodes_of p) → get_or (nodes_of p) 0 d ≡ Sink) → Allows p line q → (d : Node) → 0 < length (nodes_of q) → get_or (nodes_of q) 0 d ≡ Sink
step_first (Comments nodes) q line first h = elim h [
  | inl x ↦ subst (λ z. (d : Node) → 0 < length (nodes_of z) → get_or (nodes_of z) 0 d ≡ Sink) (sym x.3) (λ d some. first_next nodes x.0 x.1 first d)
  | inr x ↦ subst (λ z. (d : Node) → 0 < length (nodes_of z) → get_or (nodes_of z) 0 d ≡ Sink) (sym x.4) first
]
step_first (Body nodes (u ∷ us) arcs left) q line first h = subst (λ z. (d : Node) → 0 < length (nodes_of z) → get_or (nodes_of z) 0 d ≡ Sink) (sym h.1) first
step_first (Body nodes [] arcs (suc left)) q line first h = subst (λ z. (d : Node) → 0 < length (nodes_of z) → get_or (nodes_of z) 0 d ≡ Sink) (sym h.3) first
step_first (Body nodes [] arcs zero) q line first h = absurd h

pub leads_first : (k : ℕ) (p q : LineState) (text rest : List ℕ) → ((d : Node) → 0 < length (nodes_of p) → get_or (nodes_of p) 0 d ≡ Sink) → Reaches k p text q rest → (d : Node) → 0 < length (nodes_of q) → get_or (nodes_of q) 0 d ≡ Sink
leads_first zero p q text rest first h = subst (λ z. (d : Node) → 0 < length (nodes_of z) → get_or (nodes_of z) 0 d ≡ Sink) h.0 first
leads_first (suc k) p q text rest first h = leads_first k h.1 q h.2 rest (step_first p h.1 h.0 first h.4) h.5

-- ---- one more in a network

pub insert_last : (ns ms : List Node) (n : Node) → Rises node_cmp (ns ++ (n ∷ ms)) → insert_once node_cmp n ns ≡ ns ++ (n ∷ [])
insert_last [] ms n r = refl
insert_last (m ∷ ns) ms n r =
    let greater : node_cmp n m ≡ Greater = less_greater node_cmp node_total m n (below_here ns r.0) in
    rw greater (ap (λ l. m ∷ l) (insert_last ns ms n r.1))
  where
    below_here : (before : List Node) → IsBelowAll node_cmp m (before ++ (n ∷ ms)) → node_cmp m n ≡ Less
    below_here [] b = b.0
    below_here (x ∷ xs) b = below_here xs b.1

-- the ends of the last arc
abbrev pub last_ends : List Arc → Option (Node × Node)
last_ends [] = None
last_ends (a ∷ []) = Some a.0
last_ends (a ∷ b ∷ more) = last_ends (b ∷ more)

pub last_more : (arcs : List Arc) (a : Arc) → last_ends (arcs ++ (a ∷ [])) ≡ Some a.0
last_more [] a = refl
last_more (x ∷ []) a = refl
last_more (x ∷ y ∷ more) a = last_more (y ∷ more) a

pub after_last : (arcs : List Arc) (a : Arc) → IsAfterLast (on (λ e. e.0) ends_cmp) arcs a → IsAfter (last_ends arcs) a
after_last [] a h = tt
after_last (x ∷ []) a h = h
after_last (x ∷ y ∷ more) a h = after_last (y ∷ more) a h

pub is_after_last : (arcs : List Arc) (a : Arc) → IsAfter (last_ends arcs) a → IsAfterLast (on (λ e. e.0) ends_cmp) arcs a
is_after_last [] a h = tt
is_after_last (x ∷ []) a h = h
is_after_last (x ∷ y ∷ more) a h = is_after_last (y ∷ more) a h

last_below : (x : Node × Node) (y : Arc) (more : List Arc) (a : Arc) → ends_cmp x y.0 ≡ Less → IsBelow ends_cmp x more → IsAfterLast (on (λ e. e.0) ends_cmp) (y ∷ more) a → ends_cmp x a.0 ≡ Less
last_below x y [] a e b h = ends_total.trans x y.0 a.0 e h
last_below x y (z ∷ more) a e b h = last_below x z more a b.0 b.1 h

pub put_last : (arcs : List Arc) (from to : Node) (arc : ℕ × ℕ) → IsRising ends_cmp arcs → IsAfterLast (on (λ e. e.0) ends_cmp) arcs ((from, to), arc) → put ends_cmp keep_new (from, to) arc arcs ≡ arcs ++ (((from, to), arc) ∷ [])
put_last [] from to arc r h = refl
put_last (x ∷ []) from to arc r h =
    let greater : ends_cmp (from, to) x.0 ≡ Greater = less_greater ends_cmp ends_total x.0 (from, to) h in
    rw greater refl
put_last (x ∷ y ∷ more) from to arc r h =
    let greater : ends_cmp (from, to) x.0 ≡ Greater = less_greater ends_cmp ends_total x.0 (from, to) (last_below x.0 y more ((from, to), arc) r.0.0 r.0.1 h) in
    rw greater (ap (λ l. x ∷ l) (put_last (y ∷ more) from to arc r.1 h))

-- what is known of an arc whose IDs are those of two nodes
pub record Known (from to : Node) (numbers : ℕ × ℕ × ℕ × ℕ) : Type 0 where
  pub kinds : IsArcKind from to
  pub capacity : 1 ≤ numbers.2
  pub cost : numbers.3 ≤ 1000000000

pub known : (nodes : List Node) (a : Arc) (numbers : ℕ × ℕ × ℕ × ℕ) (from to : Node) → IsArcAmong nodes a → ids_of nodes a ≡ numbers
    → IsTrue (has_node (record { nodes = nodes; arcs = [] }) from) × (id_in nodes from ≡ numbers.0) → IsTrue (has_node (record { nodes = nodes; arcs = [] }) to) × (id_in nodes to ≡ numbers.1) → Known from to numbers
known nodes a numbers from to is e f t =
    let first : a.0.0 ≡ from = id_tells 1 nodes a.0.0 from (member_has node_cmp node_total node_exact a.0.0 nodes is.from_stands) (member_has node_cmp node_total node_exact from nodes f.0) (ap (λ x. x.0) e ∙ sym f.1) in
    let second : a.0.1 ≡ to = id_tells 1 nodes a.0.1 to (member_has node_cmp node_total node_exact a.0.1 nodes is.to_stands) (member_has node_cmp node_total node_exact to nodes t.0) (ap (λ x. x.1) e ∙ sym t.1) in
    record {
      kinds = subst (λ n. IsArcKind n to) first (subst (IsArcKind a.0.0) second is.kinds);
      capacity = omega (arith, is.capacity_above, ap (λ x. x.2) e);
      cost = omega (arith, is.cost_within, ap (λ x. x.3) e);
    }

-- ---- lines of arcs

pub no_numbers : (nodes : List Node) (text : List ℕ) (a : Arc) (behind : List ℕ) → length nodes < 2 ^ 64 → IsArcAmong nodes a → numbers_at text ≡ None → text ≡ arc_line nodes a ++ behind → ⊥
no_numbers nodes text a behind few is none e =
    some_none (ids_of nodes a, behind) (sym (numbers_again (ids_of nodes a) behind (ids_fit nodes [] a few is)) ∙ sym (ap numbers_at e) ∙ none)

pub same_numbers : (nodes : List Node) (text : List ℕ) (a : Arc) (behind : List ℕ) (x : (ℕ × ℕ × ℕ × ℕ) × List ℕ) → length nodes < 2 ^ 64 → IsArcAmong nodes a → numbers_at text ≡ Some x → text ≡ arc_line nodes a ++ behind → ids_of nodes a ≡ x.0
same_numbers nodes text a behind x few is found e =
    let same : (ids_of nodes a, behind) ≡ x = some_is (ids_of nodes a, behind) x (sym (numbers_again (ids_of nodes a) behind (ids_fit nodes [] a few is)) ∙ sym (ap numbers_at e) ∙ found) in
    ap (λ y. y.0) same
  where
    some_is : {A : Type 0} (y z : A) → Some y ≡ Some z → y ≡ z
    some_is y z g = cc

pub arc_stands : (nodes : List Node) (text : List ℕ) (a : Arc) (x : (ℕ × ℕ × ℕ × ℕ) × List ℕ) → ids_of nodes a ≡ x.0 → numbers_at text ≡ Some x → text ≡ arc_line nodes a ++ x.1
arc_stands nodes text a x same found = (numbers_take text x found).0 ∙ ap (λ n. numbers_line n ++ x.1) (sym same)

with_others : (nodes : List Node) (others more : List Arc) (a : Arc) → IsArc (record { nodes = nodes; arcs = others }) a.0.0 a.0.1 a.1 → IsArc (record { nodes = nodes; arcs = more }) a.0.0 a.0.1 a.1
with_others nodes others more a is =
    record { from_stands = is.from_stands; to_stands = is.to_stands; kinds = is.kinds; capacity_above = is.capacity_above; capacity_fits = is.capacity_fits; cost_within = is.cost_within }

-- behind these arcs, of which one more is to come, no line of an arc stands that may
pub arc_broken : (nodes : List Node) (arcs : List Arc) (left done lines line : ℕ) (last : Option (Node × Node)) (text rest : List ℕ) → line ≡ lines + done + 1 → done < left → last ≡ last_ends arcs
    → Reaches done (Body nodes [] [] left) text (Body nodes [] arcs (left - done)) rest
    → ((a : Arc) (behind : List ℕ) → IsArcAmong nodes a → IsAfter last a → rest ≡ arc_line nodes a ++ behind → ⊥) → BreaksAfter lines (Body nodes [] [] left) text line
arc_broken nodes arcs left done lines line last text rest number more is leads none =
    let one : left - done ≡ suc (left - done - 1) = omega arith in
    let here : Reaches done (Body nodes [] [] left) text (Body nodes [] arcs (suc (left - done - 1))) rest = subst (λ k. Reaches done (Body nodes [] [] left) text (Body nodes [] arcs k) rest) one leads in
    broken_behind lines done line (Body nodes [] [] left) (Body nodes [] arcs (suc (left - done - 1))) text rest here
    (broken_here (lines + done) line (Body nodes [] arcs (suc (left - done - 1))) rest number (record {
      no_line = λ l behind next e h. none h.0 behind (with_others nodes arcs [] h.0 h.1.0) (subst (λ ends. IsAfter ends h.0) (sym is) (after_last arcs h.0 h.1.1)) (e ∙ (λ i. h.2 i ++ behind));
      no_end = λ h. h;
    }))

-- one more arc
pub arc_leads : (nodes : List Node) (arcs all : List Arc) (left done : ℕ) (last : Option (Node × Node)) (text rest behind : List ℕ) (a : Arc) → done < left → last ≡ last_ends arcs
    → Reaches done (Body nodes [] [] left) text (Body nodes [] arcs (left - done)) rest → IsArcAmong nodes a → IsAfter last a → rest ≡ arc_line nodes a ++ behind → all ≡ arcs ++ (a ∷ [])
    → Reaches (done + 1) (Body nodes [] [] left) text (Body nodes [] all (left - (done + 1))) behind
arc_leads nodes arcs all left done last text rest behind a more is leads arc after e whole =
    let one : left - done ≡ suc (left - (done + 1)) = omega arith in
    let here : Reaches done (Body nodes [] [] left) text (Body nodes [] arcs (suc (left - (done + 1)))) rest = subst (λ k. Reaches done (Body nodes [] [] left) text (Body nodes [] arcs k) rest) one leads in
    leads_more done (Body nodes [] [] left) (Body nodes [] arcs (suc (left - (done + 1)))) (Body nodes [] all (left - (done + 1))) text rest (arc_line nodes a) behind here e
    (a, (with_others nodes [] arcs a arc, is_after_last arcs a (subst (λ ends. IsAfter ends a) is after)), refl, ap (λ list. Body nodes [] list (left - (done + 1))) whole)

pub arc_room : (nodes : List Node) (a : Arc) (rest behind : List ℕ) → rest ≡ arc_line nodes a ++ behind → 1 + length behind ≤ length rest
arc_room nodes a rest behind e = let whole = length-append (arc_line nodes a) behind in omega (arith, ap length e)
