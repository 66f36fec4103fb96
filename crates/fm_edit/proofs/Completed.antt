-- The steps by which pairs are touched, put together.
use Rattle.std.proofs.Common.{◌≡◌, ◌∙◌, ℕ, Bool, true, false, cond, List, [], ◌∷◌, ◌++◌, Option, Some, None, refl, sym, ap}
use Rattle.std.specs.Prelude.{◌&&◌, ◌||◌, ◌==◌, not, filter, map, reverse, is_some, unwrap_or, IsTrue}
use Rattle.std.specs.List.{list_any}
use Rattle.std.specs.Ordering.{nat_cmp, is_eq, is_le}
use Rattle.std.specs.Cmp.{Equal-is, nat_cmp_total}
use Rattle.std.specs.declared.ops.Bound.TheVariants.{Included, Excluded}
use Rattle.std.specs.BTreeMap.{get}
use Rattle.std.specs.BTreeMap.Range.{range_contains}
use Rattle.std.proofs.lemmas.List.Sorted.{list_any-IsPermutation, IsPermutation-reverse}
use Rattle.fm_lattice.specs.laws.ChainLaws.{by_cases, greater_less, nat_same}
use Rattle.fm_lattice.specs.Maps.{lookup}
use Rattle.fm_net.specs.declared.node.Node.{Node}
use Rattle.fm_net.specs.declared.node.Node.TheVariants.{Request, Machine}
use Rattle.fm_net.specs.Nodes.{node_cmp}
use Rattle.fm_net.specs.laws.NodeOrder.{node_exact, node_total}
use Rattle.fm_net.specs.Net.{Net}
use Rattle.fm_net.proofs.KeptLists.{has_kept}
use Rattle.fm_net.specs.Touched.{is_among}
use Rattle.fm_edit.specs.declared.task_index.TaskIndex.{TaskIndex}
use Rattle.fm_edit.specs.declared.editor_state.EditorState.{EditorState}
use Rattle.fm_edit.specs.declared.affected.Touched.{Touched}
use Rattle.fm_edit.specs.CacheModel.{seen_in}
use Rattle.fm_edit.specs.TaskIndex.{sum_in}
use Rattle.fm_edit.specs.inner.Affected.{has_touched, AffectedGrows}
use Rattle.fm_edit.specs.inner.Completing.{Completes, AddsSink, AddsPlaces, AddsPreferring, AddsMachines, is_request_node, is_machine, waiting_in}
use Rattle.fm_edit.proofs.Ranges.{less_said, below_zero}

pub grows_then : (x y z : Touched) → AffectedGrows x y → AffectedGrows y z → AffectedGrows x z
grows_then x y z p q = record { nodes = λ n h. q.nodes n (p.nodes n h); pairs = λ a b h. q.pairs a b (p.pairs a b h) }

or_right : (a b : Bool) → b ≡ true → (a || b) ≡ true
or_right true b h = refl
or_right false b h = h

pub both_ways : {P : Type 0} (b : Bool) → b ≡ true → b ≡ false → P
both_ways true e f = absurd (let no : ⊥ = cc in no)
both_ways false e f = absurd (let no : ⊥ = cc in no)

-- what is left has one key fewer, at its end
ended : {V : Type 0} (m : ℕ) (es : List (ℕ × V)) (k : ℕ) (v : V) → is_some (lookup nat_cmp m (es ++ (k, v) ∷ [])) ≡ (is_some (lookup nat_cmp m es) || is_eq (nat_cmp m k))
ended m [] k v = elim (is_eq (nat_cmp m k)) as (λ b. is_some (cond b (Some v) None) ≡ (false || b)) [ true ↦ refl | false ↦ refl ]
ended m (e ∷ es) k v = let rest = ended m es k v in elim (is_eq (nat_cmp m e.0)) as (λ b. is_some (cond b (Some e.1) (lookup nat_cmp m (es ++ (k, v) ∷ []))) ≡ (is_some (cond b (Some e.1) (lookup nat_cmp m es)) || is_eq (nat_cmp m k))) [ true ↦ refl | false ↦ rest ]

pub ended_on : {V P : Type 0} (m : ℕ) (before left : List (ℕ × V)) (k : ℕ) (v : V) → before ≡ left ++ (k, v) ∷ [] → is_some (lookup nat_cmp m left) ≡ false → (m ≡ k → P) → (is_some (lookup nat_cmp m before) ≡ false → P) → P
ended_on {V} {P} m before left k v is none here rest =
    elim (is_eq (nat_cmp m k)) as (λ b. is_eq (nat_cmp m k) ≡ b → P) [
      | true ↦ λ t. here (nat_same m k ((Equal-is (nat_cmp m k)).0 t))
      | false ↦ λ f. rest (ap (λ es. is_some (lookup nat_cmp m es)) is ∙ ended m left k v ∙ (λ i. none i || f i))
    ] refl

in_requests : (q : ℕ) → range_contains node_cmp (Included (Request 0)) (Excluded (Machine 0)) (Request q) ≡ true
in_requests q = ap (λ b. b && true) (by_cases (nat_cmp 0 q) (λ o. nat_cmp 0 q ≡ o → is_le o ≡ true) (λ _ _. refl) (λ _ _. refl) (λ _ e. absurd (below_zero q (less_said q 0 (greater_less nat_cmp nat_cmp_total 0 q e)))) refl)

module _ {V : Type 0} (q : ℕ) where
  abbrev kept : Node × V → Bool
  kept e = range_contains node_cmp (Included (Request 0)) (Excluded (Machine 0)) e.0

  among_kept : (es : List (Node × V)) → is_some (lookup node_cmp (Request q) es) ≡ true → is_among node_cmp (map (λ e. e.0) (filter kept es)) (Request q) ≡ true
  among_kept [] h = absurd (let no : ⊥ = cc in no)
  among_kept (e ∷ es) h =
      let rest = among_kept es in
      elim (is_eq (node_cmp (Request q) e.0)) as (λ b. is_eq (node_cmp (Request q) e.0) ≡ b → is_some (cond b (Some e.1) (lookup node_cmp (Request q) es)) ≡ true → is_among node_cmp (map (λ e. e.0) (filter kept (e ∷ es))) (Request q) ≡ true) [
        | true ↦ λ t _.
            let is : Request q ≡ e.0 = node_exact (Request q) e.0 ((Equal-is (node_cmp (Request q) e.0)).0 t) in
            let here : kept e ≡ true = ap (λ n. range_contains node_cmp (Included (Request 0)) (Excluded (Machine 0)) n) (sym is) ∙ in_requests q in
            ap (λ b. is_among node_cmp (map (λ (e : Node × V). e.0) (cond b (e ∷ filter kept es) (filter kept es))) (Request q)) here ∙ ap (λ b. b || is_among node_cmp (map (λ (e : Node × V). e.0) (filter kept es)) (Request q)) t
        | false ↦ λ _ g. elim (kept e) as (λ b. is_among node_cmp (map (λ (e : Node × V). e.0) (cond b (e ∷ filter kept es) (filter kept es))) (Request q) ≡ true) [
          | true ↦ or_right (is_eq (node_cmp (Request q) e.0)) _ (rest g)
          | false ↦ rest g
        ]
      ] refl h

some_there : (o : Option ℕ) → not (unwrap_or o 0 == 0) ≡ true → is_some o ≡ true
some_there None h = h
some_there (Some v) h = refl

waits_among : (x : TaskIndex) (q : ℕ) → not (sum_in x (Request q) == 0) ≡ true → is_among node_cmp (waiting_in x) (Request q) ≡ true
waits_among x q h = among_kept q x.sums.entries (some_there (get node_cmp x.sums (Request q)) h)

backwards : (ns : List Node) (n : Node) → is_among node_cmp (reverse ns) n ≡ is_among node_cmp ns n
backwards ns n = sym (list_any-IsPermutation (λ m. is_eq (node_cmp n m)) ns (reverse ns) (IsPermutation-reverse ns))

-- what is touched or still to come, one step on, and in the end
pub walked_on : (e old now c : Bool) → (old ≡ true → now ≡ true) → (e ≡ true → now ≡ true) → (old || (e || c)) ≡ true → (now || c) ≡ true
walked_on e true now c keep new h = ap (λ b. b || c) (keep refl)
walked_on true false now c keep new h = ap (λ b. b || c) (new refl)
walked_on false false now c keep new h = or_right now c h

pub none_to_come : (now rest : Bool) → (now || rest) ≡ true → rest ≡ false → now ≡ true
none_to_come true rest h e = refl
none_to_come false rest h e = sym e ∙ h

-- a machine among nodes is one of the machines among them
machine_among : (m : ℕ) (ns : List Node) → is_among node_cmp ns (Machine m) ≡ true → list_any is_machine ns ≡ true
machine_among m [] h = absurd (let no : ⊥ = cc in no)
machine_among m (n ∷ ns) h =
    let rest = machine_among m ns in
    elim (is_eq (node_cmp (Machine m) n)) as (λ b. is_eq (node_cmp (Machine m) n) ≡ b → (b || is_among node_cmp ns (Machine m)) ≡ true → (is_machine n || list_any is_machine ns) ≡ true) [
      | true ↦ λ t _.
          let is : Machine m ≡ n = node_exact (Machine m) n ((Equal-is (node_cmp (Machine m) n)).0 t) in
          ap (λ x. is_machine x || list_any is_machine ns) (sym is)
      | false ↦ λ _ g. or_right (is_machine n) (list_any is_machine ns) (rest g)
    ] refl h

among_first : (xs ys : List Node) (n : Node) → is_among node_cmp xs n ≡ true → is_among node_cmp (xs ++ ys) n ≡ true
among_first [] ys n h = absurd (let no : ⊥ = cc in no)
among_first (x ∷ xs) ys n h =
    let rest = among_first xs ys n in
    elim (is_eq (node_cmp n x)) as (λ b. (b || is_among node_cmp xs n) ≡ true → (b || is_among node_cmp (xs ++ ys) n) ≡ true) [ true ↦ λ _. refl | false ↦ rest ] h

among_last : (xs ys : List Node) (n : Node) → is_among node_cmp ys n ≡ true → is_among node_cmp (xs ++ ys) n ≡ true
among_last [] ys n h = h
among_last (x ∷ xs) ys n h = or_right (is_eq (node_cmp n x)) (is_among node_cmp (xs ++ ys) n) (among_last xs ys n h)

module _ (memory : EditorState) (net : Net) (x0 x1 : Touched) (ns rs : List Node) where
  abbrev pub needed : List Node
  needed = reverse (waiting_in memory.index) ++ filter is_request_node x0.nodes.keys

  pub completes : ns ≡ x0.nodes.keys → (IsTrue (list_any is_machine x0.nodes.keys) → rs ≡ needed)
      → AffectedGrows x0 x1 → x1.nodes ≡ x0.nodes
      → ((n : Node) → is_among node_cmp ns n ≡ true → AddsSink n x1)
      → ((n : Node) → is_among node_cmp ns n ≡ true → AddsPlaces rs n x1)
      → ((n : Node) → is_among node_cmp ns n ≡ true → AddsPreferring memory.index n x1)
      → ((n : Node) → is_among node_cmp ns n ≡ true → AddsMachines memory net n x1)
      → Completes (seen_in memory.seen) memory.index net x0 x1
  completes ns_are rs_are grows same sinks places preferring machines =
      let among : (n : Node) → has_touched x0 n ≡ true → is_among node_cmp ns n ≡ true = λ n h. ap (λ ks. is_among node_cmp ks n) ns_are ∙ h in
      let listed : (q m : ℕ) → has_touched x0 (Machine m) ≡ true → is_among node_cmp needed (Request q) ≡ true → is_among node_cmp rs (Request q) ≡ true = λ q m hm h.
      ap (λ ks. is_among node_cmp ks (Request q)) (rs_are (machine_among m x0.nodes.keys hm)) ∙ h in
      record {
        nodes = same;
        grows = grows;
        sinks = λ n h l. sinks n (among n h) l;
        touched_places = λ q m hq hm. places (Machine m) (among (Machine m) hm) refl (Request q)
            (listed q m hm (among_last (reverse (waiting_in memory.index)) (filter is_request_node x0.nodes.keys) (Request q)
            (has_kept node_cmp node_total node_exact is_request_node (Request q) x0.nodes.keys ∙ hq)));
        waiting_places = λ q m w hm. places (Machine m) (among (Machine m) hm) refl (Request q)
            (listed q m hm (among_first (reverse (waiting_in memory.index)) (filter is_request_node x0.nodes.keys) (Request q)
            (backwards (waiting_in memory.index) (Request q) ∙ waits_among memory.index q w)));
        preferring = λ m t small h hm. preferring (Machine m) (among (Machine m) hm) m t refl small h;
        turned_places = λ q m hq apart there. machines (Request q) (among (Request q) hq) refl apart m there;
      }
