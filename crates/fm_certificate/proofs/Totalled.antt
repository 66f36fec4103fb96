-- Totals after a change at one node.
use Rattle.std.proofs.Common.{◌≡◌, ◌≤◌, ◌∙◌, ap, sym, refl, ℕ, ◌+◌, ◌-◌, true, false, cond, Some, None, List, arith}
use Rattle.std.specs.Prelude.{Bool, Option}
use Rattle.std.specs.Ordering.{is_eq}
use Rattle.std.proofs.lemmas.Cmp.{tied_back}
use Rattle.fm_lattice.specs.Joins.{option_join}
use Rattle.fm_lattice.specs.laws.ChainLaws.{by_cases, less_greater, greater_less}
use Rattle.fm_lattice.specs.Maps.{lookup, put, keep_new, IsRising}
use Rattle.fm_lattice.specs.laws.MapLaws.{lookup_put}
use Rattle.fm_records.specs.Options.{or_else}
use Rattle.fm_net.specs.declared.node.Node.{Node}
use Rattle.fm_net.specs.Nodes.{node_cmp}
use Rattle.fm_net.specs.laws.NodeOrder.{node_exact, node_total}
use Rattle.fm_net.specs.NetworkEquality.{same_node}
use Rattle.fm_certificate.specs.Totals.{total_in}
use Rattle.fm_certificate.proofs.Alike.{same_is}

-- the totals are as they were, and the total of one node is set
abbrev pub IsSet : List (Node × ℕ) → List (Node × ℕ) → Node → ℕ → Type 0
IsSet old new node total = (n : Node) → lookup node_cmp n new ≡ cond (is_eq (node_cmp node n)) (Some total) (lookup node_cmp n old)

swapped : (a b : Node) → is_eq (node_cmp a b) ≡ is_eq (node_cmp b a)
swapped a b =
    by_cases (node_cmp a b) (λ o. node_cmp a b ≡ o → is_eq o ≡ is_eq (node_cmp b a))
    (λ _ e. sym (ap is_eq (less_greater node_cmp node_total a b e)))
    (λ _ e. sym (ap is_eq (tied_back node_total a b e)))
    (λ _ e. sym (ap is_eq (greater_less node_cmp node_total a b e)))
    refl

replaced : (old : Option ℕ) (here : Bool) (total : ℕ) → option_join keep_new old (cond here (Some total) None) ≡ cond here (Some total) old
replaced None true total = refl
replaced None false total = refl
replaced (Some n) true total = refl
replaced (Some n) false total = refl

-- a put in a list in order sets the total
pub set_put : (old : List (Node × ℕ)) (node : Node) (total : ℕ) → IsRising node_cmp old → IsSet old (put node_cmp keep_new node total old) node total
set_put old node total order n =
    lookup_put node_cmp node_total node_exact keep_new n node total old order
    ∙ replaced (lookup node_cmp n old) (is_eq (node_cmp n node)) total
    ∙ ap (λ here. cond here (Some total) (lookup node_cmp n old)) (swapped n node)

module _ (old new : List (Node × ℕ)) (node : Node) where
  pub set_is : (total : ℕ) → IsSet old new node total → (n : Node) → total_in new n ≡ cond (is_eq (node_cmp node n)) total (total_in old n)
  set_is total h n = ap (or_else 0) (h n) ∙ elim (is_eq (node_cmp node n)) as (λ b. or_else 0 (cond b (Some total) (lookup node_cmp n old)) ≡ cond b total (total_in old n)) [ true ↦ refl | false ↦ refl ]

  pub room_made : IsSet old new node 0 → lookup node_cmp node old ≡ None → (n : Node) → total_in new n ≡ total_in old n
  room_made h none n =
      set_is 0 h n
      ∙ by_cases (node_cmp node n) (λ o. cond (is_eq o) 0 (total_in old n) ≡ total_in old n)
      (λ _. refl)
      (λ e. let is = node_exact node n e in sym (ap (λ m. total_in old m) (sym is) ∙ ap (or_else 0) none))
      (λ _. refl)

  pub changed : (less more total : ℕ) → IsSet old new node total → less ≤ total_in old node → total ≡ total_in old node - less + more → (n : Node) → total_in new n + cond (same_node node n) less 0 ≡ total_in old n + cond (same_node node n) more 0
  changed less more total h part is n =
      rw (set_is total h n, same_is node n)
      (by_cases (node_cmp node n) (λ o. cond (is_eq o) total (total_in old n) + cond (is_eq o) less 0 ≡ total_in old n + cond (is_eq o) more 0)
      (λ _. refl)
      (λ e. let same : total_in old node ≡ total_in old n = ap (total_in old) (node_exact node n e) in omega arith)
      (λ _. refl))
