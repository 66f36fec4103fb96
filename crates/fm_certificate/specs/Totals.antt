-- What a flow keeps beside its units: what leaves and what enters each node.
use Rattle.std.specs.Prelude.{◌≡◌, ℕ, ◌<◌, ◌^◌, cond, List}
use Rattle.std.specs.List.{sum_by}
use Rattle.fm_lattice.specs.Maps.{lookup, IsRising, AreValues}
use Rattle.fm_records.specs.Options.{or_else}
use Rattle.fm_net.specs.declared.node.Node.{Node}
use Rattle.fm_net.specs.Nodes.{node_cmp, ends_cmp}
use Rattle.fm_net.specs.NetworkEquality.{same_node}

-- units by the ends of their arc
abbrev pub Entry : Type 0
Entry = (Node × Node) × ℕ

-- the entry that a walk gives
abbrev pub walk_entry : Node × Node × ℕ → Entry
walk_entry e = ((e.0, e.1), e.2)

abbrev pub source : Node × Node → Node
source ends = ends.0

abbrev pub target : Node × Node → Node
target ends = ends.1

-- the units of the entries that have this end at the node
abbrev pub units_at : (Node × Node → Node) → List Entry → Node → ℕ
units_at end flow n = sum_by (λ e. cond (same_node (end e.0) n) e.1 0) flow

-- the total of a node; 0 if there is none
abbrev pub total_in : List (Node × ℕ) → Node → ℕ
total_in totals n = or_else 0 (lookup node_cmp n totals)

-- the units rise by their ends and fit, and the totals, in node order, are what enters
pub record IsTotalled (flow : List Entry) (entering : List (Node × ℕ)) : Type 0 where
  pub rises : IsRising ends_cmp flow
  pub fits : AreValues (λ units. units < 2 ^ 64) flow
  pub in_order : IsRising node_cmp entering
  pub enters : (n : Node) → total_in entering n ≡ units_at target flow n
