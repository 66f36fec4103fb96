-- Each way leaves a node as often as it enters it, but for its task and the sink.
use Rattle.std.proofs.Common.{◌≡◌, ◌∙◌, sym, refl, ℕ, ◌+◌, cond, List, IsTrue, arith}
use Rattle.std.specs.Prelude.{flat_map}
use Rattle.std.specs.List.{sum_by}
use Rattle.fm_lattice.specs.Maps.{IsRising}
use Rattle.fm_net.specs.declared.node.Node.{Node}
use Rattle.fm_net.specs.declared.node.Node.TheVariants.{Sink, Unscheduled, Request, Machine, Task}
use Rattle.fm_net.specs.Nodes.{ends_cmp}
use Rattle.fm_net.specs.Net.{Net}
use Rattle.fm_net.specs.NetworkEquality.{same_node}
use Rattle.fm_certificate.specs.Flows.{leaving, entering, is_between}
use Rattle.fm_certificate.proofs.Sums.{sum_same}
use Rattle.fm_paths.specs.TaskPaths.{Way, ToJob, ByRequest, Straight, path_arcs_of, path_arcs, units_of, HasArcsOf}
use Rattle.fm_paths.proofs.Single.{sum_flat}
use Rattle.fm_paths.proofs.Crossed.{leaving_is, entering_is}

module _ (n : Node) where
  abbrev pub out : Node × Node → ℕ
  out s = cond (same_node s.0 n) 1 0

  abbrev pub into : Node × Node → ℕ
  into s = cond (same_node s.1 n) 1 0

  abbrev is : Node → ℕ
  is m = cond (same_node m n) 1 0

  chained : (t : ℕ) (w : Way) → sum_by into (path_arcs_of t w) + is (Task t) ≡ sum_by out (path_arcs_of t w) + is Sink
  chained t (ToJob j) = omega arith
  chained t (ByRequest r m) = omega arith
  chained t (Straight m) = omega arith

between_no_task : (n : Node) (t : ℕ) → IsTrue (is_between n) → cond {A = ℕ} (same_node (Task t) n) 1 0 ≡ 0
between_no_task Sink t h = refl
between_no_task (Unscheduled j) t h = refl
between_no_task (Request r) t h = refl
between_no_task (Machine m) t h = refl
between_no_task (Task u) t h = absurd (let no : ⊥ = cc in no)

between_no_sink : (n : Node) → IsTrue (is_between n) → cond {A = ℕ} (same_node Sink n) 1 0 ≡ 0
between_no_sink Sink h = absurd (let no : ⊥ = cc in no)
between_no_sink (Unscheduled j) h = refl
between_no_sink (Request r) h = refl
between_no_sink (Machine m) h = refl
between_no_sink (Task u) h = refl

-- whatever the ways are
pub ways_keep : (ways : List (ℕ × Way)) (n : Node) → IsTrue (is_between n) → sum_by (into n) (flat_map path_arcs ways) ≡ sum_by (out n) (flat_map path_arcs ways)
ways_keep ways n h =
    sum_flat (into n) path_arcs ways
    ∙ sum_same (λ w. sum_by (into n) (path_arcs w)) (λ w. sum_by (out n) (path_arcs w)) ways (λ w _. omega (arith, chained n w.0 w.1, between_no_task n w.0 h, between_no_sink n h))
    ∙ sym (sum_flat (out n) path_arcs ways)

pub kept : (net : Net) (ways : List (ℕ × Way)) → IsRising ends_cmp net.arcs → HasArcsOf net ways → (n : Node) → IsTrue (is_between n) → entering net (units_of ways) n ≡ leaving net (units_of ways) n
kept net ways rises stand n h =
    entering_is net rises (flat_map path_arcs ways) stand n
    ∙ ways_keep ways n h
    ∙ sym (leaving_is net rises (flat_map path_arcs ways) stand n)
