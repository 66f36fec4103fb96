-- Arcs by number, one by one, and what is known of those of every network.
use Rattle.std.proofs.Common.{◌≡◌, ◌∙◌, ap, sym, subst, refl, inl, ℕ, zero, suc, ◌<◌, ◌^◌, false, List, [], ◌∷◌, ◌++◌, Some, None, length, arith}
use Rattle.std.specs.Prelude.{slice_get}
use Rattle.std.proofs.lemmas.Option.{slice_get_within}
use Rattle.fm_records.specs.Sets.{IsMember}
use Rattle.fm_net.specs.declared.node.Node.{Node}
use Rattle.fm_net.specs.declared.node.Node.TheVariants as node
use Rattle.fm_net.specs.Nodes.{node_cmp}
use Rattle.fm_net.specs.laws.NodeOrder.{node_exact, node_total}
use Rattle.fm_net.proofs.ListLaws.{member_has, member_behind}
use Rattle.fm_net.specs.Net.{Net, CanBeNet, IsArc, IsArcKind}
use Rattle.fm_certificate.proofs.Least.{arc_member}
use Rattle.fm_cycles.specs.declared.indexed_arcs.IndexedArc.{IndexedArc}
use Rattle.fm_indexed.specs.declared.node_ranges.NodeRanges.{NodeRanges}
use Rattle.fm_indexed.specs.inner.KindRanges.{is_task}
use Rattle.fm_indexed.specs.Numbered.{NetArc, IsArcOf, AreArcsOf, IsNumbered}
use Rattle.fm_indexed.specs.inner.FormedNetwork.{IsFormed}
use Rattle.fm_indexed.proofs.Placed.{member_at}
use Rattle.fm_indexed.proofs.KindsAt.{kind_is, kind_there}

none_there : {A P : Type 0} {x : A} → None ≡ Some x → P
none_there e = absurd (let no : ⊥ = cc in no)

-- one arc more
pub arcs_more : (nodes : List Node) (done : List NetArc) (numbers : List IndexedArc) (arc : NetArc) (a : IndexedArc) → AreArcsOf nodes done numbers → IsArcOf nodes arc a → AreArcsOf nodes (done ++ arc ∷ []) (numbers ++ a ∷ [])
arcs_more nodes [] [] arc a are is = (is, tt)
arcs_more nodes [] (b ∷ numbers) arc a are is = absurd are
arcs_more nodes (d ∷ done) [] arc a are is = absurd are
arcs_more nodes (d ∷ done) (b ∷ numbers) arc a are is = (are.0, arcs_more nodes done numbers arc a are.1 is)

-- of the arc by number at a place, which arc it is
pub arc_at_place : (nodes : List Node) (arcs : List NetArc) (numbers : List IndexedArc) (i : ℕ) (a : IndexedArc) → AreArcsOf nodes arcs numbers → slice_get numbers i ≡ Some a → (b : NetArc) × (slice_get arcs i ≡ Some b) × IsArcOf nodes b a
arc_at_place nodes [] [] i a are at = none_there at
arc_at_place nodes [] (n ∷ numbers) i a are at = absurd are
arc_at_place nodes (b ∷ arcs) [] i a are at = absurd are
arc_at_place nodes (b ∷ arcs) (n ∷ numbers) zero a are at = let is : n ≡ a = cc in (b, refl, subst (λ (m : IndexedArc). IsArcOf nodes b m) is are.0)
arc_at_place nodes (b ∷ arcs) (n ∷ numbers) (suc i) a are at = arc_at_place nodes arcs numbers i a are.1 at

-- and the other way round
pub number_at_place : (nodes : List Node) (arcs : List NetArc) (numbers : List IndexedArc) (i : ℕ) (b : NetArc) → AreArcsOf nodes arcs numbers → slice_get arcs i ≡ Some b → (a : IndexedArc) × (slice_get numbers i ≡ Some a) × IsArcOf nodes b a
number_at_place nodes [] numbers i b are at = none_there at
number_at_place nodes (c ∷ arcs) [] i b are at = absurd are
number_at_place nodes (c ∷ arcs) (n ∷ numbers) zero b are at = let is : c ≡ b = cc in (n, refl, subst (λ (d : NetArc). IsArcOf nodes d n) is are.0)
number_at_place nodes (c ∷ arcs) (n ∷ numbers) (suc i) b are at = number_at_place nodes arcs numbers i b are.1 at

pub as_many : (nodes : List Node) (arcs : List NetArc) (numbers : List IndexedArc) → AreArcsOf nodes arcs numbers → length numbers ≡ length arcs
as_many nodes [] [] are = refl
as_many nodes [] (n ∷ numbers) are = absurd are
as_many nodes (b ∷ arcs) [] are = absurd are
as_many nodes (b ∷ arcs) (n ∷ numbers) are = let rest = as_many nodes arcs numbers are.1 in omega arith

-- no arc leads to a task
no_task : (m : Node) (t : ℕ) → IsArcKind m (node.Task t) → ⊥
no_task (node.Sink) t kinds = kinds
no_task (node.Unscheduled j) t kinds = kinds
no_task (node.Request r) t kinds = kinds
no_task (node.Machine q) t kinds = kinds
no_task (node.Task s) t kinds = kinds

target_kind : (places : NodeRanges) (v : ℕ) (m n : Node) → IsArcKind m n → is_task (kind_there places v n) ≡ false
target_kind places v m (node.Sink) kinds = refl
target_kind places v m (node.Unscheduled j) kinds = refl
target_kind places v m (node.Request r) kinds = refl
target_kind places v m (node.Machine q) kinds = refl
target_kind places v m (node.Task t) kinds = absurd (no_task m t kinds)

module _ (net : Net) (can : CanBeNet net) where
  pub is_arc_there : (b : NetArc) → IsMember b net.arcs → IsArc net b.0.0 b.0.1 b.1
  is_arc_there b m = can.are_arcs b.0.0 b.0.1 b.1 (arc_member net can b m)

  -- both ends of an arc are nodes
  pub ends_stand : (done : List NetArc) (b : NetArc) (rest : List NetArc) → net.arcs ≡ done ++ b ∷ rest → IsMember b.0.0 net.nodes × IsMember b.0.1 net.nodes
  ends_stand done b rest is =
      let m : IsMember b net.arcs = subst (λ (bs : List NetArc). IsMember b bs) (sym is) (member_behind b done (b ∷ rest) (inl refl)) in
      let arc = is_arc_there b m in
      (member_has node_cmp node_total node_exact b.0.0 net.nodes arc.from_stands, member_has node_cmp node_total node_exact b.0.1 net.nodes arc.to_stands)

  pub formed : (places : NodeRanges) (numbers : List IndexedArc) → IsNumbered net places numbers → length net.nodes < 2 ^ 63 → IsFormed places numbers
  formed places numbers is few =
      let end = is.at_places.end in
      record {
        few = omega arith;
        ends = λ i a at.
            let b = arc_at_place net.nodes net.arcs numbers i a is.of_arcs at in
            let arc = is_arc_there b.0 (member_at net.arcs i b.0 b.1) in
            let from = slice_get_within net.nodes a.from b.0.0.0 b.2.from in
            let to = slice_get_within net.nodes a.to b.0.0.1 b.2.to in
            let cost = b.2.cost in
            let most = arc.cost_within in
            (omega arith, omega arith, omega arith);
        capacities = λ i a at.
            let b = arc_at_place net.nodes net.arcs numbers i a is.of_arcs at in
            let arc = is_arc_there b.0 (member_at net.arcs i b.0 b.1) in
            let capacity = b.2.capacity in
            let fits = arc.capacity_fits in
            omega arith;
        targets = λ i a at.
            let b = arc_at_place net.nodes net.arcs numbers i a is.of_arcs at in
            let arc = is_arc_there b.0 (member_at net.arcs i b.0 b.1) in
            ap is_task (kind_is net.nodes places can.nodes_rise is.at_places a.to b.0.0.1 b.2.to) ∙ target_kind places a.to b.0.0.0 b.0.0.1 arc.kinds;
      }
