-- The edits that are listed are the change.
use Rattle.std.proofs.Common.{◌≡◌, ◌∙◌, ◌<◌, ◌^◌, List, length, sym, arith}
use Rattle.fm_records.specs.Table.{Table}
use Rattle.fm_records.specs.Ranges.{CanBe}
use Rattle.fm_net.specs.declared.node.Node.{Node}
use Rattle.fm_net.specs.Net.{Net, CanBeNet, has_node, arc_at}
use Rattle.fm_net.specs.Network.{net_of}
use Rattle.fm_net.proofs.NetworkLaws.{is_network_of}
use Rattle.fm_net.proofs.BoundLaws.{net_can_be}
use Rattle.fm_net.specs.Edits.{change}
use Rattle.fm_net.specs.Touched.{Touches}
use Rattle.fm_net.proofs.TouchedLaws.{touched_is_change}
use Rattle.fm_edit.specs.declared.editor_state.EditorState.{EditorState}
use Rattle.fm_edit.specs.CacheModel.{seen_in}
use Rattle.fm_edit.specs.TaskIndex.{sum_in}
use Rattle.fm_edit.specs.inner.CacheFacts.{node_shown, arc_shown}
use Rattle.fm_edit.specs.inner.Diff.{edits_of}
use Rattle.fm_edit.specs.EditorState.{Remembers}
use Rattle.fm_edit.proofs.ShownLaws.{node_is, arc_is}

module _ (now : Table) (can : CanBe now) (small : length now.tasks < 2 ^ 63) where
  pub now_can_be : CanBeNet (net_of now)
  now_can_be = net_can_be now can (omega (arith, small))

  module _ (m : EditorState) (remembers : Remembers now m) (net : Net) (nodes : List Node) (pairs : List (Node × Node)) where
    node_of : (n : Node) → node_shown (seen_in m.seen) (sum_in m.index) n ≡ has_node (net_of now) n
    node_of n = (λ i. node_shown (remembers.sees i) (λ z. remembers.counts.sums z i) n) ∙ node_is now n ∙ sym ((is_network_of now).each_node n)

    arc_to : (a b : Node) → arc_shown (seen_in m.seen) (sum_in m.index) a b ≡ arc_at (net_of now) a b
    arc_to a b = (λ i. arc_shown (remembers.sees i) (λ z. remembers.counts.sums z i) a b) ∙ arc_is now small a b ∙ sym ((is_network_of now).each_arc a b)

    pub edits_are : CanBeNet net → Touches net (net_of now) nodes pairs → edits_of net (node_shown (seen_in m.seen) (sum_in m.index)) (arc_shown (seen_in m.seen) (sum_in m.index)) nodes pairs ≡ change net (net_of now)
    edits_are p t =
        (λ i. edits_of net (λ n. node_of n i) (λ a b. arc_to a b i) nodes pairs)
        ∙ touched_is_change net (net_of now) nodes pairs p now_can_be t
