use Rattle.std.proofs.Common.{inl, inr}
use Rattle.std.specs.Ordering.{is_eq}
use Rattle.std.specs.Cmp.{Equal-is}
use Rattle.fm_net.specs.laws.NodeOrder.{node_exact}
use Rattle.fm_net.specs.Nodes.{node_cmp}
use Rattle.fm_edit.proofs.Values.{kept_true, came_from}
use Rattle.fm_edit.proofs.affected.Touched.node.Goals as goal

pub returns-clause-grows : goal.returns-clause-grows
returns-clause-grows c = record { nodes = λ n h. kept_true (is_eq (node_cmp c.args.node.now n)) _ _ (c.in_ok-insert.ensures.updates.0 n) h; pairs = λ a b h. h }

pub returns-clause-only : goal.returns-clause-only
returns-clause-only c = λ n h.
    came_from (is_eq (node_cmp c.args.node.now n)) _ _ (c.in_ok-insert.ensures.updates.0 n) h inl
    (λ same. inr (node_exact c.args.node.now n ((Equal-is (node_cmp c.args.node.now n)).0 same)))
