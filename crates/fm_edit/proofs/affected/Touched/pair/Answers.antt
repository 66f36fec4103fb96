use Rattle.std.proofs.Common.{ap, inl, inr}
use Rattle.std.specs.Ordering.{is_eq}
use Rattle.std.specs.Cmp.{Equal-is}
use Rattle.fm_net.specs.laws.NodeOrder.{ends_exact}
use Rattle.fm_net.specs.Nodes.{ends_cmp}
use Rattle.fm_edit.proofs.Values.{kept_true, came_from}
use Rattle.fm_edit.proofs.affected.Touched.pair.Goals as goal

pub returns-clause-grows : goal.returns-clause-grows
returns-clause-grows c = record { nodes = λ n h. h; pairs = λ a b h. kept_true (is_eq (ends_cmp (c.args.from.now, c.args.to.now) (a, b))) _ _ (c.in_ok-insert.ensures.updates.0 (a, b)) h }

pub returns-clause-only : goal.returns-clause-only
returns-clause-only c = λ a b h.
    came_from (is_eq (ends_cmp (c.args.from.now, c.args.to.now) (a, b))) _ _ (c.in_ok-insert.ensures.updates.0 (a, b)) h inl
    (λ same.
    let is = ends_exact (c.args.from.now, c.args.to.now) (a, b) ((Equal-is (ends_cmp (c.args.from.now, c.args.to.now) (a, b))).0 same) in
    inr (ap (λ p. p.0) is, ap (λ p. p.1) is))
