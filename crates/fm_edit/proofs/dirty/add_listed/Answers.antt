use Rattle.std.proofs.Common.{◌∙◌, ap, sym, inl, inr}
use Rattle.std.specs.Prelude.{◌||◌}
use Rattle.std.specs.Ordering.{nat_cmp, is_eq}
use Rattle.fm_net.specs.Nodes.{node_cmp}
use Rattle.fm_net.specs.laws.NodeOrder.{node_exact, node_total}
use Rattle.fm_edit.specs.Dirty.{has_id}
use Rattle.fm_edit.specs.inner.Listed.{named_in}
use Rattle.fm_edit.proofs.Ranges.{listed_named, named_listed, moved}
use Rattle.fm_edit.proofs.Values.{kept_true, came_in, came_of}
use Rattle.fm_edit.proofs.dirty.add_listed.Goals as goal

pub loop-pair-preserved : goal.loop-pair-preserved
loop-pair-preserved c =
    let x = c.in-Some.pair.now.1 in
    let old = c.loop-pair.tasks.keys in
    record {
      grows = λ t h. kept_true (is_eq (nat_cmp x t)) (has_id old t) _ (c.in_ok-insert.ensures.updates.0 t) (c.loop-pair.invariant.grows t h);
      listed = λ t.
          moved x t (has_id old t) (named_in c.next.new.self t) _ (c.in_ok-insert.ensures.updates.0 t)
          ∙ sym (ap (λ ps. has_id old t || named_in ps t) c.in-Some.ensures.steps)
          ∙ c.loop-pair.invariant.listed t;
    }

pub returns-clause-listed : goal.returns-clause-listed
returns-clause-listed c = λ t small h.
    came_in (has_id c.loop-pair.tasks.keys t) (has_id c.args.tasks.now.keys t) (named_in c.loop-pair.pair-iterator t) _
    (c.loop-pair.invariant.listed t)
    (ap (λ ps. named_in ps t) c.in-None.ensures.steps.0)
    (listed_named node_cmp node_total node_exact c.args.node.now t small c.args.index.now.listed.keys h)

pub returns-clause-only : goal.returns-clause-only
returns-clause-only c = λ t h.
    elim (came_of (has_id c.loop-pair.tasks.keys t) (has_id c.args.tasks.now.keys t) (named_in c.loop-pair.pair-iterator t) _ (c.loop-pair.invariant.listed t) h) [
      | inl before ↦ inl before
      | inr named ↦ inr (named_listed node_cmp node_total node_exact c.args.node.now t c.args.index.now.listed.keys named)
    ]
