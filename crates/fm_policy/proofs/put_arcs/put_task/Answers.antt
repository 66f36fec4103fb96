use Rattle.std.proofs.Common.{◌≡◌, ◌∙◌, Some, ap, sym, subst}
use Rattle.std.specs.Prelude.{is_some}
use Rattle.fm_records.specs.declared.records.SpecReg.{SpecReg}
use Rattle.fm_records.specs.Facts.{holder_of}
use Rattle.fm_net.specs.declared.node.Node.TheVariants.{Unscheduled, Task}
use Rattle.fm_net.specs.Network.{arc_of}
use Rattle.fm_tally.specs.declared.tally.LiveTask.{LiveTask}
use Rattle.fm_policy.specs.inner.NetworkSoFar.{HasArcTo, HasHolder}
use Rattle.fm_policy.proofs.Adds.{adds_then}
use Rattle.fm_policy.proofs.Parts.{task_to_job}
use Rattle.fm_policy.proofs.Tallied.{live_of}
use Rattle.fm_policy.proofs.put_arcs.put_task.Goals as goal

pub put-requires-clause-arc : goal.put-requires-clause-arc
put-requires-clause-arc c =
    let k = c.args.knowledge.now in
    let t = c.args.task in
    let its = live_of k t c.args.live.now c.requires.live in
    sym (subst (λ (l : LiveTask). arc_of k (Task t) (Unscheduled l.job) ≡ Some (1, l.price)) its.same (task_to_job k t its.spec its.job its.is its.known))

pub returns-clause-adds : goal.returns-clause-adds
returns-clause-adds c = adds_then c.args.knowledge.now _ _ _ c.in_ok-put.ensures.adds c.in_ok-put_holder.ensures.adds

pub returns-clause-covers : goal.returns-clause-covers
returns-clause-covers c = λ spec is.
    let k = c.args.knowledge.now in
    let t = c.args.task in
    let live = c.args.live.now in
    let net = c.put_holder.new.network in
    let its = live_of k t live c.requires.live in
    let same : its.spec ≡ spec = let one : Some its.spec ≡ Some spec = sym its.is ∙ is in cc in
    let arc : arc_of k (Task t) (Unscheduled live.job) ≡ Some (1, live.price) = subst (λ (l : LiveTask). arc_of k (Task t) (Unscheduled l.job) ≡ Some (1, l.price)) its.same (task_to_job k t its.spec its.job its.is its.known) in
    let still : HasArcTo net (Task t) (Unscheduled live.job) = c.in_ok-put_holder.ensures.adds.grows.arcs (Task t) (Unscheduled live.job) (c.in_ok-put.ensures.covers (ap is_some arc)) in
    let job : live.job ≡ spec.job = sym (ap (λ (l : LiveTask). l.job) its.same) ∙ ap (λ (s : SpecReg). s.job) same in
    let request : live.request ≡ spec.request = sym (ap (λ (l : LiveTask). l.request) its.same) ∙ ap (λ (s : SpecReg). s.request) same in
    record {
      unscheduled = subst (λ j. HasArcTo net (Task t) (Unscheduled j)) job still;
      holder = subst (λ r. HasHolder k t r (holder_of k t) net) request (subst (λ o. HasHolder k t live.request o net) (sym (ap (λ (l : LiveTask). l.holder) its.same)) c.in_ok-put_holder.ensures.holder);
    }
