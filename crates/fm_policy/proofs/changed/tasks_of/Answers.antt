use Rattle.std.proofs.Common.{◌≡◌, ◌∙◌, ◌++◌, map, sym, subst, rules}
use Rattle.fm_policy.proofs.Named.{AllNamed, named_more, named_all}
use Rattle.fm_policy.proofs.changed.tasks_of.Goals as goal

pub loop-task-preserved : goal.loop-task-preserved
loop-task-preserved c =
    let d = c.args.delta.now in
    let all = map (λ e. e.0) d.tasks ++ map (λ e. e.0.0) d.proposals in
    named_more all c.loop-task.named.keys c.insert.new.self.keys (map (λ e. e.0) c.next.new.self ++ map (λ e. e.0.0) d.proposals) c.in-Some.task.now
    (subst (λ es. AllNamed all c.loop-task.named.keys (map (λ e. e.0) es ++ map (λ e. e.0.0) d.proposals)) c.in-Some.ensures.steps c.loop-task.invariant)
    c.in_ok-insert.ensures.updates.0

pub loop-attempt-init : goal.loop-attempt-init
loop-attempt-init c =
    let d = c.args.delta.now in
    let all = map (λ e. e.0) d.tasks ++ map (λ e. e.0.0) d.proposals in
    let given : c.into_iter-attempt-iterator.result ≡ d.proposals = search rules in
    subst (λ es. AllNamed all c.loop-task.named.keys (map (λ e. e.0.0) es)) (sym given)
    (subst (λ es. AllNamed all c.loop-task.named.keys (map (λ e. e.0) es ++ map (λ e. e.0.0) d.proposals)) c.in-None.ensures.steps.0 c.loop-task.invariant)

pub loop-attempt-preserved : goal.loop-attempt-preserved
loop-attempt-preserved c =
    let d = c.args.delta.now in
    let all = map (λ e. e.0) d.tasks ++ map (λ e. e.0.0) d.proposals in
    named_more all c.loop-attempt.named.keys c.insert-in-loop-attempt.new.self.keys (map (λ e. e.0.0) c.next-in-loop-attempt.new.self) c.in-Some-2.attempt.now.0
    (subst (λ es. AllNamed all c.loop-attempt.named.keys (map (λ e. e.0.0) es)) c.in-Some-2.ensures.steps c.loop-attempt.invariant)
    c.in_ok-insert-2.ensures.updates.0

pub returns : goal.returns
returns c =
    let d = c.args.delta.now in
    let all = map (λ e. e.0) d.tasks ++ map (λ e. e.0.0) d.proposals in
    let items : c.in_ok-collect.field-0.items ≡ c.loop-attempt.named.keys = search rules in
    items ∙ named_all all c.loop-attempt.named.keys
    (subst (λ es. AllNamed all c.loop-attempt.named.keys (map (λ e. e.0.0) es)) c.in-None-2.ensures.steps.0 c.loop-attempt.invariant)
    c.iter.ensures.ordered
