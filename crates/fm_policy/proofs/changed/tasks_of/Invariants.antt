use Rattle.std.proofs.Common.{◌++◌, map}
use Rattle.fm_policy.proofs.Named.{AllNamed}
use Rattle.fm_policy.proofs.changed.tasks_of.Given as goal

abbrev pub invariant-loop-task : goal.invariant-loop-task
invariant-loop-task l = AllNamed (map (λ e. e.0) l.delta.tasks ++ map (λ e. e.0.0) l.delta.proposals) l.named.keys (map (λ e. e.0) l.task-iterator ++ map (λ e. e.0.0) l.delta.proposals)

abbrev pub invariant-loop-attempt : goal.invariant-loop-attempt
invariant-loop-attempt l = AllNamed (map (λ e. e.0) l.delta.tasks ++ map (λ e. e.0.0) l.delta.proposals) l.named.keys (map (λ e. e.0.0) l.attempt-iterator)
