use Rattle.std.proofs.Common.{◌≡◌, ◌+◌, ◌*◌, ◌≤◌, ◌^◌, length, filter, sum_by}
use Rattle.fm_records.specs.Facts.{holds, held_tasks, request_of}
use Rattle.fm_know.proofs.knowledge.Knowledge.held_requests.Given as goal

abbrev pub invariant-loop-task : goal.invariant-loop-task
invariant-loop-task l = record {
  so_far : l.sum + sum_by (λ e. request_of e.1.0) (filter (λ e. holds l.self l.machine e.0) l.task-iterator) ≡ sum_by (λ e. request_of e.1.0) (held_tasks l.self l.machine);
  fits : l.sum + 2 ^ 32 * length l.task-iterator ≤ 2 ^ 32 * length l.self.tasks;
}
