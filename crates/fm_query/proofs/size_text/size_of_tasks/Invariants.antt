use Rattle.std.proofs.Common.{◌≡◌, ◌+◌, ◌*◌, ◌<◌, ◌≤◌, ◌^◌, length}
use Rattle.std.specs.Prelude.{count_by, sum_by, not, is_some}
use Rattle.fm_records.specs.Facts.{is_live, holder_of}
use Rattle.fm_query.specs.ListText.{is_waiting}
use Rattle.fm_query.specs.SizeText.{waiting_count, held_count, over_count, held_request, requested_sum}
use Rattle.fm_query.proofs.size_text.size_of_tasks.Given as goal

abbrev pub invariant-loop-task : goal.invariant-loop-task
invariant-loop-task l = record {
  few : length l.knowledge.tasks < 2 ^ 64;
  waiting : l.waiting + count_by (λ e. is_waiting l.knowledge e.0) l.task-iterator ≡ waiting_count l.knowledge;
  held : l.held + count_by (λ e. is_some (holder_of l.knowledge e.0)) l.task-iterator ≡ held_count l.knowledge;
  over : l.over + count_by (λ e. not (is_live l.knowledge e.0)) l.task-iterator ≡ over_count l.knowledge;
  requested : l.requested + sum_by (held_request l.knowledge) l.task-iterator ≡ requested_sum l.knowledge;
  fits : l.requested + 2 ^ 32 * length l.task-iterator ≤ 2 ^ 32 * length l.knowledge.tasks;
}
