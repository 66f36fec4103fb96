use Rattle.std.proofs.Common.{◌≡◌, ◌+◌, ◌*◌, ◌<◌, ◌≤◌, ◌^◌, length}
use Rattle.std.specs.Prelude.{count_by, sum_by, not}
use Rattle.fm_records.specs.Facts.{is_open}
use Rattle.fm_query.specs.SizeText.{open_count, closed_count, open_use, reported_sum, open_spare, spare_sum}
use Rattle.fm_query.proofs.size_text.size_of_machines.Given as goal

abbrev pub invariant-loop-machine : goal.invariant-loop-machine
invariant-loop-machine l = record {
  few : length l.knowledge.machines < 2 ^ 64;
  opened : l.opened + count_by (λ e. is_open l.knowledge e.0) l.machine-iterator ≡ open_count l.knowledge;
  closed : l.closed + count_by (λ e. not (is_open l.knowledge e.0)) l.machine-iterator ≡ closed_count l.knowledge;
  reported : l.reported + sum_by (open_use l.knowledge) l.machine-iterator ≡ reported_sum l.knowledge;
  reported_fits : l.reported + 2 ^ 32 * length l.machine-iterator ≤ 2 ^ 32 * length l.knowledge.machines;
  spare : l.spare + sum_by (open_spare l.knowledge) l.machine-iterator ≡ spare_sum l.knowledge;
  spare_fits : l.spare + 2 ^ 32 * length l.machine-iterator ≤ 2 ^ 32 * length l.knowledge.machines;
}
