use Rattle.std.proofs.Common.{◌≡◌, ◌+◌, ◌≤◌, length}
use Rattle.std.specs.Bool.{beq}
use Rattle.std.specs.List.{prefix_len}
use Rattle.fm_service.specs.inner.OwnRuns.{added_by}
use Rattle.fm_service.proofs.own_news.count_first.Given as goal

abbrev pub invariant-loop-entry : goal.invariant-loop-entry
invariant-loop-entry l = record {
  counted : prefix_len (λ is_own. beq is_own l.fn.own) (added_by l.fn.entries) ≡ l.count + prefix_len (λ is_own. beq is_own l.fn.own) (added_by l.rest);
  within : l.count + length l.rest ≤ length l.fn.entries;
}

abbrev pub decreases-loop-entry : goal.decreases-loop-entry
decreases-loop-entry l = length l.rest
