use Rattle.std.proofs.Common.{◌≡◌, ◌+◌, ◌*◌, ◌<◌, ◌≤◌, ◌^◌, length}
use Rattle.std.specs.Prelude.{sum_by}
use Rattle.fm_query.specs.SizeText.{proposal_count}
use Rattle.fm_query.proofs.size_text.count_proposals.Given as goal

abbrev pub invariant-loop-entries : goal.invariant-loop-entries
invariant-loop-entries l = record {
  few : length l.knowledge.proposals < 2 ^ 64;
  so_far : l.count + sum_by (λ e. length e.1) l.entries-iterator ≡ proposal_count l.knowledge;
  fits : l.count + 2 ^ 64 * length l.entries-iterator ≤ 2 ^ 64 * length l.knowledge.proposals;
}
