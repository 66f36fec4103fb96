use Rattle.std.proofs.Common.{◌≡◌, ◌+◌, ◌*◌, ◌<◌, ◌≤◌, ◌^◌, length}
use Rattle.std.specs.List.{sum_by}
use Rattle.fm_salvage.proofs.listing.proposal_count.Given as goal

abbrev pub invariant-loop-entries : goal.invariant-loop-entries
invariant-loop-entries l = record {
  few : length l.known.proposals < 2 ^ 64;
  so_far : l.count + sum_by (λ e. length e.1) l.entries-iterator ≡ sum_by (λ e. length e.1) l.known.proposals;
  fits : l.count + 2 ^ 64 * length l.entries-iterator ≤ 2 ^ 64 * length l.known.proposals;
}
