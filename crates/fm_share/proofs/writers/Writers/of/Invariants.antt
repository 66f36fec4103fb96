use Rattle.std.proofs.Common.{◌≡◌, ℕ, false, length, take, slice_index_or}
use Rattle.fm_share.specs.Shares.{is_in}
use Rattle.fm_share.proofs.writers.Writers.of.Given as goal

abbrev pub invariant-loop-writer : goal.invariant-loop-writer
invariant-loop-writer l = record {
  marked : (n : ℕ) → slice_index_or l.is_listed n false ≡ is_in n (take l.writer-index l.listed);
  long : length l.is_listed ≡ 65;
}
