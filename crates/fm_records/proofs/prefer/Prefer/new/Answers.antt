use Rattle.std.proofs.Common.{rules}
use Rattle.fm_records.proofs.Rows.{row_filled}
use Rattle.fm_records.proofs.prefer.Prefer.new.Goals as goal

pub invariant_of-result : goal.invariant_of-result
invariant_of-result c = let filled = row_filled c.args.entries.now (Prim.search rules) in Prim.search (filled, rules)
