use Rattle.std.proofs.Common.{◌≡◌, ◌⊎◌, ◌≤◌, ◌<◌, ℕ, List, length}
use Rattle.std.specs.Io.KnownBytes.{Consumes}
use Rattle.fm_io.specs.declared.lines.Line.TheVariants.{Whole}
use Rattle.fm_io.specs.Lines.{IsLine}
use Rattle.fm_io.specs.LineReads.{IsKeptLine}
use Rattle.fm_io.proofs.lines.next_line.Given as goal

abbrev pub invariant-loop-count : goal.invariant-loop-count
invariant-loop-count g l = record {
  bytes : List ℕ;
  consumed : Consumes (g.S.Source.remaining l.initial.source) (g.S.Source.remaining l.source) bytes;
  line : IsLine bytes;
  kept : IsKeptLine l.kept bytes l.line.items;
  counted : l.count ≤ length bytes;
  whole_or_some : (l.kept ≡ Whole) ⊎ (0 < length bytes);
}
