use Rattle.std.proofs.Common.{◌≡◌, ◌≤◌, ◌==◌, length, take, sym, subst, arith, rules, length-take-le}
use Rattle.std.specs.Io.Buffered.{reader_buffer, reader_capacity, reader_inner, reader_remaining}
use Rattle.std.specs.Io.KnownBytes.{Consumes}
use Rattle.fm_io.proofs.Ahead.{buffer_first, front_consumed}
use Rattle.fm_io.proofs.read_ahead.move_ahead.Goals as goal

pub returns-then-is_ok : goal.returns-then-is_ok
returns-then-is_ok g c =
    let old = c.args.reader.now in
    let was = reader_remaining g.R.Read.remaining old in
    let left = reader_remaining g.R.Read.remaining c.consume.new.self in
    let n = c.before_line_feed-count.result in
    let is = c.before_line_feed-count.ensures in
    let ahead = c.buffer-ahead.result.now in
    let same : ahead ≡ reader_buffer old = c.buffer-ahead.ensures in
    let within = subst (λ b. n ≤ length b) same is.within in
    let first = buffer_first (reader_capacity old == 0) (reader_buffer old) (g.R.Read.remaining (reader_inner old)) in
    let took = front_consumed was left (reader_buffer old) n within first c.consume.ensures.bytes in
    (take n ahead, subst (λ b. Consumes was left (take n b)) (sym same) took, is.line, omega (arith, length-take-le n ahead is.within, is.most), search rules)
