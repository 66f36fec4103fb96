use Rattle.std.proofs.Common.{arith}
use Rattle.fm_io.proofs.Ahead.{line_before}
use Rattle.fm_io.proofs.read_ahead.before_line_feed.Goals as goal

pub returns-in-Some-clause-line : goal.returns-in-Some-clause-line
returns-in-Some-clause-line c =
    let first = c.in-Some.ensures.0 in
    line_before c.args.bytes.now c.min.result (omega (arith, c.min.ensures, first.high)) (λ k lt. first.before k (omega arith) (omega (arith, c.min.ensures, lt)))

pub returns-in-None-clause-line : goal.returns-in-None-clause-line
returns-in-None-clause-line c =
    line_before c.args.bytes.now c.min-in-None.result (omega (arith, c.min-in-None.ensures)) (λ k lt. c.in-None.ensures k (omega arith) (omega (arith, c.min-in-None.ensures, lt)))
