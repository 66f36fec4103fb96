use Rattle.std.proofs.Common.{◌≡◌, ◌<◌, ◌+◌, ◌^◌, length, rules, arith}
use Rattle.std.proofs.lemmas.Int.{ints}
use Rattle.fm_cycles.specs.Residual.{residual}
use Rattle.fm_cycles.specs.inner.Labels.{IsCorrected}
use Rattle.fm_cycles.proofs.Corrected.{joined}
use Rattle.fm_cycles.proofs.queue.relax_waiting.Goals as goal

pub scan-requires-clause-low : goal.scan-requires-clause-low
scan-requires-clause-low c = λ v.
    let low = c.loop-left.invariant.3.low (2 ^ 97) c.requires.low v in
    let few = c.loop-left.invariant.1 c.loop-left-test.true in
    let all : length c.args.arcs.now < 2 ^ 64 = search rules in
    omega (arith, ints)

pub loop-left-preserved : goal.loop-left-preserved
loop-left-preserved c =
    let g = residual c.args.arcs.now c.args.units.now in
    let turns = c.loop-left.invariant.0 in
    let places = length c.deref.result.now in
    let few = c.loop-left.invariant.1 c.loop-left-test.true in
    let small : places < 2 ^ 60 = let h = c.deref.type_inv in let two = h.1 in omega arith in
    let len : c.len.result ≡ places = let one = c.len.ensures in let two = c.deref.ensures.len in omega arith in
    let left = c.saturating_sub-left.ensures in
    let more : IsCorrected g places c.loop-left.labels c.scan.new.labels = search (rules, c.scan.ensures) in (
      turns + places,
      (λ some. omega arith),
      (omega arith),
      joined g turns places c.args.labels.now c.loop-left.labels c.scan.new.labels c.loop-left.invariant.3 more,
    )
