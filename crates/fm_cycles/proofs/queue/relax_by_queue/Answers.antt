use Rattle.std.proofs.Common.{◌+◌, ◌*◌, ◌^◌, refl, rules, arith}
use Rattle.std.proofs.lemmas.Int.{ints}
use Rattle.fm_cycles.specs.Residual.{residual}
use Rattle.fm_cycles.specs.inner.Labels.{IsCorrectedWithin}
use Rattle.fm_cycles.proofs.Corrected.{same, moved, joined_within}
use Rattle.fm_cycles.proofs.queue.relax_by_queue.Goals as goal

pub loop-pass-init : goal.loop-pass-init
loop-pass-init c = let g = residual c.args.arcs.now c.args.units.now in (0, (omega arith), moved g 0 c.args.labels.now c.args.labels.now _ (same g c.args.labels.now) refl refl)

pub relax_waiting-requires-clause-low : goal.relax_waiting-requires-clause-low
relax_waiting-requires-clause-low c = λ v.
    let low = c.loop-pass.invariant.2.low (2 ^ 96) c.requires.low v in
    let few = c.loop-pass.invariant.1 in
    let pass = c.loop-pass-test.true in
    omega (arith, ints)

pub returns-then-not-is_empty-clause-corrected : goal.returns-then-not-is_empty-clause-corrected
returns-then-not-is_empty-clause-corrected c =
    let g = residual c.args.arcs.now c.args.units.now in
    let more : IsCorrectedWithin g (2 ^ 61) c.loop-pass.labels c.relax_waiting.new.labels = search (rules, c.relax_waiting.ensures) in
    let pass = c.loop-pass-test.true in
    joined_within g (c.loop-pass.pass * 2 ^ 61) (2 ^ 61) (2 ^ 64) c.args.labels.now c.loop-pass.labels c.relax_waiting.new.labels _ c.loop-pass.invariant more (omega arith) refl refl

pub loop-pass-preserved : goal.loop-pass-preserved
loop-pass-preserved c =
    let g = residual c.args.arcs.now c.args.units.now in
    let more : IsCorrectedWithin g (2 ^ 61) c.loop-pass.labels c.relax_waiting.new.labels = search (rules, c.relax_waiting.ensures) in
    joined_within g (c.loop-pass.pass * 2 ^ 61) (2 ^ 61) ((c.loop-pass.pass + 1) * 2 ^ 61) c.args.labels.now c.loop-pass.labels c.relax_waiting.new.labels _ c.loop-pass.invariant more (omega arith) refl refl
