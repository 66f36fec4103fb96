use Rattle.std.proofs.Common.{◌<◌, length, refl, arith}
use Rattle.fm_serve.proofs.Coming.{come_next, stops_in, come_all}
use Rattle.fm_serve.proofs.run.take_all.Goals as goal

pub loop-place-init : goal.loop-place-init
loop-place-init c = record { came = λ w h. (w, refl, h) }

pub returns-in-Err-clause-err : goal.returns-in-Err-clause-err
returns-in-Err-clause-err c = λ w h.
    let steps = c.args.steps.now in
    let i = c.loop-place.place in
    let lt : i < length steps = omega arith in
    let before = c.loop-place.invariant.came w h in
    stops_in w before.0 steps i c.index-steps-place.result lt c.index-steps-place.is before.1 c.in-Err.refusal (c.in-Err.ensures.err before.0 before.2)

pub loop-place-preserved : goal.loop-place-preserved
loop-place-preserved c =
    record {
      came = λ w h.
          let steps = c.args.steps.now in
          let i = c.loop-place.place in
          let lt : i < length steps = omega arith in
          let before = c.loop-place.invariant.came w h in
          let next = c.in_default.ensures.ok before.0 before.2 in
          (next.0, come_next w before.0 steps i c.index-steps-place.result lt c.index-steps-place.is before.1 next.0 next.1, next.2);
    }

pub returns-clause-ok : goal.returns-clause-ok
returns-clause-ok c = λ w h.
    let came = c.loop-place.invariant.came w h in
    (came.0, come_all w came.0 c.args.steps.now c.loop-place.place (omega arith) came.1, came.2)
