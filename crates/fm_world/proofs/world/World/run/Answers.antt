use Rattle.std.proofs.Common.{◌<◌, length, take, sym, subst, arith}
use Rattle.fm_world.specs.Worlds.{run_of}
use Rattle.fm_world.specs.Represents.{Kept, WorldRepresents}
use Rattle.fm_world.proofs.Runs.{run_next, accept_next, whole, each_knows, same_agree}
use Rattle.fm_world.proofs.world.World.run.Goals as goal

pub loop-place-preserved : goal.loop-place-preserved
loop-place-preserved g c =
    let steps = c.args.steps.now in
    let i = c.loop-place.place in
    let s = c.index-steps-place.result in
    let lt : i < length steps = omega arith in
    record {
      stands = λ w h.
          subst (λ v. WorldRepresents c.step.new.self v) (sym (run_next w steps i s lt c.index-steps-place.is))
          (c.in_default.ensures.stands (run_of w (take i steps)) (c.loop-place.invariant.stands w h));
      accepted = λ w h.
          accept_next w steps i s lt c.index-steps-place.is (c.loop-place.invariant.accepted w h)
          (c.in_default.ensures.accepted (run_of w (take i steps)) (c.loop-place.invariant.stands w h));
    }

pub returns-in-Err-clause-each_knows : goal.returns-in-Err-clause-each_knows
returns-in-Err-clause-each_knows g c = λ w h.
    let v = run_of w (take c.loop-place.place c.args.steps.now) in
    each_knows c.step.new.self v (subst (λ (k : Kept). WorldRepresents k v) (sym c.in-Err.ensures.unchanged) (c.loop-place.invariant.stands w h))

pub returns-in-Err-clause-same_agree : goal.returns-in-Err-clause-same_agree
returns-in-Err-clause-same_agree g c = λ w h.
    let v = run_of w (take c.loop-place.place c.args.steps.now) in
    same_agree c.step.new.self v (subst (λ (k : Kept). WorldRepresents k v) (sym c.in-Err.ensures.unchanged) (c.loop-place.invariant.stands w h))

pub returns-clause-each_knows : goal.returns-clause-each_knows
returns-clause-each_knows g c = λ w h.
    each_knows c.loop-place.self (run_of w c.args.steps.now)
    (subst (λ ss. WorldRepresents c.loop-place.self (run_of w ss)) (whole c.args.steps.now c.loop-place.place (omega arith)) (c.loop-place.invariant.stands w h))

pub returns-clause-same_agree : goal.returns-clause-same_agree
returns-clause-same_agree g c = λ w h.
    same_agree c.loop-place.self (run_of w c.args.steps.now)
    (subst (λ ss. WorldRepresents c.loop-place.self (run_of w ss)) (whole c.args.steps.now c.loop-place.place (omega arith)) (c.loop-place.invariant.stands w h))
