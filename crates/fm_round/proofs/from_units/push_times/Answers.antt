use Rattle.std.proofs.Common.{◌≡◌, ◌-◌, ◌+◌, suc, ◌∷◌, [], ◌++◌, sym, ◌∙◌, ap, append_assoc, arith}
use Rattle.std.specs.Prelude.{replicate}
use Rattle.fm_round.proofs.from_units.push_times.Goals as goal

pub loop-i-preserved : goal.loop-i-preserved
loop-i-preserved c =
    let times = c.args.times in
    let i = c.loop-i.i in
    let x = c.args.seat.now in
    let one_more : times - i ≡ suc (times - (i + 1)) = omega (arith, c.loop-i-test.true) in
    ap (λ xs. xs ++ replicate (times - (i + 1)) x) c.in_ok-push.ensures.items
    ∙ append_assoc c.loop-i.seats.items (x ∷ []) (replicate (times - (i + 1)) x)
    ∙ sym (ap (λ n. c.loop-i.seats.items ++ replicate n x) one_more)
    ∙ c.loop-i.invariant
