use Rattle.std.proofs.Common.{◌≡◌, ◌+◌, [], ◌∷◌, ◌++◌, sym, ◌∙◌, ap, take}
use Rattle.std.specs.Prelude.{◌==◌, option_to_list}
use Rattle.std.proofs.lemmas.List.{take_more}
use Rattle.fm_records.specs.Options.{when}
use Rattle.fm_round.specs.PlanOfFlow.{machines_of}
use Rattle.fm_round.proofs.Pairing.{mapped_more}
use Rattle.fm_round.proofs.from_units.Queues.of.Goals as goal

pub loop-seat-preserved : goal.loop-seat-preserved
loop-seat-preserved c =
    let xs = c.args.seats.now in
    let i = c.loop-seat.seat-index in
    let s = c.seat-item.result in
    let more : take (i + 1) xs ≡ take i xs ++ s ∷ [] = take_more xs i s c.loop-seat-test.true ∙ ap (λ z. take i xs ++ z ∷ []) (sym c.seat-item.is) in
    λ r.
    c.in_ok-add.ensures r
    ∙ ap (λ q. q ++ option_to_list (when (s.request == r) s.machine)) (c.loop-seat.invariant r)
    ∙ sym (mapped_more (λ x. when (x.request == r) x.machine) (take i xs) s)
    ∙ ap (machines_of r) (sym more)
