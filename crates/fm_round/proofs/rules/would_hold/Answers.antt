use Rattle.std.proofs.Common.{◌≡◌, ℕ, Option, Some, None, refl, sym, ◌∙◌, ap}
use Rattle.std.specs.Prelude.{option_map}
use Rattle.fm_know.specs.Winners.{as_winner}
use Rattle.fm_records.specs.declared.records.Spot.{Spot}
use Rattle.fm_records.specs.Facts.{winner_of}
use Rattle.fm_round.specs.inner.AdmissionSteps.{winner_with, as_pair, winning_spot, is_spot_of}
use Rattle.fm_round.proofs.After.{live_spec_of, place_holds}
use Rattle.fm_round.proofs.rules.would_hold.Goals as goal

there_and_back : (o : Option (ℕ × Spot)) → option_map as_pair (option_map as_winner o) ≡ o
there_and_back None = refl
there_and_back (Some w) = refl

pub returns : goal.returns
returns c =
    let k = c.args.known.now in
    let p = c.args.place.now in
    let live = live_spec_of k p.task c.requires.live in
    let found = ap (option_map as_pair) c.winner-winner.ensures ∙ there_and_back (winner_of k p.task c.attempt_for.result) ∙ ap (winner_of k p.task) c.attempt_for.ensures in
    let spot : c.spot_with-spot.result ≡ winning_spot c.args.coordinator k p = c.spot_with-spot.ensures ∙ (λ i. (winner_with (found i) c.args.coordinator (c.spot_of.ensures i)).1) in
    c.is_spot_of.ensures ∙ ap (is_spot_of p) spot ∙ sym (place_holds k c.known.ensures.table c.args.coordinator p live.0 live.1 c.requires.there)
