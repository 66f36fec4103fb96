use Rattle.std.proofs.Common.{rules, ◌≡◌, refl, sym, true≢false, Some, slice_get, arith}
use Rattle.std.proofs.lemmas.Option.{slice_get_read}
use Rattle.fm_fleet.specs.declared.seat.SeatLog.{SeatLog}
use Rattle.fm_fleet.proofs.Logs.{up_to_more, all_places}
use Rattle.fm_fleet.proofs.audit.is_listed.Goals as goal

pub returns-then-log-seat : goal.returns-then-log-seat
returns-then-log-seat c =
    let there : slice_get c.args.logs.now c.loop-log.log-index ≡ Some c.log-item.result = slice_get_read _ _ _ _ refl c.loop-log-test.true c.log-item.is in
    let same : c.log-item.result.seat ≡ c.args.seat = search rules in
    (λ _. (c.loop-log.log-index, c.log-item.result, there, same), λ _. refl)

pub loop-log-preserved : goal.loop-log-preserved
loop-log-preserved c =
    let there : slice_get c.args.logs.now c.loop-log.log-index ≡ Some c.log-item.result = slice_get_read _ _ _ _ refl c.loop-log-test.true c.log-item.is in
    let apart : ¬ (c.log-item.result.seat ≡ c.args.seat) = search rules in
    up_to_more (λ (x : SeatLog). ¬ (x.seat ≡ c.args.seat)) _ _ _ there c.loop-log.invariant apart

pub returns : goal.returns
returns c = (λ h. absurd (true≢false (sym h)), λ (i, l, at, n). absurd (all_places (λ (x : SeatLog). ¬ (x.seat ≡ c.args.seat)) _ _ (omega (arith, c.loop-log-test.false)) c.loop-log.invariant i l at n))
