use Rattle.std.proofs.Common.{sym, subst, arith}
use Rattle.fm_records.specs.OpsOfTable.{IsTable}
use Rattle.fm_records.specs.Facts.{spec_of, request_of}
use Rattle.fm_round.specs.Admission.{told, place_ops}
use Rattle.fm_round.specs.inner.MachineHoldings.{AreCountedHoldings}
use Rattle.fm_round.proofs.Results.{on_ok, both_ok}
use Rattle.fm_round.proofs.Told.{told_table}
use Rattle.fm_round.proofs.Accepted.{good_place, holds_little, place_holdings}
use Rattle.fm_round.proofs.Ready.{counted_more}
use Rattle.fm_round.proofs.admission.AdmissionState.accept_place.Goals as goal

pub add-requires-clause-requests_fit : goal.add-requires-clause-requests_fit
add-requires-clause-requests_fit c =
    let k = c.args.self.now.now in
    let p = c.args.place.now in
    let good = good_place c.args.coordinator k p c.requires.accepted in
    let little = holds_little k p.machine (request_of (spec_of k p.task)) good.room good.slots c.law_limits.ensures in
    omega (arith, little.requests, c.requires.holdings.requests p.machine c.requires.counted, c.request_of-request.ensures.request)

pub add-requires-clause-tasks_fit : goal.add-requires-clause-tasks_fit
add-requires-clause-tasks_fit c =
    let k = c.args.self.now.now in
    let p = c.args.place.now in
    let good = good_place c.args.coordinator k p c.requires.accepted in
    let little = holds_little k p.machine (request_of (spec_of k p.task)) good.room good.slots c.law_limits.ensures in
    omega (arith, little.tasks, c.requires.holdings.tasks p.machine c.requires.counted)

pub returns-clause-ready : goal.returns-clause-ready
returns-clause-ready c =
    let k = c.args.self.now.now in
    let p = c.args.place.now in
    let ready = c.requires.ready in
    both_ok (λ now more. record {
      table = subst IsTable (sym now) (told_table k ready.table (place_ops c.args.coordinator k p));
      in_range = more ready.in_range;
    }) c.tell_place.result c.tell_place.ensures.now c.tell_place.ensures.in_range

pub returns-clause-holdings : goal.returns-clause-holdings
returns-clause-holdings c =
    let k = c.args.self.now.now in
    let p = c.args.place.now in
    let good = good_place c.args.coordinator k p c.requires.accepted in
    let extra = place_holdings k c.requires.ready.table c.args.coordinator p good in
    let l = told k (place_ops c.args.coordinator k p) in
    let new = c.add.new.self in
    let are = counted_more k l p.machine (request_of (spec_of k p.task)) c.request_of-request.result c.args.holdings.now new extra c.requires.holdings c.request_of-request.ensures.request c.in_ok-add.ensures.requests c.in_ok-add.ensures.tasks c.in_ok-add.ensures.counted in
    on_ok (λ now. subst (λ z. AreCountedHoldings z new) (sym now) are) c.tell_place.result c.tell_place.ensures.now
