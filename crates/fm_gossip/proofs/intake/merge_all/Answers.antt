use Rattle.std.proofs.Common.{◌≡◌, List, ℕ, ap, subst, ◌∙◌, rules, tests, arith}
use Rattle.std.specs.Prelude.{slice_get, Some}
use Rattle.std.proofs.lemmas.List.{nil_from_length}
use Rattle.fm_fleet.specs.Seats.{SeatModel}
use Rattle.fm_gossip.proofs.Merging.{one_merged, all_came}
use Rattle.fm_gossip.proofs.intake.merge_all.Goals as goal

pub loop-own-preserved : goal.loop-own-preserved
loop-own-preserved g c =
    let p = c.in_ok-packet.packet in
    let at = subst (λ (ns : List ℕ). slice_get ns c.in-Some.place ≡ Some p.sender) c.deref.ensures.value c.in-Some.ensures.1 in (
      one_merged c.args.awaited.items c.loop-own.awaited.items c.remove.new.self.items c.args.seat.now c.loop-own.seat c.merge.new.seat c.args.own.now.port c.loop-own.own.port c.next_packet.new.own.port p c.in-Some.place c.loop-own.invariant.0 c.in-Some.ensures.0 at c.remove.ensures.items c.in_ok-merge.ensures.ok c.in_ok-packet.ensures.taken,
      ap (λ (s : SeatModel). s.number) c.in_ok-merge.ensures.ok ∙ c.loop-own.invariant.1,
    )

pub returns-clause-merged : goal.returns-clause-merged
returns-clause-merged g c =
    let empty : c.loop-own.awaited.len ≡ 0 = search (rules, tests) in
    let none = nil_from_length c.loop-own.awaited.items (omega (arith, empty, c.loop-own.awaited.ok.0)) in
    all_came c.args.awaited.items c.loop-own.awaited.items c.args.seat.now c.loop-own.seat c.args.own.now.port c.loop-own.own.port none c.loop-own.invariant.0
