use Rattle.std.proofs.Common.{rules, ◌+◌, ◌≤◌, ◌∙◌, ap, vec_len, vec_capacity, arith}
use Rattle.fm_fleet.specs.Seats.{SeatModel}
use Rattle.fm_gossip.proofs.Ending.{both_seats}
use Rattle.fm_gossip.proofs.Seated.{served}
use Rattle.fm_gossip.proofs.serving.serve.Goals as goal

pub push_reserved-requires-2 : goal.push_reserved-requires-2
push_reserved-requires-2 g c =
    let room : vec_len c.reserve.new.self + 2 ≤ vec_capacity c.reserve.new.self = search rules in
    omega (arith, room, c.push_reserved.ensures.len, c.push_reserved.ensures.capacity)

pub end-coordinator-requires-clause-seats : goal.end-coordinator-requires-clause-seats
end-coordinator-requires-clause-seats g c =
    let numbers = c.by_two-used.ensures.numbers in
    both_seats c.push_reserved-2.new.self.items c.push_reserved.new.self.items c.reserve.new.self.items c.by_two-used.result.one c.by_two-used.result.two
    (c.reserve.ensures.items ∙ c.new-room.ensures.items) c.push_reserved.ensures.items c.push_reserved-2.ensures.items
    (numbers.0 ∙ ap (λ (s : SeatModel). s.number) c.two_of-one.ensures.0) (numbers.1 ∙ ap (λ (s : SeatModel). s.number) c.two_of-one.ensures.1)

pub returns : goal.returns
returns g c = λ none.
    let used = c.by_two-used in
    let ended = c.end-coordinator in
    let both = c.first_of.ensures.none none in
    served c.first_of.result c.args.work ended.result.0.state _ _ _ _ _ _ _ _ _ _ _ _ _ _ _ _ used.result.one _ used.result.two c.work.view_is c.number-number.ensures c.limit-limit.ensures c.requires.base c.push_reserved-2.ensures.items c.push_reserved.ensures.items c.reserve.ensures.items
    c.new-room.ensures.items c.two_of-one.ensures.0 c.two_of-one.ensures.1 (used.ensures.intake both.0) (used.ensures.rounds both.0) (used.ensures.ports both.0) (ended.ensures.ended (c.refused_by.ensures.none both.1))
