use Rattle.std.proofs.Common.{◌∙◌, sym, ap, length, rules}
use Rattle.fm_fleet.specs.Seats.{seen_seat}
use Rattle.fm_fleet.proofs.Noted.{counted_so, listed_so}
use Rattle.fm_fleet.proofs.node.Node.call.Goals as goal

pub invariant_of-seat-2 : goal.invariant_of-seat-2
invariant_of-seat-2 g c =
    let at = c.seat.inside.number in
    let log = c.reserved.new.log.items in (
      c.call-answer.ensures.parts ∙ c.seat.invariant.0,
      counted_so c.call-answer.result at c.seat.inside.share.amount c.call-answer.new.share.amount c.in_ok-made.made log c.note.new.log.items
          (c.seat.invariant.1 ∙ ap length (sym c.in_ok-made.ensures.same_log)) c.call-answer.ensures.counted (search rules) c.note.ensures.ok c.note.ensures.err,
    )

pub returns-clause-ok : goal.returns-clause-ok
returns-clause-ok g c =
    listed_so c.call-answer.result c.args.seat.now c.seat.inside.number c.args.call c.in_ok-made.made c.reserved.new.log.items c.note.new.log.items
    (ap (λ es. seen_seat c.seat.inside.number es) c.in_ok-made.ensures.same_log ∙ c.seat.view_is) c.in_ok-made.ensures.made c.note.ensures.ok
