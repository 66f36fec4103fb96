use Rattle.std.proofs.Common.{◌++◌, ◌∙◌, string_bytes, append_assoc, ap, sym}
use Rattle.std.specs.List.{flat_map}
use Rattle.fm_query.specs.Unpacked.{proposal_line}
use Rattle.fm_query.proofs.unpack.write_attempt.Goals as goal

pub loop-coordinator-preserved : goal.loop-coordinator-preserved
loop-coordinator-preserved c =
    let line = proposal_line (c.args.task, c.args.attempt) in
    let lines = string_bytes c.loop-coordinator.lines in
    let at = c.in-Some.coordinator.now in
    let rest = flat_map line c.next.new.self in (
      tt,
      tt,
      c.loop-coordinator.invariant.2 ∙ ap (λ es. lines ++ flat_map line es) c.in-Some.ensures.steps ∙ sym (append_assoc lines (line (at, c.in-Some.spot.now)) rest)
          ∙ ap (λ s. (lines ++ line (at, s)) ++ rest) (sym c.spot.view_is) ∙ ap (λ xs. xs ++ rest) (sym c.in_ok-write_proposal.ensures.ok),
    )
