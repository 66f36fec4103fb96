use Rattle.std.proofs.Common.{◌++◌, ◌∙◌, take}
use Rattle.fm_dimacs.proofs.Sent.{appends_more, piece_rest, took_some}
use Rattle.fm_dimacs.proofs.write_all.put_all.Goals as goal

pub loop-rest-preserved : goal.loop-rest-preserved
loop-rest-preserved g c =
    let i = c.loop-rest.invariant in
    record {
      sent = i.sent ++ take c.put-taken.result c.loop-rest.rest.now;
      whole = piece_rest c.args.piece.now i.sent c.loop-rest.rest.now c.put-taken.result i.whole;
      appended = appends_more _ _ _ _ _ i.appended c.put-taken.ensures.takes;
      fails_not = took_some _ _ _ _ c.if-taken-eq0.false c.put-taken.ensures.fails ∙ i.fails_not;
    }
