use Rattle.std.proofs.Common.{codes}
use Rattle.fm_dimacs.proofs.Sent.{prefix_start, sent_last, stopped}
use Rattle.fm_io.proofs.replies.send_accepted.Goals as goal

pub returns-in_err-put_all-clause-sent : goal.returns-in_err-put_all-clause-sent
returns-in_err-put_all-clause-sent g c =
    let part = c.in_err-put_all.ensures.sent in
    stopped c.from_residual.result _ _ _ _ _ _ c.from_residual.ensures.1 (prefix_start _ _ c.args.text.now (codes "ok\n") part.0) part.1

pub returns-clause-sent : goal.returns-clause-sent
returns-clause-sent g c =
    let first = c.in_ok-put_all.ensures.sent in
    sent_last c.send.result _ _ _ _ _ _ c.args.text.now (codes "ok\n") first.0 first.1 c.send.ensures.sent
