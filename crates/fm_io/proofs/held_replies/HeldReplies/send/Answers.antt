use Rattle.std.proofs.Common.{ℕ, List, Option, sym, subst}
use Rattle.std.specs.Io.KnownBytes.{Appends}
use Rattle.fm_dimacs.specs.Sending.{AppendsPrefix, IsSent}
use Rattle.fm_dimacs.proofs.Sent.{prefix_start, sent_last, stopped}
use Rattle.fm_io.specs.declared.replies.LineReply.{LineReply}
use Rattle.fm_io.specs.inner.HeldTexts.{apart_text}
use Rattle.fm_io.proofs.held_replies.HeldReplies.send.Goals as goal

pub returns-in_err-put_all-in-Some-clause-sent : goal.returns-in_err-put_all-in-Some-clause-sent
returns-in_err-put_all-in-Some-clause-sent g c =
    let part = c.in_err-put_all-in-Some.ensures.sent in
    let front = subst (λ (t : List ℕ). AppendsPrefix (g.W.Out.written c.args.sink.now) (g.W.Out.written c.put_all.new.out) t) c.deref-in-Some.ensures.value part.0 in
    stopped c.from_residual.result _ _ _ _ _ _ c.from_residual.ensures.1 (prefix_start _ _ c.args.self.now.bytes.items (apart_text c.args.self.now.apart) front) part.1

pub returns-in_ok-put_all-in-Some-clause-sent : goal.returns-in_ok-put_all-in-Some-clause-sent
returns-in_ok-put_all-in-Some-clause-sent g c =
    let first = c.in_ok-put_all-in-Some.ensures.sent in
    let front = subst (λ (t : List ℕ). Appends (g.W.Out.written c.args.sink.now) (g.W.Out.written c.put_all.new.out) t) c.deref-in-Some.ensures.value first.0 in
    let last = subst
    (λ (o : Option LineReply). IsSent c.send_reply.result (g.W.Out.written c.put_all.new.out) (g.W.Out.written c.send_reply.new.sink) (g.W.Out.has_failed c.put_all.new.out) (g.W.Out.has_failed c.send_reply.new.sink) (apart_text o))
    (sym c.in-Some.is) c.send_reply.ensures.sent in
    sent_last c.send_reply.result _ _ _ _ _ _ c.args.self.now.bytes.items (apart_text c.args.self.now.apart) front first.1 last
