use Rattle.fm_io.proofs.Running.{SoFar}
use Rattle.fm_io.proofs.follow.follow.Given as goal

abbrev pub invariant-loop-count : goal.invariant-loop-count
invariant-loop-count g l =
    SoFar g.D.Responder.answers l.initial.responder l.responder l.count (g.S.Source.remaining l.initial.source) (g.S.Source.remaining l.source) (g.W.Out.written l.initial.sink) (g.W.Out.written l.sink) (g.W.Out.has_failed l.initial.sink) (g.W.Out.has_failed l.sink)
