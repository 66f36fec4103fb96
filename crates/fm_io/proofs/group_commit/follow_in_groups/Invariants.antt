use Rattle.fm_io.proofs.GroupsInTurn.{Grouped, AreWholeFrom}
use Rattle.fm_io.proofs.group_commit.follow_in_groups.Given as goal

abbrev pub invariant-loop-count : goal.invariant-loop-count
invariant-loop-count g l =
    Grouped g.D.Responder.answers g.D.Committer.commits l.initial.responder l.responder (g.S.Source.remaining l.initial.source) (g.S.Source.remaining l.source) (g.W.Out.written l.initial.sink) (g.W.Out.written l.sink) (g.W.Out.has_failed l.initial.sink) (g.W.Out.has_failed l.sink) (AreWholeFrom l.count)
