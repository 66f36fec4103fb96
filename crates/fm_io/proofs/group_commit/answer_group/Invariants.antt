use Rattle.std.proofs.Common.{◌≡◌, None}
use Rattle.fm_io.specs.inner.HeldTexts.{replies_text}
use Rattle.fm_io.proofs.GroupRuns.{GroupSoFar}
use Rattle.fm_io.proofs.group_commit.answer_group.Given as goal

abbrev pub invariant-loop-count : goal.invariant-loop-count
invariant-loop-count g l = record {
  run : GroupSoFar g.D.Responder.answers l.initial.responder l.responder l.count (g.S.Source.remaining l.initial.source) (g.S.Source.remaining l.source) l.held.any (replies_text l.held);
  room : l.held.apart ≡ None;
}
