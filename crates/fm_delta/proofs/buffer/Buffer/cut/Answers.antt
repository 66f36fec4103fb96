use Rattle.std.proofs.Common.{◌∙◌, ap}
use Rattle.fm_delta.specs.Deltas.{joined_all}
use Rattle.fm_delta.proofs.GroupLaws.{joined_union}
use Rattle.fm_delta.proofs.buffer.Buffer.cut.Goals as goal

pub returns-clause-union : goal.returns-clause-union
returns-clause-union c Ss same = c.in_ok-group.ensures.value ∙ ap joined_all (rw (← c.self.view_is) at same) ∙ joined_union Ss
