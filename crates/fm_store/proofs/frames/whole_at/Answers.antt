use Rattle.std.proofs.Common.{refl}
use Rattle.fm_store.proofs.Framing.{frame_has_length}
use Rattle.fm_store.proofs.frames.whole_at.Goals as goal

pub returns-in_err-count-clause-none : goal.returns-in_err-count-clause-none
returns-in_err-count-clause-none c = λ none has. c.in_err-count.ensures.none refl (frame_has_length c.args.bytes.now has)
