use Rattle.std.proofs.Common.{Ok, Err}
use Rattle.fm_serve.proofs.salvage.read_and_answer.Goals as goal

pub returns-in-Ok : goal.returns-in-Ok
returns-in-Ok g c = (Ok _, c.answer_store.ensures)

pub returns-in-Err : goal.returns-in-Err
returns-in-Err g c = (Err c.in-Err.fault, (c.answer_unread.ensures.ending, c.answer_unread.ensures.nothing))
