use Rattle.std.proofs.Common.{sym, ap}
use Rattle.std.specs.Fmt.{digits}
use Rattle.fm_io.specs.Replies.{refusal_reply}
use Rattle.fm_io.proofs.replies.line_of.Goals as goal

pub returns-in-OutOfMemory : goal.returns-in-OutOfMemory
unfolding digits
returns-in-OutOfMemory c = ap refusal_reply (sym c.in-OutOfMemory.is)

pub returns-in-BadOp : goal.returns-in-BadOp
unfolding digits
returns-in-BadOp c = ap refusal_reply (sym c.in-BadOp.is)

pub returns-in-HistoryFull : goal.returns-in-HistoryFull
unfolding digits
returns-in-HistoryFull c = ap refusal_reply (sym c.in-HistoryFull.is)

pub returns-in-BadInterval : goal.returns-in-BadInterval
unfolding digits
returns-in-BadInterval c = ap refusal_reply (sym c.in-BadInterval.is)

pub returns-in-Trimmed : goal.returns-in-Trimmed
unfolding digits
returns-in-Trimmed c = ap refusal_reply (sym c.in-Trimmed.is)

pub returns-in-BadPacket : goal.returns-in-BadPacket
unfolding digits
returns-in-BadPacket c = ap refusal_reply (sym c.in-BadPacket.is)

pub returns-in-Uncertified : goal.returns-in-Uncertified
unfolding digits
returns-in-Uncertified c = ap refusal_reply (sym c.in-Uncertified.is)

pub returns-in-NoCoordinator : goal.returns-in-NoCoordinator
unfolding digits
returns-in-NoCoordinator c = ap refusal_reply (sym c.in-NoCoordinator.is)

pub returns-in-NoPacket : goal.returns-in-NoPacket
unfolding digits
returns-in-NoPacket c = ap refusal_reply (sym c.in-NoPacket.is)

pub returns-in-InboxFull : goal.returns-in-InboxFull
unfolding digits
returns-in-InboxFull c = ap refusal_reply (sym c.in-InboxFull.is)

pub returns-in-InboxEmpty : goal.returns-in-InboxEmpty
unfolding digits
returns-in-InboxEmpty c = ap refusal_reply (sym c.in-InboxEmpty.is)

pub returns-in-Stuck : goal.returns-in-Stuck
unfolding digits
returns-in-Stuck c = ap refusal_reply (sym c.in-Stuck.is)

pub returns-in-NotMine : goal.returns-in-NotMine
unfolding digits
returns-in-NotMine c = ap refusal_reply (sym c.in-NotMine.is)

pub returns-in-VersionsSpent : goal.returns-in-VersionsSpent
unfolding digits
returns-in-VersionsSpent c = ap refusal_reply (sym c.in-VersionsSpent.is)

pub returns-in-AttemptsSpent : goal.returns-in-AttemptsSpent
unfolding digits
returns-in-AttemptsSpent c = ap refusal_reply (sym c.in-AttemptsSpent.is)

pub returns-in-BadScript : goal.returns-in-BadScript
unfolding digits
returns-in-BadScript c = ap refusal_reply (sym c.in-BadScript.is)

pub returns-in-WriteFault : goal.returns-in-WriteFault
unfolding digits
returns-in-WriteFault c = ap refusal_reply (sym c.in-WriteFault.is)

pub returns-in-BadDimacs : goal.returns-in-BadDimacs
unfolding digits
returns-in-BadDimacs c = ap refusal_reply (sym c.in-BadDimacs.is)
