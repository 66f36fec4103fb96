-- The numbers of the refusals (this project's profile).
use Rattle.std.specs.Prelude.{ℕ}
use Rattle.fm_records.specs.declared.refusal.Refusal.{Refusal}
use Rattle.fm_records.specs.declared.refusal.Refusal.TheVariants as refusal

abbrev pub refusal_number : Refusal → ℕ
refusal_number refusal.OutOfMemory = 1
refusal_number (refusal.BadOp f) = 2
refusal_number refusal.HistoryFull = 3
refusal_number refusal.BadInterval = 4
refusal_number (refusal.Trimmed floor) = 5
refusal_number (refusal.BadPacket place) = 6
refusal_number refusal.Uncertified = 7
refusal_number refusal.NoCoordinator = 8
refusal_number refusal.NoPacket = 9
refusal_number refusal.InboxFull = 10
refusal_number refusal.InboxEmpty = 11
refusal_number refusal.Stuck = 12
refusal_number (refusal.NotMine seat) = 13
refusal_number refusal.VersionsSpent = 14
refusal_number refusal.AttemptsSpent = 15
refusal_number (refusal.BadScript step) = 16
refusal_number refusal.WriteFault = 17
refusal_number (refusal.BadDimacs line) = 18
