-- What a line would be answered, as text (this project's profile).
use Rattle.std.specs.Prelude.{ℕ, List, ◌++◌, codes, decimal, Option, Some, None}
use Rattle.fm_records.specs.declared.refusal.Refusal.{Refusal}
use Rattle.fm_records.specs.declared.refusal.Refusal.TheVariants as refusal
use Rattle.fm_records.specs.Refusals.{refusal_number}
use Rattle.fm_query.specs.FieldRanges.{range_text}

-- why a line is refused that is for the coordinator with the number; the last case is that of refusals that no line has
abbrev pub cause_text : ℕ → Refusal → List ℕ
cause_text at (refusal.BadOp member) = range_text member
cause_text at refusal.HistoryFull = codes "the history is full"
cause_text at refusal.BadInterval = codes "there are no such deltas"
cause_text at (refusal.Trimmed floor) = codes "deltas below " ++ (decimal floor ++ codes " are trimmed")
cause_text at (refusal.BadPacket place) = codes "the digits are no packet: see byte " ++ decimal place
cause_text at refusal.NoCoordinator = codes "no coordinator has the number " ++ decimal at
cause_text at refusal.NoPacket = codes "no packet has this name"
cause_text at refusal.VersionsSpent = codes "the known version is 18446744073709551615, the greatest"
cause_text at refusal.AttemptsSpent = codes "the known attempt is 4294967295, the greatest"
cause_text at (refusal.BadScript step) = codes "the line is none that can be asked now, by its form or by a member"
cause_text at e = codes "it is refused"

-- accepted, or refused by a number and why
abbrev pub verdict_text : ℕ → Option Refusal → List ℕ
verdict_text at None = codes "accepted\n"
verdict_text at (Some e) = codes "refused " ++ (decimal (refusal_number e) ++ (codes "\n" ++ (cause_text at e ++ codes "\n")))
