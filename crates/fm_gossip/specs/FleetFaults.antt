-- Why a fleet is stopped (this project's profile).
use Rattle.std.specs.Prelude.{◌≡◌, ◌⊎◌, Bool, true, false, List, [], length}
use Rattle.fm_records.specs.declared.refusal.Refusal.{Refusal}
use Rattle.fm_records.specs.declared.refusal.Refusal.TheVariants.{OutOfMemory, BadOp, HistoryFull, InboxFull, NotMine}
use Rattle.fm_gossip.specs.Members.{MemberModel}

-- whether a refusal may stop a fleet, by its number alone: out of memory, an operation out of range, a full history or inbox, or
-- something that is not a member's. That there was such a cause is not said
abbrev pub may_stop : Refusal → Bool
may_stop OutOfMemory = true
may_stop (BadOp field) = true
may_stop HistoryFull = true
may_stop InboxFull = true
may_stop (NotMine number) = true
may_stop _ = false

-- what comes back of a fleet of these members that is refused: all of them, or as many coordinators. Whether a thread was started,
-- and which coordinators these are, is not said
abbrev pub AreBack : {C : Type 0} → List MemberModel → List MemberModel → List C → Type 0
AreBack ms members coordinators =
    ((members ≡ ms) × (coordinators ≡ [])) ⊎ ((members ≡ []) × (length coordinators ≡ length ms))
