-- What a session does at a request.
use Rattle.std.specs.Prelude.{ℕ, List, Option, Some, None, Result, IfOk, IfErr}
use Rattle.std.specs.Global.{Vec}
use Rattle.fm_records.specs.declared.ops.Op.{Op}
use Rattle.fm_records.specs.declared.refusal.Refusal.{Refusal}
use Rattle.fm_delta.specs.declared.packet.Packet.{Packet}
use Rattle.fm_script.specs.Requests.{RequestModel}
use Rattle.fm_io.specs.Replies.{accepted_reply, refusal_reply}
use Rattle.fm_service.specs.declared.session.Session.{Session}
use Rattle.fm_service.specs.declared.stream_service.StreamService.{StreamService}
use Rattle.fm_service.specs.StreamSteps.{Following, StandBehind, DoesAt, DoesIn, RefusesAt, IsRefused, Answers}
use Rattle.fm_service.specs.Sessions.{SessionAt, IsIn}

-- of a call that answers a request by a text: wherever the stream was, and whatever stands behind packets, it is where the request leads
abbrev pub Goes : Result (Vec ℕ) Refusal → Session → Session → RequestModel → Type 0
Goes result old new asked =
    (behind : Packet → List Op) → StandBehind behind → (k : Following) → SessionAt old k
    → IfOk result (λ text. (j : Following) × DoesAt behind k asked text.items j × SessionAt new j)

-- of a call that refuses a request: why
abbrev pub StopsRequest : {T : Type 0} → Result T Refusal → Session → RequestModel → Type 0
StopsRequest result old asked = (k : Following) → SessionAt old k → IfErr result (RefusesAt k asked)

-- of a call that answers a line by a text
abbrev pub Accepts : ℕ → Result (Vec ℕ) Refusal → Session → Session → List ℕ → Type 0
Accepts most result old new line =
    (behind : Packet → List Op) → StandBehind behind → (k : Following) → SessionAt old k
    → IfOk result (λ text. (j : Following) × Answers most behind (Some k) line (accepted_reply text.items) (Some j) × SessionAt new j)

-- of a call that refuses a line
abbrev pub Rejects : {T : Type 0} → Result T Refusal → Session → List ℕ → Type 0
Rejects result old line = (k : Following) → SessionAt old k → IfErr result (λ e. IsRefused (Some k) line (refusal_reply e) (Some k))

-- of a call that answers a line before which there are no coordinators
abbrev pub Begins : ℕ → Result (Vec ℕ) Refusal → StreamService → List ℕ → Type 0
Begins most result new line =
    (behind : Packet → List Op) → IfOk result (λ text. (j : Option Following) × Answers most behind None line (accepted_reply text.items) j × IsIn new.session j)

-- of a call that carries out a first request
abbrev pub Opens : Result (Vec ℕ) Refusal → StreamService → RequestModel → Type 0
Opens result new asked =
    (behind : Packet → List Op) → IfOk result (λ text. (k : Following) × DoesIn behind None asked text.items (Some k) × IsIn new.session (Some k))
