-- Coordinators that do what requests ask for, and where their stream is.
use Rattle.std.specs.Prelude.{◌≡◌, ℕ, List, Option, Some, None}
use Rattle.fm_records.specs.declared.ops.Op.{Op}
use Rattle.fm_delta.specs.declared.packet.Packet.{Packet}
use Rattle.fm_service.specs.declared.session.Session.{Session}
use Rattle.fm_service.specs.declared.stream_service.StreamService.{StreamService}
use Rattle.fm_service.specs.StreamSteps.{Following, StandBehind, Answers, IsStreamState}

abbrev pub SessionAt : Session → Following → Type 0
SessionAt d k = IsStreamState d.world d.named d.marks d.own_marks d.stored_marks k

-- where the stream is before its first line, and where coordinators are
abbrev pub IsIn : Option Session → Option Following → Type 0
IsIn None None = Unit {0}
IsIn (Some d) (Some k) = SessionAt d k
IsIn None (Some k) = ⊥
IsIn (Some d) None = ⊥

-- the answer to a line, and what it leaves: whatever stands behind packets from elsewhere, and wherever the stream is by that
pub record AnswersSo (old : StreamService) (line answer : List ℕ) (new : StreamService) : Type 0 where
  pub most : new.renew_after ≡ old.renew_after
  pub so : (behind : Packet → List Op) → StandBehind behind → (k : Option Following) → IsIn old.session k
      → (next : Option Following) × Answers old.renew_after behind k line answer next × IsIn new.session next
