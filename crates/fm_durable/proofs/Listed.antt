-- A stream that has its coordinators keeps them.
use Rattle.std.proofs.Common.{◌≡◌, ℕ, List, Some, None, ◌∙◌, inl, inr}
use Rattle.fm_records.specs.declared.ops.Op.{Op}
use Rattle.fm_delta.specs.declared.packet.Packet.{Packet}
use Rattle.fm_service.specs.StreamSteps.{Following, Answers}

none_some : {A : Type 0} (a : A) → None ≡ Some a → ⊥
none_some a e = cc

pub stay_listed : (most : ℕ) (behind : Packet → List Op) (k : Following) (line answer : List ℕ) → Answers most behind (Some k) line answer None → ⊥
stay_listed most behind k line answer (inl accepted) =
    let made = accepted.does in
    elim accepted.settles [
      | inl same ↦ none_some made.0 (same ∙ made.2)
      | inr renewed ↦ none_some _ renewed.3
    ]
stay_listed most behind k line answer (inr (inl refused)) = none_some k refused.same
stay_listed most behind k line answer (inr (inr checked)) = none_some k checked.same
