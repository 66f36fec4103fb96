-- How much of a text a writer accepted.
use Rattle.std.specs.Prelude.{◌≡◌, ℕ, List, ◌++◌, Bool, true, ◌&&◌, nat_eq, nat_lt, length, Option, Result, MatchResult}
use Rattle.std.specs.Io.KnownBytes.{Appends}
use Rattle.fm_records.specs.declared.refusal.Refusal.{Refusal}
use Rattle.fm_records.specs.declared.refusal.Refusal.TheVariants.{OutOfMemory, WriteFault}

-- accepting n bytes of the piece is a failure: none were accepted, and there was one
abbrev pub fails_at : ℕ → List ℕ → Bool
fails_at n piece = nat_eq n 0 && nat_lt 0 (length piece)

-- a prefix of the text was written
pub record AppendsPrefix (old new : Option (List ℕ)) (text : List ℕ) : Type 0 where
  pub sent : List ℕ
  pub rest : List ℕ
  pub whole : text ≡ sent ++ rest
  pub appended : Appends old new sent

-- why a text was not written completely: the writer failed, or there was no memory and the writer did not fail
abbrev pub StopsBy : Refusal → Bool → Bool → Type 0
StopsBy OutOfMemory had_failed has_failed = has_failed ≡ had_failed
StopsBy WriteFault had_failed has_failed = has_failed ≡ true
StopsBy _ had_failed has_failed = ⊥

-- the text was written completely, and the writer did not fail; or a prefix was
abbrev pub IsSent : {T : Type 0} → Result T Refusal → Option (List ℕ) → Option (List ℕ) → Bool → Bool → List ℕ → Type 0
IsSent r old new had_failed has_failed text =
    MatchResult r (λ _. Appends old new text × (has_failed ≡ had_failed)) (λ refusal. AppendsPrefix old new text × StopsBy refusal had_failed has_failed)
