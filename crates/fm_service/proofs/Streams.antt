-- A stream that is followed by coordinators is followed by the sets that they stand for.
use Rattle.std.proofs.Common.{◌≡◌, ◌⊎◌, ℕ, List, [], ◌∷◌, ◌++◌, Option, Result, refl, sym, ◌∙◌, subst, inl, inr}
use Rattle.fm_records.specs.declared.ops.Op.{Op}
use Rattle.fm_records.specs.declared.refusal.Refusal.{Refusal}
use Rattle.fm_delta.specs.declared.packet.Packet.{Packet}
use Rattle.fm_io.specs.Sources.{Streams}
use Rattle.fm_io.specs.Runs.{IsSkipped, Run, IsFollowed}
use Rattle.fm_service.specs.declared.stream_service.StreamService.{StreamService}
use Rattle.fm_service.specs.StreamSteps.{Following, StandBehind, Answers}
use Rattle.fm_service.specs.Sessions.{IsIn, AnswersSo}

module _ (most : ℕ) (behind : Packet → List Op) (stand : StandBehind behind) where
  -- coordinators that are where the stream is, and are renewed after as many entries
  record Goes (d : StreamService) (k : Option Following) : Type 0 where
    renews : d.renew_after ≡ most
    is : IsIn d.session k

  abbrev To : StreamService → Option Following → List (List ℕ) → List ℕ → Type 0
  To new k lines text = (next : Option Following) × Run (Answers most behind) k lines text next × IsIn new.session next

  one_more : (old mid new : StreamService) (k : Option Following) (line : List ℕ) (lines : List (List ℕ)) (text first rest : List ℕ) → Goes old k → text ≡ first ++ rest
      → ((j : Option Following) → Goes mid j → To new j lines rest) → (IsSkipped line first × (mid ≡ old)) ⊎ AnswersSo old line first mid → To new k (line ∷ lines) text
  one_more old mid new k line lines text first rest at e later (inl (unread, same)) =
      let gone = later k (subst (λ d. Goes d k) (sym same) at) in
      (gone.0, (k, first, rest, inl (unread, refl), e, gone.1), gone.2)
  one_more old mid new k line lines text first rest at e later (inr answered) =
      let one = answered.so behind stand k at.is in
      let gone = later one.0 (record { renews = answered.most ∙ at.renews; is = one.2 }) in
      (gone.0, (one.0, first, rest, inr (subst (λ n. Answers n behind k line first one.0) at.renews one.1), e, gone.1), gone.2)

  by_sets : (old new : StreamService) (k : Option Following) (lines : List (List ℕ)) (text : List ℕ) → Goes old k → Run AnswersSo old lines text new → To new k lines text
  by_sets old new k [] text at r = (k, (r.0, refl), subst (λ (d : StreamService). IsIn d.session k) (sym r.1) at.is)
  by_sets old new k (line ∷ lines) text at r =
      one_more old r.0 new k line lines text r.1 r.2 at r.4 (λ j here. by_sets r.0 new j lines r.2 here r.5) r.3

  pub followed : {T : Type 0} (result : Result T Refusal) (old new : StreamService) (k : Option Following) (streams : Streams) → old.renew_after ≡ most → IsIn old.session k
      → IsFollowed AnswersSo result old new streams → (next : Option Following) × IsFollowed (Answers most behind) result k next streams
  followed result old new k streams renews is f =
      let gone = by_sets old new k f.lines f.answers (record { renews = renews; is = is }) f.run in
      (gone.0, record { text = f.text; read = f.read; lines = f.lines; followed = f.followed; answers = f.answers; run = gone.1; went = f.went })
