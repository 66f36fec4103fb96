-- The answer to a line, before coordinators are listed and then.
use Rattle.std.proofs.Common.{◌≡◌, ℕ, List, Option, Some, None, Result, Ok, Err, IfErr, OnErr, MatchResult, sym, subst, inl, inr}
use Rattle.std.specs.Global.{Vec}
use Rattle.fm_records.specs.declared.ops.Op.{Op}
use Rattle.fm_records.specs.declared.refusal.Refusal.{Refusal}
use Rattle.fm_delta.specs.declared.packet.Packet.{Packet}
use Rattle.fm_io.specs.Replies.{accepted_reply, refusal_reply}
use Rattle.fm_service.specs.declared.session.Session.{Session}
use Rattle.fm_service.specs.declared.stream_service.StreamService.{StreamService}
use Rattle.fm_service.specs.StreamSteps.{Following, StandBehind, Answers, IsRefused}
use Rattle.fm_service.specs.Sessions.{SessionAt, IsIn, AnswersSo}
use Rattle.fm_service.specs.inner.SessionSteps.{Accepts, Rejects, Begins}

-- what is answered where the stream is
abbrev Goes : ℕ → (Packet → List Op) → Option Session → List ℕ → List ℕ → Option Following → Type 0
Goes most behind new line answer k = (next : Option Following) × Answers most behind k line answer next × IsIn new next

module _ (old new : StreamService) (line : List ℕ) (most : new.renew_after ≡ old.renew_after) where
  -- coordinators answer
  module _ (d e : Session) (was : old.session ≡ Some d) (is : new.session ≡ Some e) (whole : e ≡ d → new ≡ old) where
    accept : (text : Vec ℕ) → Accepts old.renew_after (Ok text) d e line → (behind : Packet → List Op) → StandBehind behind → (k : Option Following) → IsIn (Some d) k
        → Goes old.renew_after behind new.session line (accepted_reply text.items) k
    accept text acc behind stand None here = absurd here
    accept text acc behind stand (Some k) here =
        let went = acc behind stand k here in
        (Some went.0, went.1, subst (λ o. IsIn o (Some went.0)) (sym is) went.2)

    reject : (refusal : Refusal) → Rejects {T = Vec ℕ} (Err refusal) d line → e ≡ d → (behind : Packet → List Op) → (k : Option Following) → IsIn (Some d) k
        → Goes old.renew_after behind new.session line (refusal_reply refusal) k
    reject refusal rej same behind None here = absurd here
    reject refusal rej same behind (Some k) here =
        (Some k, inr (inl (rej k here)), subst (λ o. IsIn o (Some k)) (sym is) (subst (λ (x : Session). SessionAt x k) (sym same) here))

    pub by_session : (r : Result (Vec ℕ) Refusal) → Accepts old.renew_after r d e line → Rejects r d line → OnErr r (e ≡ d)
        → MatchResult r (λ text. AnswersSo old line (accepted_reply text.items) new) (λ refusal. AnswersSo old line (refusal_reply refusal) new × (new ≡ old))
    by_session (Ok text) acc rej same = record { most = most; so = λ behind stand k here. accept text acc behind stand k (subst (λ o. IsIn o k) was here) }
    by_session (Err refusal) acc rej same =
        (record { most = most; so = λ behind stand k here. reject refusal rej same behind k (subst (λ o. IsIn o k) was here) }, whole same)

  -- no coordinator is listed yet
  module _ (was : old.session ≡ None) where
    begin : (text : Vec ℕ) → Begins old.renew_after (Ok text) new line → (behind : Packet → List Op) → (k : Option Following) → IsIn None k → Goes old.renew_after behind new.session line (accepted_reply text.items) k
    begin text acc behind None here = acc behind
    begin text acc behind (Some k) here = absurd here

    refuse : (refusal : Refusal) → IsRefused None line (refusal_reply refusal) None → new ≡ old → (behind : Packet → List Op) → (k : Option Following) → IsIn None k
        → Goes old.renew_after behind new.session line (refusal_reply refusal) k
    refuse refusal rej same behind None here = (None, inr (inl rej), subst (λ (x : StreamService). IsIn x.session None) (sym same) (subst (λ o. IsIn o None) (sym was) tt))
    refuse refusal rej same behind (Some k) here = absurd here

    pub by_list : (r : Result (Vec ℕ) Refusal) → Begins old.renew_after r new line → IfErr r (λ e. IsRefused None line (refusal_reply e) None) → OnErr r (new ≡ old)
        → MatchResult r (λ text. AnswersSo old line (accepted_reply text.items) new) (λ refusal. AnswersSo old line (refusal_reply refusal) new × (new ≡ old))
    by_list (Ok text) acc rej same = record { most = most; so = λ behind stand k here. begin text acc behind k (subst (λ o. IsIn o k) was here) }
    by_list (Err refusal) acc rej same =
        (record { most = most; so = λ behind stand k here. refuse refusal rej same behind k (subst (λ o. IsIn o k) was here) }, same)
