-- A stream that is followed durably by coordinators is followed so by the sets that they stand for.
use Rattle.std.proofs.Common.{◌≡◌, ◌⊎◌, ℕ, List, [], ◌∷◌, ◌++◌, map, Option, Some, None, is_some, string_bytes, Result, Ok, Err, IfSome, refl, sym, ap, ◌∙◌, subst, inl, inr}
use Rattle.fm_records.specs.declared.ops.Op.{Op}
use Rattle.fm_delta.specs.declared.packet.Packet.{Packet}
use Rattle.fm_coord.specs.Replays.{seen_packet}
use Rattle.fm_store.specs.Heads.{HeadModel}
use Rattle.fm_store.specs.declared.store_fault.StoreFault.{StoreFault}
use Rattle.fm_store.specs.Stores.{AreFoundIn}
use Rattle.fm_io.specs.declared.group_commit.StreamFault.{StreamFault}
use Rattle.fm_io.specs.declared.group_commit.StreamFault.TheVariants.{Source, Sink, Commit}
use Rattle.fm_io.specs.Sources.{Streams}
use Rattle.fm_io.specs.Runs.{IsTaken, Run}
use Rattle.fm_io.specs.Groups.{LineGroup, Groups, IsLeft, IsFollowedInGroups}
use Rattle.fm_service.specs.declared.stream_service.StreamService.{StreamService}
use Rattle.fm_service.specs.StreamSteps.{Following, StandBehind, Answers}
use Rattle.fm_service.specs.Sessions.{IsIn}
use Rattle.fm_service.specs.Storing.{numbers_listed, unstored_of, full_packets_of}
use Rattle.fm_durable.specs.declared.durable_service.DurableService.{DurableService}
use Rattle.fm_durable.specs.declared.durable_stream.DurableFault.{DurableFault}
use Rattle.fm_store.specs.KnownPackets.{known_packets}
use Rattle.fm_durable.specs.DurableSteps.{Durable, store_head, not_opened, OpensStore, GoesOn, DurableAnswers, with_unstored, with_full, DurableCommits}
use Rattle.fm_durable.specs.DurableServices.{DeviceModel, HoldsStore, AreKnownAlike, KeepsStores, KeepsKnown, ActsOnStore, AnswersDurably}
use Rattle.fm_durable.specs.inner.CommitSteps.{AddsPackets, PutsFull, CommitsSo, FailsSo}
use Rattle.fm_durable.specs.DurableStreams.{EndsAs, HoldsCommitted, HoldsAfterFault, HoldsAtEnd, IsFollowedDurably}
use Rattle.fm_durable.proofs.Keeping.{Holds, StoredLaws, same_restored, holds_after_line, known_alike, after_commit, all_kept}
use Rattle.fm_durable.proofs.Listed.{stay_listed}
use Rattle.fm_durable.proofs.Surviving.{keeps_same, keeps_grown, keeps_front, known_kept, keeps_put, keeps_then}

none_is : {P : Type 0} (k : Following) → None ≡ Some k → P
none_is k e = absurd (let no : ⊥ = cc in no)

module _ {T : Type 0} (model : T → DeviceModel) (alike : (a b : T) → is_some (model a).content ≡ is_some (model b).content) (most : ℕ) (behind : Packet → List Op) (stand : StandBehind behind)
    (laws : StoredLaws most behind) (label : List ℕ) (start : T) where
  abbrev first : DeviceModel
  first = model start

  abbrev Service : Type 0
  Service = DurableService T

  abbrev Step : Durable → List ℕ → List ℕ → Durable → Type 0
  Step = DurableAnswers most behind label first.content

  -- the service is where the stream is, and its device holds what was committed so far
  record At (d : Service) (s : Durable) : Type 0 where
    label_is : string_bytes d.label ≡ label
    renews : d.service.renew_after ≡ most
    is : IsIn d.service.session s.following
    head_is : s.head ≡ store_head label s.following
    kept : Holds s
    holds : HoldsCommitted first (model d.device) s.following s.head s.packets
    keeps : KeepsKnown first (model d.device)

  -- what is kept is kept
  then_kept : (d e : Service) → KeepsKnown first (model d.device) → KeepsKnown (model d.device) (model e.device) → KeepsKnown first (model e.device)
  then_kept d e p q = keeps_then first (model d.device) (model e.device) (alike start d.device) (alike start e.device) p q

  abbrev Goes : Service → Durable → List ℕ → List ℕ → Type 0
  Goes e s line answer = (t : Durable) × Step s line answer t × At e t

  -- ---- a line

  module _ (d e : Service) (line answer : List ℕ) (a : AnswersDurably model d line answer e) (can : e.fault ≡ None) (labelled : string_bytes d.label ≡ label) (renews : d.service.renew_after ≡ most)
      (kept : KeepsKnown first (model d.device)) where
    abbrev led : Option Following → Option Following → Type 0
    led was mid = Answers most behind was line answer mid

    labelled_then : string_bytes e.label ≡ label
    labelled_then = ap string_bytes a.label ∙ labelled

    renews_mid : StreamService.renew_after a.mid ≡ most
    renews_mid = a.answered.most ∙ renews

    kept_then : KeepsKnown first (model e.device)
    kept_then = then_kept d e kept (known_kept (model d.device) (model e.device) a.keeps)

    -- the coordinators of a stream's line are those of the line before
    same_head : (head : HeadModel) (k j : Following) → led (Some k) (Some j) → head ≡ store_head label (Some k) → head ≡ store_head label (Some j)
    same_head head k j so is = is ∙ ap (λ (ns : List ℕ). record { label = label; numbers = ns }) (sym (laws.listed_so line answer k j so))

    goes : (s : Durable) → Holds s → (mid : Option Following) (t : Durable) → led s.following mid → GoesOn behind label first.content s s.following mid t → Holds t
    goes s h mid t so on = holds_after_line most behind stand laws label first.content s.following mid s t line answer h so on

    by_line : (was mid : Option Following) (head : HeadModel) (ps : List Packet) → head ≡ store_head label was → Holds (record { following = was; head = head; packets = ps }) → HoldsCommitted first (model d.device) was head ps → led was mid
        → IsIn a.mid.session mid → ActsOnStore (string_bytes d.label) (model d.device) was mid a.mid (model e.device) e.service
        → Goes e (record { following = was; head = head; packets = ps }) line answer
    by_line None None head ps head_is known holds so is on = (
      record { following = None; head = head; packets = ps },
      record { mid = None; answered = so; goes_on = refl },
      record {
        label_is = labelled_then;
        renews = ap (λ (x : StreamService). x.renew_after) on.0 ∙ renews_mid;
        is = subst (λ (x : StreamService). IsIn x.session None) (sym on.0) is;
        head_is = head_is;
        kept = goes (record { following = None; head = head; packets = ps }) known None (record { following = None; head = head; packets = ps }) so refl;
        holds = on.1 ∙ holds;
        keeps = kept_then;
      },
    )
    by_line None (Some k) head ps head_is known holds so is on =
        let begun = on.restores behind stand in
        let own = store_head label (Some k) in
        let s : Durable = record { following = None; head = head; packets = ps } in
        let t : Durable = record { following = Some begun.0; head = own; packets = on.packets } in
        let opens : OpensStore behind label first.content k t = record {
          head = refl;
          found =
              subst (λ (l : List ℕ). IfSome first.content (AreFoundIn (store_head l (Some k)) on.packets)) labelled
              (subst (λ (m : DeviceModel). IfSome m.content (AreFoundIn (store_head (string_bytes d.label) (Some k)) on.packets)) holds on.found);
          can_be = on.can_be;
          begun = begun.0;
          restores = begun.1;
          is = refl;
        } in
        let listed : numbers_listed (Some begun.0) ≡ numbers_listed (Some k) =
        ap (λ (i : Following). numbers_listed (Some i)) begun.1.is ∙ same_restored behind k.world (known_packets (numbers_listed (Some k)) on.packets) in (
          t,
          record { mid = Some k; answered = so; goes_on = opens },
          record {
            label_is = labelled_then;
            renews = on.most ∙ renews_mid;
            is = begun.2;
            head_is = ap (λ (ns : List ℕ). record { label = label; numbers = ns }) (sym listed);
            kept = goes s known (Some k) t so opens;
            holds = subst (λ (l : List ℕ). HoldsStore (model e.device) (store_head l (Some k)) on.packets) labelled on.holds;
            keeps = kept_then;
          },
        )
    by_line (Some k) None head ps head_is known holds so is on = absurd (stay_listed most behind k line answer so)
    by_line (Some k) (Some j) head ps head_is known holds so is on = (
      record { following = Some j; head = head; packets = ps },
      record { mid = Some j; answered = so; goes_on = refl },
      record {
        label_is = labelled_then;
        renews = ap (λ (x : StreamService). x.renew_after) on.0 ∙ renews_mid;
        is = subst (λ (x : StreamService). IsIn x.session (Some j)) (sym on.0) is;
        head_is = same_head head k j so head_is;
        kept = goes (record { following = Some k; head = head; packets = ps }) known (Some j) (record { following = Some j; head = head; packets = ps }) so refl;
        holds = subst (λ (m : DeviceModel). HoldsStore m head ps) (sym on.1) holds;
        keeps = kept_then;
      },
    )

  after_line : (d e : Service) (s : Durable) (line answer : List ℕ) → At d s → AnswersDurably model d line answer e → e.fault ≡ None → Goes e s line answer
  after_line d e s line answer at a can =
      let so = a.answered.so behind stand s.following at.is in
      by_line d e line answer a can at.label_is at.renews at.keeps s.following so.0 s.head s.packets at.head_is at.kept at.holds
      (subst (λ (n : ℕ). Answers n behind s.following line answer so.0) at.renews so.1) so.2 (a.continues can s.following so.0 at.is so.2)

  -- ---- the lines of a group

  could_taken : (d e : Service) (line answer : List ℕ) → IsTaken (AnswersDurably model) d line answer e → e.fault ≡ None → d.fault ≡ None
  could_taken d e line answer (inl skipped) can = subst (λ (x : Service). x.fault ≡ None) skipped.1 can
  could_taken d e line answer (inr a) can = a.could can

  -- a store that can be used after lines could be used before them
  could_run : (d e : Service) (lines : List (List ℕ)) (text : List ℕ) → Run (AnswersDurably model) d lines text e → e.fault ≡ None → d.fault ≡ None
  could_run d e [] text r can = subst (λ (x : Service). x.fault ≡ None) r.1 can
  could_run d e (line ∷ lines) text r can = could_taken d r.0 line r.1 r.3 (could_run r.0 e lines r.2 r.5 can)

  abbrev To : Service → Durable → List (List ℕ) → List ℕ → Type 0
  To e s lines text = (t : Durable) × Run Step s lines text t × At e t

  one_more : (d mid e : Service) (s : Durable) (line : List ℕ) (lines : List (List ℕ)) (text one rest : List ℕ) → At d s → mid.fault ≡ None → text ≡ one ++ rest
      → ((t : Durable) → At mid t → To e t lines rest) → IsTaken (AnswersDurably model) d line one mid → To e s (line ∷ lines) text
  one_more d mid e s line lines text one rest at can is later (inl skipped) =
      let gone = later s (subst (λ (x : Service). At x s) (sym skipped.1) at) in
      (gone.0, (s, one, rest, inl (skipped.0, refl), is, gone.1), gone.2)
  one_more d mid e s line lines text one rest at can is later (inr a) =
      let first_gone = after_line d mid s line one at a can in
      let gone = later first_gone.0 first_gone.2 in
      (gone.0, (first_gone.0, one, rest, inr first_gone.1, is, gone.1), gone.2)

  by_run : (d e : Service) (s : Durable) (lines : List (List ℕ)) (text : List ℕ) → At d s → Run (AnswersDurably model) d lines text e → e.fault ≡ None → To e s lines text
  by_run d e s [] text at r can = (s, (r.0, refl), subst (λ (x : Service). At x s) (sym r.1) at)
  by_run d e s (line ∷ lines) text at r can =
      one_more d r.0 e s line lines text r.1 r.2 at (could_run r.0 e lines r.2 r.5 can) r.4 (λ t here. by_run r.0 e t lines r.2 here r.5 can) r.3

  -- ---- a commit

  -- what a commit made of the sets for which the coordinators stand
  abbrev Committed : Service → Durable → Type 0
  Committed e s = (t : Durable) × DurableCommits s t × At e t

  module _ (d e : Service) (c : CommitsSo model d e) (labelled : string_bytes d.label ≡ label) (renews : d.service.renew_after ≡ most) (keeps : KeepsKnown first (model d.device)) where
    labelled_after : string_bytes e.label ≡ label
    labelled_after = ap string_bytes c.stores.label ∙ labelled

    renews_after : StreamService.renew_after e.service ≡ most
    renews_after = c.stores.most ∙ renews

    unlisted : (head : HeadModel) (ps : List Packet) → IsIn d.service.session None → head ≡ store_head label None → Holds (record { following = None; head = head; packets = ps })
        → HoldsCommitted first (model d.device) None head ps → Committed e (record { following = None; head = head; packets = ps })
    unlisted head ps is head_is kept holds =
        let s : Durable = record { following = None; head = head; packets = ps } in
        let same = c.none (c.are None is) in (
          s,
          inl refl,
          record {
            label_is = labelled_after;
            renews = renews_after;
            is = c.stores.marked None is;
            head_is = head_is;
            kept = kept;
            holds = same ∙ holds;
            keeps = then_kept d e keeps (known_kept (model d.device) (model e.device) (keeps_same (model d.device) (model e.device) same));
          },
        )

    listed : (k : Following) (head : HeadModel) (ps : List Packet) → IsIn d.service.session (Some k) → head ≡ store_head label (Some k) → Holds (record { following = Some k; head = head; packets = ps })
        → HoldsCommitted first (model d.device) (Some k) head ps → AddsPackets model c.packets d.device e.device ⊎ PutsFull model d e.device → Committed e (record { following = Some k; head = head; packets = ps })
    listed k head ps is head_is kept holds (inl added) =
        let s : Durable = record { following = Some k; head = head; packets = ps } in
        let grown = added head ps holds in (
          with_unstored s (Some k),
          inl refl,
          record {
            label_is = labelled_after;
            renews = renews_after;
            is = c.stores.marked (Some k) is;
            head_is = head_is;
            kept = (after_commit most behind stand laws label first.content s (with_unstored s (Some k)) kept (inl refl)).0;
            holds = subst (λ (qs : List Packet). HoldsStore (model e.device) head (ps ++ qs)) (c.are (Some k) is) grown;
            keeps = then_kept d e keeps (known_kept (model d.device) (model e.device) (keeps_grown (model d.device) (model e.device) (alike d.device e.device) head ps c.packets holds grown));
          },
        )
    listed k head ps is head_is kept holds (inr puts) =
        let s : Durable = record { following = Some k; head = head; packets = ps } in
        let full = map seen_packet (full_packets_of k) in
        let put : HoldsStore (model e.device) head full =
        subst (λ (h : HeadModel). HoldsStore (model e.device) h full) (ap (λ (l : List ℕ). store_head l (Some k)) labelled ∙ sym head_is) (puts k is) in
        let same = subst (λ (h : HeadModel). AreKnownAlike h.numbers full (ps ++ map seen_packet (unstored_of k))) (sym head_is) (known_alike most behind stand laws label first.content k ps (kept k refl)) in (
          with_full s (Some k),
          inr refl,
          record {
            label_is = labelled_after;
            renews = renews_after;
            is = c.stores.marked (Some k) is;
            head_is = head_is;
            kept = (after_commit most behind stand laws label first.content s (with_full s (Some k)) kept (inr refl)).0;
            holds = put;
            keeps = then_kept d e keeps (keeps_put (model d.device) (model e.device) (alike d.device e.device) head ps (map seen_packet (unstored_of k)) full holds put same);
          },
        )

    by_commit : (o : Option Following) (head : HeadModel) (ps : List Packet) → IsIn d.service.session o → head ≡ store_head label o → Holds (record { following = o; head = head; packets = ps })
        → HoldsCommitted first (model d.device) o head ps → Committed e (record { following = o; head = head; packets = ps })
    by_commit None head ps is head_is kept holds = unlisted head ps is head_is kept holds
    by_commit (Some k) head ps is head_is kept holds = listed k head ps is head_is kept holds c.stores.changes

  committed_so : (d e : Service) (s : Durable) → At d s → CommitsSo model d e → Committed e s
  committed_so d e s at c = by_commit d e c at.label_is at.renews at.keeps s.following s.head s.packets at.is at.head_is at.kept at.holds

  -- ---- groups

  abbrev Led : Service → Durable → List LineGroup → Type 0
  Led e s groups = (t : Durable) × Groups Step DurableCommits s groups t × At e t

  by_groups : (d e : Service) (s : Durable) (groups : List LineGroup) → At d s → Groups (AnswersDurably model) (CommitsSo model) d groups e → Led e s groups
  by_groups d e s [] at r = (s, refl, subst (λ (x : Service). At x s) (sym r) at)
  by_groups d e s (g ∷ gs) at r =
      let done = r.1 in
      let gone = by_run d done.ran s g.lines g.answers at done.run done.commit.could in
      let stored = committed_so done.ran r.0 gone.0 gone.2 done.commit in
      let later = by_groups r.0 e stored.0 gs stored.2 r.2 in
      (later.0, (stored.0, record { some = done.some; ran = gone.0; run = gone.1; commit = stored.1 }, later.1), later.2)

  -- ---- a commit that failed

  untouched_next : (mid : StreamService) (next : Option Following) (k : Following) (line answer : List ℕ) (n : ℕ) → Answers n behind (Some k) line answer next → IsIn mid.session next
      → (j : Following) × IsIn mid.session (Some j)
  untouched_next mid None k line answer n so is = absurd (stay_listed n behind k line answer so)
  untouched_next mid (Some j) k line answer n so is = (j, is)

  untouched_taken : (d e : Service) (k : Following) (line answer : List ℕ) → IsIn d.service.session (Some k) → IsTaken (AnswersDurably model) d line answer e
      → (model e.device ≡ model d.device) × ((j : Following) × IsIn e.service.session (Some j))
  untouched_taken d e k line answer is (inl skipped) =
      (ap (λ (x : Service). model x.device) skipped.1, (k, subst (λ (x : Service). IsIn x.service.session (Some k)) (sym skipped.1) is))
  untouched_taken d e k line answer is (inr a) =
      let same = a.untouched k is in
      let so = a.answered.so behind stand (Some k) is in
      let next = untouched_next a.mid so.0 k line answer d.service.renew_after so.1 so.2 in
      (same.1, (next.0, subst (λ (x : StreamService). IsIn x.session (Some next.0)) (sym same.0) next.1))

  -- once the store is open, lines do nothing to it
  untouched_run : (d e : Service) (k : Following) (lines : List (List ℕ)) (text : List ℕ) → IsIn d.service.session (Some k) → Run (AnswersDurably model) d lines text e → model e.device ≡ model d.device
  untouched_run d e k [] text is r = ap (λ (x : Service). model x.device) r.1
  untouched_run d e k (line ∷ lines) text is r =
      let one = untouched_taken d r.0 k line r.1 is r.3 in
      untouched_run r.0 e one.1.0 lines r.2 one.1.1 r.5 ∙ one.0

  after_fault : (d ran e : Service) (o : Option Following) (head : HeadModel) (ps : List Packet) (lines : List (List ℕ)) (text : List ℕ) → IsIn d.service.session o
      → HoldsCommitted first (model d.device) o head ps → Run (AnswersDurably model) d lines text ran → FailsSo model ran e → HoldsAfterFault (model e.device) o head ps
  after_fault d ran e None head ps lines text is holds r f = tt
  after_fault d ran e (Some k) head ps lines text is holds r f =
      f.holds head ps (subst (λ (m : DeviceModel). HoldsStore m head ps) (sym (untouched_run d ran k lines text is r)) holds)

  kept_taken : (d e : Service) (line answer : List ℕ) → IsTaken (AnswersDurably model) d line answer e → KeepsStores (model d.device) (model e.device)
  kept_taken d e line answer (inl skipped) = keeps_same (model d.device) (model e.device) (ap (λ (x : Service). model x.device) skipped.1)
  kept_taken d e line answer (inr a) = a.keeps

  kept_run : (d e : Service) (lines : List (List ℕ)) (text : List ℕ) → KeepsKnown first (model d.device) → Run (AnswersDurably model) d lines text e → KeepsKnown first (model e.device)
  kept_run d e [] text kept r = subst (λ (x : Service). KeepsKnown first (model x.device)) (sym r.1) kept
  kept_run d e (line ∷ lines) text kept r = kept_run r.0 e lines r.2 (then_kept d r.0 kept (known_kept (model d.device) (model r.0.device) (kept_taken d r.0 line r.1 r.3))) r.5

  kept_open : (ran e : Service) (o : Option Following) (head : HeadModel) (ps : List Packet) → IsIn ran.service.session o → HoldsCommitted first (model ran.device) o head ps → FailsSo model ran e
      → KeepsStores (model ran.device) (model e.device)
  kept_open ran e None head ps is holds f = keeps_same (model ran.device) (model e.device) (f.unlisted is)
  kept_open ran e (Some k) head ps is holds f = keeps_front (model ran.device) (model e.device) (alike ran.device e.device) head ps holds (f.holds head ps holds)

  kept_fault : (d ran e : Service) (s : Durable) (lines : List (List ℕ)) (text : List ℕ) → At d s → Run (AnswersDurably model) d lines text ran → FailsSo model ran e
      → (o : Option StoreFault) → ran.fault ≡ o → KeepsStores (model ran.device) (model e.device)
  kept_fault d ran e s lines text at r f None can =
      let gone = by_run d ran s lines text at r can in
      kept_open ran e gone.0.following gone.0.head gone.0.packets gone.2.is gone.2.holds f
  kept_fault d ran e s lines text at r f (Some fault) broken = keeps_same (model ran.device) (model e.device) (f.broken (λ none. cc))

  kept_at_end : {U : Type 0} (ended : Result U StreamFault) (d e : Service) (s : Durable) (last : List (List ℕ)) → At d s
      → IsLeft (AnswersDurably model) (FailsSo model) ended d last e → KeepsKnown first (model e.device)
  kept_at_end (Ok u) d e s last at left = subst (λ (x : Service). KeepsKnown first (model x.device)) (sym left.1) at.keeps
  kept_at_end (Err Source) d e s last at left = subst (λ (x : Service). KeepsKnown first (model x.device)) (sym left.1) at.keeps
  kept_at_end (Err Sink) d e s last at left = subst (λ (x : Service). KeepsKnown first (model x.device)) (sym left.1) at.keeps
  kept_at_end (Err Commit) d e s last at left =
      then_kept left.ran e (kept_run d left.ran last left.answers at.keeps left.run)
      (known_kept (model (DurableService.device left.ran)) (model e.device) (kept_fault d left.ran e s last left.answers at left.run left.fails (DurableService.fault left.ran) refl))

  at_end : {U : Type 0} (ended : Result U StreamFault) (d e : Service) (s : Durable) (last : List (List ℕ)) → At d s
      → IsLeft (AnswersDurably model) (FailsSo model) ended d last e → HoldsAtEnd ended first (model e.device) s
  at_end (Ok u) d e s last at left = subst (λ (x : Service). HoldsCommitted first (model x.device) s.following s.head s.packets) (sym left.1) at.holds
  at_end (Err Source) d e s last at left = subst (λ (x : Service). HoldsCommitted first (model x.device) s.following s.head s.packets) (sym left.1) at.holds
  at_end (Err Sink) d e s last at left = subst (λ (x : Service). HoldsCommitted first (model x.device) s.following s.head s.packets) (sym left.1) at.holds
  at_end (Err Commit) d e s last at left = after_fault d left.ran e s.following s.head s.packets last left.answers at.is at.holds left.run left.fails

  pub followed : {U : Type 0} (ended : Result U StreamFault) (result : Result U DurableFault) (d e : Service) (new : DeviceModel) (streams : Streams)
      → string_bytes d.label ≡ label → d.service.renew_after ≡ most → IsIn d.service.session None → model d.device ≡ first → model e.device ≡ new → EndsAs ended result
      → IsFollowedInGroups (AnswersDurably model) (CommitsSo model) (FailsSo model) ended d e streams → IsFollowedDurably most behind label result first new streams
  followed ended result d e new streams labelled renews is device device_then end f =
      let gone = by_groups d f.kept (not_opened label) f.groups (record {
        label_is = labelled;
        renews = renews;
        is = is;
        head_is = refl;
        kept = λ k e. none_is k e;
        holds = device;
        keeps = known_kept first (model d.device) (keeps_same first (model d.device) device);
      }) f.committed in
      record {
        text = f.text;
        read = f.read;
        ended = ended;
        is = end;
        groups = f.groups;
        kept = gone.0;
        committed = gone.1;
        are_kept = all_kept most behind stand laws label first.content gone.0 f.groups gone.1;
        last = f.last;
        followed = f.followed;
        went = f.went;
        holds = subst (λ (m : DeviceModel). HoldsAtEnd ended first m gone.0) device_then (at_end ended f.kept e gone.0 f.last gone.2 f.left);
        keeps = subst (λ (m : DeviceModel). KeepsKnown first m) device_then (kept_at_end ended f.kept e gone.0 f.last gone.2 f.left);
      }
