-- Groups that were committed and sent so far, and the next one.
use Rattle.std.proofs.Common.{◌≡◌, ◌⊎◌, ◌<◌, ◌≤◌, ◌+◌, ℕ, List, [], ◌∷◌, ◌++◌, Bool, true, false, Result, Ok, Err, Option, length, refl, sym, ap, ◌∙◌, subst, append_assoc, append-nil, length-append, inl, inr, arith}
use Rattle.std.specs.List.{flat_map}
use Rattle.std.specs.Result.{IsErrAnd}
use Rattle.std.specs.Io.KnownBytes.{Appends, Consumes, IsAtEnd}
use Rattle.std.proofs.KnownBytes.{Consumes-nil, Consumes-trans}
use Rattle.std.proofs.lemmas.List.Concat.{flat_map-append}
use Rattle.fm_dimacs.specs.Sending.{AppendsPrefix}
use Rattle.fm_dimacs.proofs.Sent.{appends_nothing, appends_more, prefix_later}
use Rattle.fm_io.specs.declared.group_commit.StreamFault.{StreamFault}
use Rattle.fm_io.specs.declared.group_commit.StreamFault.TheVariants as fault
use Rattle.fm_io.specs.declared.group_commit.GroupEnd.{GroupEnd}
use Rattle.fm_io.specs.declared.group_commit.GroupEnd.TheVariants.{Open, AtEnd, CutOff}
use Rattle.fm_io.specs.Sources.{Streams}
use Rattle.fm_io.specs.Lines.{lines_of, with_line_feed}
use Rattle.fm_io.specs.Runs.{Run, most_counted}
use Rattle.fm_io.specs.Groups.{LineGroup, lines_in, answers_in, IsCommitted, Groups, IsCutWithin, IsFollowedInGroups}
use Rattle.fm_io.specs.inner.GroupSteps.{AreWhole, IsBrokenOff, EndsSo, AreAny, IsGroup, IsSettled}

-- groups were committed and sent, of a text of which more is said
pub record Grouped {D : Type 0} (Answers : D → List ℕ → List ℕ → D → Type 0) (Commits : D → D → Type 0) (old now : D) (given left was is : Option (List ℕ)) (had has : Bool) (Whole : List ℕ → List (List ℕ) → Type 0) : Type 0 where
  pub text : List ℕ
  pub read : Consumes given left text
  pub groups : List LineGroup
  pub committed : Groups Answers Commits old groups now
  pub whole : Whole text (lines_in groups)
  pub out : Appends was is (answers_in groups)
  pub fails_not : has ≡ had

-- whole lines, of so many bytes at least
abbrev pub AreWholeFrom : ℕ → List ℕ → List (List ℕ) → Type 0
AreWholeFrom count text lines = AreWhole text lines × (count ≤ length text)

-- whole lines and then those of one group more, which ends so
abbrev pub Reaches : GroupEnd → ℕ → Option (List ℕ) → Bool → List ℕ → List (List ℕ) → Type 0
Reaches Open count left failed text lines = AreWholeFrom (count + 1) text lines
Reaches AtEnd count left failed text lines = (lines ≡ lines_of text) × IsAtEnd left
Reaches CutOff count left failed text lines = IsBrokenOff text lines failed

module _ (text more : List ℕ) (lines next : List (List ℕ)) (w : AreWhole text lines) where
  spelled_more : (rest : List ℕ) → more ≡ flat_map with_line_feed next ++ rest → text ++ more ≡ flat_map with_line_feed (lines ++ next) ++ rest
  spelled_more rest e =
      (λ i. w.spelled i ++ e i)
      ∙ sym (append_assoc (flat_map with_line_feed lines) (flat_map with_line_feed next) rest)
      ∙ ap (λ t. t ++ rest) (sym (flat_map-append with_line_feed lines next))

  before_more : (rest : List (List ℕ)) → lines_of more ≡ next ++ rest → lines_of (text ++ more) ≡ (lines ++ next) ++ rest
  before_more rest e = w.before more ∙ ap (λ ls. lines ++ ls) e ∙ sym (append_assoc lines next rest)

  pub reaches : (end : GroupEnd) (count : ℕ) (left : Option (List ℕ)) (failed : Bool) → count ≤ length text → EndsSo end more next left failed → Reaches end count left failed (text ++ more) (lines ++ next)
  reaches Open count left failed counted h =
      let all : length (text ++ more) ≡ length text + length more = length-append text more in
      let some : 0 < length more = h.1 in (
        record {
          spelled = spelled_more [] (h.0.spelled ∙ sym (append-nil (flat_map with_line_feed next))) ∙ append-nil (flat_map with_line_feed (lines ++ next));
          before = λ rest. ap lines_of (append_assoc text more rest) ∙ w.before (more ++ rest) ∙ ap (λ ls. lines ++ ls) (h.0.before rest) ∙ sym (append_assoc lines next (lines_of rest));
        },
        omega arith,
      )
  reaches AtEnd count left failed counted h =
      (sym (w.before more ∙ ap (λ ls. lines ++ ls) (sym h.0)), h.1)
  reaches CutOff count left failed counted h =
      record {
        rest = h.rest;
        line = h.line;
        whole = spelled_more h.rest h.whole;
        before = before_more (lines_of h.rest) h.before;
        cause = longer h.cause;
      } where
        longer : (failed ≡ true) ⊎ (most_counted ≤ length more) → (failed ≡ true) ⊎ (most_counted ≤ length (text ++ more))
        longer (inl f) = inl f
        longer (inr many) =
            let all : length (text ++ more) ≡ length text + length more = length-append text more in
            inr (omega arith)

-- of a stream whose source failed so
module _ (text : List ℕ) (lines : List (List ℕ)) (streams : Streams) where
  pub cut_within : IsBrokenOff text lines streams.source_failed → IsCutWithin text lines streams
  cut_within b = (record { rest = b.rest; line = b.line; whole = b.whole; cause = b.cause }, b.before)

  all_whole : AreWhole text lines → lines ≡ lines_of text
  all_whole w = sym (append-nil lines) ∙ sym (w.before []) ∙ ap lines_of (append-nil text)

  pub are_run : (end : GroupEnd) (count : ℕ) → Reaches end count streams.left streams.source_failed text lines → (lines ≡ lines_of text) ⊎ IsCutWithin text lines streams
  are_run Open count h = inl (all_whole h.0)
  are_run AtEnd count h = inl h.0
  are_run CutOff count h = inr (cut_within h)

lines_later : (groups : List LineGroup) (g : LineGroup) → lines_in (groups ++ g ∷ []) ≡ lines_in groups ++ g.lines
lines_later groups g = flat_map-append (λ (h : LineGroup). h.lines) groups (g ∷ []) ∙ ap (λ ls. lines_in groups ++ ls) (append-nil g.lines)

answers_later : (groups : List LineGroup) (g : LineGroup) → answers_in (groups ++ g ∷ []) ≡ answers_in groups ++ g.answers
answers_later groups g = flat_map-append (λ (h : LineGroup). h.answers) groups (g ∷ []) ∙ ap (λ t. answers_in groups ++ t) (append-nil g.answers)

module _ {D : Type 0} (Answers : D → List ℕ → List ℕ → D → Type 0) (Commits Fails : D → D → Type 0) where
  groups_later : (old now new : D) (groups : List LineGroup) (g : LineGroup) → Groups Answers Commits old groups now → IsCommitted Answers Commits now g new → Groups Answers Commits old (groups ++ g ∷ []) new
  groups_later old now new [] g are is = (new, subst (λ d. IsCommitted Answers Commits d g new) are is, refl)
  groups_later old now new (h ∷ groups) g are is = (are.0, are.1, groups_later are.0 now new groups g are.2 is)

  pub groups_first : (old : D) (given was : Option (List ℕ)) (had : Bool) → Grouped Answers Commits old old given given was was had had (AreWholeFrom 0)
  groups_first old given was had = record {
    text = [];
    read = Consumes-nil given;
    groups = [];
    committed = refl;
    whole = (record { spelled = refl; before = λ rest. refl }, omega arith);
    out = appends_nothing was;
    fails_not = refl;
  }

  module _ (old now : D) (count : ℕ) (given left was is : Option (List ℕ)) (had has : Bool) (s : Grouped Answers Commits old now given left was is had has (AreWholeFrom count)) where
    -- more was read than is counted
    pub too_many : {T : Type 0} (failed : Bool) → most_counted ≤ count → IsFollowedInGroups {T = T} Answers Commits Fails (Err fault.Source) old now (record { given = given; left = left; source_failed = failed; old = was; new = is; had_failed = had; has_failed = has })
    too_many failed many =
        let counted : count ≤ length s.text = s.whole.1 in
        record {
          text = s.text;
          read = s.read;
          groups = s.groups;
          kept = now;
          committed = s.committed;
          last = [];
          left = (refl, refl);
          followed = subst (λ ls. IsCutWithin s.text ls (record { given = given; left = left; source_failed = failed; old = was; new = is; had_failed = had; has_failed = has })) (sym (append-nil (lines_in s.groups)))
              (record { rest = []; line = refl; whole = s.whole.0.spelled ∙ sym (append-nil (flat_map with_line_feed (lines_in s.groups))); cause = inr (omega arith) }, ap lines_of (sym (append-nil s.text)) ∙ s.whole.0.before []);
          went = (s.out, s.fails_not);
        }

    module _ (end : GroupEnd) (mid : D) (left2 : Option (List ℕ)) (failed any : Bool) (answers : List ℕ) (g : IsGroup Answers end now mid left left2 failed any answers) (new : D) (is2 : Option (List ℕ)) (has2 : Bool) where
      abbrev read_on : Consumes given left2 (s.text ++ g.text)
      read_on = Consumes-trans given left left2 s.text g.text s.read g.read

      abbrev streams : Streams
      streams = record { given = given; left = left2; source_failed = failed; old = was; new = is2; had_failed = had; has_failed = has2 }

      abbrev group : LineGroup
      group = record { lines = g.lines; answers = answers }

      reached : Reaches end count left2 failed (s.text ++ g.text) (lines_in s.groups ++ g.lines)
      reached = reaches s.text g.text (lines_in s.groups) g.lines s.whole.0 end count left2 failed s.whole.1 g.ends

      is_committed : any ≡ true → Commits mid new → IsCommitted Answers Commits now group new
      is_committed is_any commit = record { some = subst (λ a. AreAny a g.lines) is_any g.some; ran = mid; run = g.run; commit = commit }

      -- the group has lines, was committed, and its answers were sent
      settled_some : any ≡ true → Commits mid new → Appends is is2 answers → has2 ≡ has → Grouped Answers Commits old new given left2 was is2 had has2 (Reaches end count left2 failed)
      settled_some is_any commit sent fails_not = record {
        text = s.text ++ g.text;
        read = read_on;
        groups = s.groups ++ group ∷ [];
        committed = groups_later old now new s.groups group s.committed (is_committed is_any commit);
        whole = subst (Reaches end count left2 failed (s.text ++ g.text)) (sym (lines_later s.groups group)) reached;
        out = subst (Appends was is2) (sym (answers_later s.groups group)) (appends_more was is is2 (answers_in s.groups) answers s.out sent);
        fails_not = fails_not ∙ s.fails_not;
      }

      -- it has no lines
      settled_none : g.lines ≡ [] → new ≡ mid → Appends is is2 [] → has2 ≡ has → Grouped Answers Commits old new given left2 was is2 had has2 (Reaches end count left2 failed)
      settled_none none same sent fails_not =
          let idle = subst (λ ls. Run Answers now ls answers mid) none g.run in
          record {
            text = s.text ++ g.text;
            read = read_on;
            groups = s.groups;
            committed = subst (Groups Answers Commits old s.groups) (sym (same ∙ idle.1)) s.committed;
            whole = subst (Reaches end count left2 failed (s.text ++ g.text)) (ap (λ ls. lines_in s.groups ++ ls) none ∙ append-nil (lines_in s.groups)) reached;
            out = subst (Appends was is2) (append-nil (answers_in s.groups)) (appends_more was is is2 (answers_in s.groups) [] s.out sent);
            fails_not = fails_not ∙ s.fails_not;
          }

      -- the commit failed
      uncommitted : {T : Type 0} → any ≡ true → Fails mid new → Appends is is2 [] → has2 ≡ has → IsFollowedInGroups {T = T} Answers Commits Fails (Err fault.Commit) old new streams
      uncommitted is_any fails sent fails_not = record {
        text = s.text ++ g.text;
        read = read_on;
        groups = s.groups;
        kept = now;
        committed = s.committed;
        last = g.lines;
        left = record { some = subst (λ a. AreAny a g.lines) is_any g.some; answers = answers; ran = mid; run = g.run; fails = fails };
        followed = are_run (s.text ++ g.text) (lines_in s.groups ++ g.lines) streams end count reached;
        went = (subst (Appends was is2) (append-nil (answers_in s.groups)) (appends_more was is is2 (answers_in s.groups) [] s.out sent), fails_not ∙ s.fails_not);
      }

      -- its answers did not go out whole
      unsent : {T : Type 0} → any ≡ true → Commits mid new → AppendsPrefix is is2 answers → has2 ≡ true → IsFollowedInGroups {T = T} Answers Commits Fails (Err fault.Sink) old new streams
      unsent is_any commit sent failed_now = record {
        text = s.text ++ g.text;
        read = read_on;
        groups = s.groups ++ group ∷ [];
        kept = new;
        committed = groups_later old now new s.groups group s.committed (is_committed is_any commit);
        last = [];
        left = (refl, refl);
        followed = are_run (s.text ++ g.text) (lines_in (s.groups ++ group ∷ []) ++ []) streams end count
            (subst (Reaches end count left2 failed (s.text ++ g.text)) (sym (append-nil (lines_in (s.groups ++ group ∷ [])) ∙ lines_later s.groups group)) reached);
        went = (subst (AppendsPrefix was is2) (sym (answers_later s.groups group)) (prefix_later was is is2 (answers_in s.groups) answers s.out sent), failed_now);
      }

  -- a group was run, and then settled
  module _ (old now : D) (count : ℕ) (given left was is : Option (List ℕ)) (had has : Bool) (s : Grouped Answers Commits old now given left was is had has (AreWholeFrom count)) where
    module _ (end : GroupEnd) (mid : D) (left2 : Option (List ℕ)) (failed : Bool) (answers : List ℕ) (new : D) (is2 : Option (List ℕ)) (has2 : Bool) where
      abbrev streams_then : Streams
      streams_then = record { given = given; left = left2; source_failed = failed; old = was; new = is2; had_failed = had; has_failed = has2 }

      pub settled : {T : Type 0} (t : T) (any : Bool) → IsGroup Answers end now mid left left2 failed any answers → IsSettled Commits Fails (Ok t) any mid new is is2 has has2 answers
          → Grouped Answers Commits old new given left2 was is2 had has2 (Reaches end count left2 failed)
      settled t true g h = settled_some old now count given left was is had has s end mid left2 failed true answers g new is2 has2 refl h.0 h.1 h.2
      settled t false g h = settled_none old now count given left was is had has s end mid left2 failed false answers g new is2 has2 g.some h.0 h.1 h.2

      pub unsettled : {T : Type 0} (any : Bool) → IsGroup Answers end now mid left left2 failed any answers → (r : Result T StreamFault) (x : StreamFault) → IsErrAnd r (λ e. e ≡ x)
          → IsSettled {T = T} Commits Fails (Err x) any mid new is is2 has has2 answers
          → IsFollowedInGroups Answers Commits Fails r old new streams_then
      unsettled any g (Ok t) x e h = absurd e
      unsettled any g (Err y) fault.Source e h = absurd h
      unsettled {T = T} any g (Err y) fault.Commit e h =
          subst (λ z. IsFollowedInGroups {T = T} Answers Commits Fails (Err z) old new streams_then) (sym e)
          (uncommitted old now count given left was is had has s end mid left2 failed any answers g new is2 has2 h.0 h.1 h.2 h.3)
      unsettled {T = T} any g (Err y) fault.Sink e h =
          subst (λ z. IsFollowedInGroups {T = T} Answers Commits Fails (Err z) old new streams_then) (sym e)
          (unsent old now count given left was is had has s end mid left2 failed any answers g new is2 has2 h.0 h.1 h.2 h.3)

  -- nothing more is read
  module _ (old now : D) (count : ℕ) (given left was is : Option (List ℕ)) (had has failed : Bool) (end : GroupEnd) (s : Grouped Answers Commits old now given left was is had has (Reaches end count left failed)) where
    abbrev ends : Streams
    ends = record { given = given; left = left; source_failed = failed; old = was; new = is; had_failed = had; has_failed = has }

    last_none : (e : GroupEnd) → end ≡ e → Reaches e count left failed s.text (lines_in s.groups ++ [])
    last_none e is_so = subst (λ x. Reaches x count left failed s.text (lines_in s.groups ++ [])) is_so (subst (Reaches end count left failed s.text) (sym (append-nil (lines_in s.groups))) s.whole)

    pub at_end : {T : Type 0} (t : T) → end ≡ AtEnd → IsFollowedInGroups Answers Commits Fails (Ok t) old now ends
    at_end t e = record {
      text = s.text;
      read = s.read;
      groups = s.groups;
      kept = now;
      committed = s.committed;
      last = [];
      left = (refl, refl);
      followed = last_none AtEnd e;
      went = (s.out, s.fails_not);
    }

    pub cut_off : {T : Type 0} → end ≡ CutOff → IsFollowedInGroups {T = T} Answers Commits Fails (Err fault.Source) old now ends
    cut_off e = record {
      text = s.text;
      read = s.read;
      groups = s.groups;
      kept = now;
      committed = s.committed;
      last = [];
      left = (refl, refl);
      followed = cut_within s.text (lines_in s.groups ++ []) ends (last_none CutOff e);
      went = (s.out, s.fails_not);
    }

    pub goes_on : end ≡ Open → Grouped Answers Commits old now given left was is had has (AreWholeFrom (count + 1))
    goes_on e = record {
      text = s.text;
      read = s.read;
      groups = s.groups;
      committed = s.committed;
      whole = subst (λ x. Reaches x count left failed s.text (lines_in s.groups)) e s.whole;
      out = s.out;
      fails_not = s.fails_not;
    }
