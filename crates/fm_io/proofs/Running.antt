-- What was followed of a stream so far, and what comes next.
use Rattle.std.proofs.Common.{◌≡◌, ◌⊎◌, ◌<◌, ◌≤◌, ◌+◌, ℕ, List, [], ◌∷◌, ◌++◌, Bool, true, Result, Ok, Err, Option, length, refl, sym, ap, ◌∙◌, subst, append_assoc, append-nil, length-append, inl, inr, arith}
use Rattle.std.specs.List.{flat_map}
use Rattle.std.specs.Result.{IsErrAnd, IsOkUnless}
use Rattle.std.specs.Io.KnownBytes.{Appends, Consumes, IsAtEnd}
use Rattle.std.proofs.KnownBytes.{Consumes-nil, Consumes-trans}
use Rattle.fm_records.specs.declared.refusal.Refusal.{Refusal}
use Rattle.fm_records.specs.declared.refusal.Refusal.TheVariants.{BadScript, WriteFault}
use Rattle.fm_dimacs.specs.Sending.{AppendsPrefix, StopsBy, IsSent}
use Rattle.fm_dimacs.proofs.Sent.{appends_nothing, appends_more, prefix_later}
use Rattle.fm_io.specs.Sources.{Streams}
use Rattle.fm_io.specs.Lines.{lines_of, IsLine, with_line_feed}
use Rattle.fm_io.specs.Runs.{IsTaken, Run, IsFollowed, most_counted}
use Rattle.fm_io.proofs.Spelling.{AreLines, are_more, ended_more, lines_more, first_line, last_line}

-- whole lines were read, so many, and answered
pub record SoFar {D : Type 0} (Answers : D → List ℕ → List ℕ → D → Type 0) (old now : D) (count : ℕ) (given left was is : Option (List ℕ)) (had has : Bool) : Type 0 where
  pub text : List ℕ
  pub read : Consumes given left text
  pub lines : List (List ℕ)
  pub whole : text ≡ flat_map with_line_feed lines
  pub each : AreLines lines
  pub counted : count ≤ length text
  pub answers : List ℕ
  pub run : Run Answers old lines answers now
  pub out : Appends was is answers
  pub fails_not : has ≡ had

-- a line with its feed has a byte at least
some_byte : (line : List ℕ) (text bytes : List ℕ) (count : ℕ) → bytes ≡ with_line_feed line → count ≤ length text → count + 1 ≤ length (text ++ bytes)
some_byte line text bytes count e h =
    let all : length (text ++ bytes) ≡ length text + length bytes = length-append text bytes in
    let one : length bytes ≡ length line + 1 = ap length e ∙ length-append line (10 ∷ []) in
    omega arith

module _ {D : Type 0} (Answers : D → List ℕ → List ℕ → D → Type 0) where
  pub run_more : (old mid new : D) (lines : List (List ℕ)) (line text more : List ℕ) → Run Answers old lines text mid → IsTaken Answers mid line more new → Run Answers old (lines ++ line ∷ []) (text ++ more) new
  run_more old mid new [] line text more r t =
      (new, more, [], subst (λ d. IsTaken Answers d line more new) r.1 t, ap (λ x. x ++ more) r.0 ∙ sym (append-nil more), (refl, refl))
  run_more old mid new (l ∷ lines) line text more r t =
      (r.0, r.1, r.2 ++ more, r.3, ap (λ x. x ++ more) r.4 ∙ append_assoc r.1 r.2 more, run_more r.0 mid new lines line r.2 more r.5 t)

  pub at_first : (old : D) (given was : Option (List ℕ)) (had : Bool) → SoFar Answers old old 0 given given was was had had
  at_first old given was had =
      record {
        text = [];
        read = Consumes-nil given;
        lines = [];
        whole = refl;
        each = tt;
        counted = omega arith;
        answers = [];
        run = (refl, refl);
        out = appends_nothing was;
        fails_not = refl;
      }

  module _ (old now : D) (count : ℕ) (given left was is : Option (List ℕ)) (had has : Bool) (s : SoFar Answers old now count given left was is had has) where
    -- more was read than is counted
    pub too_many : {T : Type 0} (n : ℕ) (failed : Bool) → most_counted ≤ count → IsFollowed {T = T} Answers (Err (BadScript n)) old now (record { given = given; left = left; source_failed = failed; old = was; new = is; had_failed = had; has_failed = has })
    too_many n failed many =
        let counted : count ≤ length s.text = s.counted in
        record {
          text = s.text;
          read = s.read;
          lines = s.lines;
          followed = record { rest = []; line = refl; whole = s.whole ∙ sym (append-nil (flat_map with_line_feed s.lines)); cause = inr (omega arith) };
          answers = s.answers;
          run = s.run;
          went = (s.out, s.fails_not);
        }

    module _ (bytes : List ℕ) (left2 : Option (List ℕ)) (took : Consumes left left2 bytes) (failed : Bool) where
      abbrev read_on : Consumes given left2 (s.text ++ bytes)
      read_on = Consumes-trans given left left2 s.text bytes s.read took

      abbrev streams : Option (List ℕ) → Bool → Streams
      streams out has_now = record { given = given; left = left2; source_failed = failed; old = was; new = out; had_failed = had; has_failed = has_now }

      all_lines : (rest : List (List ℕ)) → lines_of bytes ≡ rest → s.lines ++ rest ≡ lines_of (s.text ++ bytes)
      all_lines rest e = ap (λ r. s.lines ++ r) (sym e) ∙ sym (lines_more s.lines bytes s.each) ∙ ap (λ t. lines_of (t ++ bytes)) (sym s.whole)

      -- the end
      pub at_end : {T : Type 0} (t : T) → bytes ≡ [] → IsAtEnd left2 → IsFollowed Answers (Ok t) old now (streams is has)
      at_end t none end =
          record {
            text = s.text ++ bytes;
            read = read_on;
            lines = s.lines;
            followed = (sym (append-nil s.lines) ∙ all_lines [] (ap lines_of none), end);
            answers = s.answers;
            run = s.run;
            went = (s.out, s.fails_not);
          }

      -- the source failed within a line
      pub broken_off : {T : Type 0} (r : Result T Refusal) (x : Refusal) (n : ℕ) → IsErrAnd r (λ e. e ≡ x) → x ≡ BadScript n → IsLine bytes → (failed ≡ true) ⊎ (most_counted ≤ length bytes) → IsFollowed Answers r old now (streams is has)
      broken_off (Ok t) x n h is_so line cause = absurd h
      broken_off {T = T} (Err e) x n h is_so line cause =
          let longer : length (s.text ++ bytes) ≡ length s.text + length bytes = length-append s.text bytes in
          let why : (failed ≡ true) ⊎ (most_counted ≤ length (s.text ++ bytes)) = by_cause longer cause in
          subst (λ (y : Refusal). IsFollowed {T = T} Answers (Err y) old now (streams is has)) (sym (h ∙ is_so))
          (record {
            text = s.text ++ bytes;
            read = read_on;
            lines = s.lines;
            followed = record { rest = bytes; line = line; whole = ap (λ t. t ++ bytes) s.whole; cause = why };
            answers = s.answers;
            run = s.run;
            went = (s.out, s.fails_not);
          }) where
            by_cause : length (s.text ++ bytes) ≡ length s.text + length bytes → (failed ≡ true) ⊎ (most_counted ≤ length bytes) → (failed ≡ true) ⊎ (most_counted ≤ length (s.text ++ bytes))
            by_cause longer (inl f) = inl f
            by_cause longer (inr many) = inr (omega arith)

      module _ (new : D) (is2 : Option (List ℕ)) (has2 : Bool) (line answer : List ℕ) (taken : IsTaken Answers now line answer new) where
        -- a line more, whose answer went out
        pub next : IsLine line → bytes ≡ with_line_feed line → Appends is is2 answer × (has2 ≡ has) → SoFar Answers old new (count + 1) given left2 was is2 had has2
        next one e sent =
            record {
              text = s.text ++ bytes;
              read = read_on;
              lines = s.lines ++ line ∷ [];
              whole = (λ i. s.whole i ++ e i) ∙ sym (ended_more s.lines line);
              each = are_more s.lines line s.each one;
              counted = some_byte line s.text bytes count e s.counted;
              answers = s.answers ++ answer;
              run = run_more old now new s.lines line s.answers answer s.run taken;
              out = appends_more was is is2 s.answers answer s.out sent.0;
              fails_not = sent.1 ∙ s.fails_not;
            }

        -- a line whose answer did not go out whole
        pub stopped : {T : Type 0} (r : Result T Refusal) (x : Refusal) → IsErrAnd r (λ e. e ≡ x) → x ≡ WriteFault → lines_of bytes ≡ line ∷ [] → AppendsPrefix is is2 answer × StopsBy x has has2 → IsFollowed Answers r old new (streams is2 has2)
        stopped (Ok t) x h fault e sent = absurd h
        stopped {T = T} (Err y) x h fault e sent =
            subst (λ (z : Refusal). IsFollowed {T = T} Answers (Err z) old new (streams is2 has2)) (sym (h ∙ fault))
            (record {
              text = s.text ++ bytes;
              read = read_on;
              lines = s.lines ++ line ∷ [];
              followed = all_lines (line ∷ []) e;
              answers = s.answers ++ answer;
              run = run_more old now new s.lines line s.answers answer s.run taken;
              went = (prefix_later was is is2 s.answers answer s.out sent.0, subst (λ z. StopsBy z has has2) fault sent.1);
            })

        -- the last line of the stream, whose answer went out or not
        pub at_last : {T : Type 0} (r : Result T Refusal) → lines_of bytes ≡ line ∷ [] → IsAtEnd left2 → IsOkUnless r WriteFault → IsSent r is is2 has has2 answer → IsFollowed Answers r old new (streams is2 has2)
        at_last (Ok t) e end cause sent =
            record {
              text = s.text ++ bytes;
              read = read_on;
              lines = s.lines ++ line ∷ [];
              followed = (all_lines (line ∷ []) e, end);
              answers = s.answers ++ answer;
              run = run_more old now new s.lines line s.answers answer s.run taken;
              went = (appends_more was is is2 s.answers answer s.out sent.0, sent.1 ∙ s.fails_not);
            }
        at_last (Err x) e end cause sent = stopped (Err x) x refl cause e sent

-- what stands in a line alone, with its feed or without
pub one_line : (line : List ℕ) → IsLine line → 0 < length line → lines_of line ≡ line ∷ []
one_line [] h lt = absurd (omega arith)
one_line (b ∷ line) h lt = last_line b line h

pub one_ended : (line bytes : List ℕ) → IsLine line → bytes ≡ with_line_feed line → lines_of bytes ≡ line ∷ []
one_ended line bytes one e = ap lines_of (e ∙ sym (append-nil (with_line_feed line))) ∙ first_line line [] one
