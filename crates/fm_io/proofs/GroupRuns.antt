-- The lines of a group that were run so far, and how it ends.
use Rattle.std.proofs.Common.{◌≡◌, ◌⊎◌, ◌<◌, ◌≤◌, ◌+◌, ℕ, List, [], ◌∷◌, ◌++◌, Bool, true, false, Option, length, refl, sym, ap, ◌∙◌, subst, append-nil, length-append, inl, inr, arith}
use Rattle.std.specs.List.{flat_map}
use Rattle.std.specs.Io.KnownBytes.{Consumes, IsAtEnd}
use Rattle.std.proofs.KnownBytes.{Consumes-nil, Consumes-trans}
use Rattle.fm_io.specs.declared.group_commit.GroupEnd.TheVariants.{Open, AtEnd, CutOff}
use Rattle.fm_io.specs.Lines.{lines_of, IsLine, with_line_feed}
use Rattle.fm_io.specs.Runs.{IsTaken, Run, most_counted}
use Rattle.fm_io.specs.inner.GroupSteps.{AreAny, IsGroup}
use Rattle.fm_io.proofs.Spelling.{AreLines, are_more, ended_more, lines_more}
use Rattle.fm_io.proofs.Running.{run_more}

-- whole lines were read and run, so many, with these answers
pub record GroupSoFar {D : Type 0} (Answers : D → List ℕ → List ℕ → D → Type 0) (old now : D) (count : ℕ) (given left : Option (List ℕ)) (any : Bool) (answers : List ℕ) : Type 0 where
  pub text : List ℕ
  pub read : Consumes given left text
  pub lines : List (List ℕ)
  pub whole : text ≡ flat_map with_line_feed lines
  pub each : AreLines lines
  pub counted : count ≤ length text
  pub some : AreAny any lines
  pub run : Run Answers old lines answers now

one_more : (any : Bool) (lines : List (List ℕ)) (line : List ℕ) → any ≡ true → AreAny any (lines ++ line ∷ [])
one_more any lines line is_any =
    let all : length (lines ++ line ∷ []) ≡ length lines + 1 = length-append lines (line ∷ []) in
    subst (λ a. AreAny a (lines ++ line ∷ [])) (sym is_any) (omega arith)

module _ {D : Type 0} (Answers : D → List ℕ → List ℕ → D → Type 0) where
  pub group_first : (old : D) (given : Option (List ℕ)) (any : Bool) (answers : List ℕ) → any ≡ false → answers ≡ [] → GroupSoFar Answers old old 0 given given any answers
  group_first old given any answers none empty = record {
    text = [];
    read = Consumes-nil given;
    lines = [];
    whole = refl;
    each = tt;
    counted = omega arith;
    some = subst (λ a. AreAny a []) (sym none) refl;
    run = (empty, refl);
  }

  module _ (old now : D) (count : ℕ) (given left : Option (List ℕ)) (any : Bool) (answers : List ℕ) (s : GroupSoFar Answers old now count given left any answers) where
    before_more : (rest : List ℕ) → lines_of (s.text ++ rest) ≡ s.lines ++ lines_of rest
    before_more rest = ap (λ t. lines_of (t ++ rest)) s.whole ∙ lines_more s.lines rest s.each

    -- no further line is there yet, or there are enough
    pub group_open : (failed : Bool) → 0 < count → IsGroup Answers Open old now given left failed any answers
    group_open failed some =
        let counted : count ≤ length s.text = s.counted in
        record {
          text = s.text;
          read = s.read;
          lines = s.lines;
          ends = (record { spelled = s.whole; before = before_more }, omega arith);
          some = s.some;
          run = s.run;
        }

    module _ (bytes : List ℕ) (left2 : Option (List ℕ)) (took : Consumes left left2 bytes) where
      abbrev read_on : Consumes given left2 (s.text ++ bytes)
      read_on = Consumes-trans given left left2 s.text bytes s.read took

      -- the end of the stream
      pub group_at_end : (failed : Bool) → bytes ≡ [] → IsAtEnd left2 → IsGroup Answers AtEnd old now given left2 failed any answers
      group_at_end failed none end = record {
        text = s.text ++ bytes;
        read = read_on;
        lines = s.lines;
        ends = (sym (before_more bytes ∙ ap (λ b. s.lines ++ lines_of b) none ∙ append-nil s.lines), end);
        some = s.some;
        run = s.run;
      }

      -- the source failed within a line
      pub group_cut_off : (failed : Bool) → IsLine bytes → (failed ≡ true) ⊎ (most_counted ≤ length bytes) → IsGroup Answers CutOff old now given left2 failed any answers
      group_cut_off failed line cause = record {
        text = s.text ++ bytes;
        read = read_on;
        lines = s.lines;
        ends = record { rest = bytes; line = line; whole = ap (λ t. t ++ bytes) s.whole; before = before_more bytes; cause = longer cause };
        some = s.some;
        run = s.run;
      } where
        longer : (failed ≡ true) ⊎ (most_counted ≤ length bytes) → (failed ≡ true) ⊎ (most_counted ≤ length (s.text ++ bytes))
        longer (inl f) = inl f
        longer (inr many) =
            let all : length (s.text ++ bytes) ≡ length s.text + length bytes = length-append s.text bytes in
            inr (omega arith)

      module _ (new : D) (any2 : Bool) (answers2 line answer : List ℕ) (taken : IsTaken Answers now line answer new) (is_any : any2 ≡ true) (added : answers2 ≡ answers ++ answer) where
        run_on : Run Answers old (s.lines ++ line ∷ []) answers2 new
        run_on = subst (λ a. Run Answers old (s.lines ++ line ∷ []) a new) (sym added) (run_more Answers old now new s.lines line answers answer s.run taken)

        -- a line more
        pub group_more : IsLine line → bytes ≡ with_line_feed line → GroupSoFar Answers old new (count + 1) given left2 any2 answers2
        group_more one e =
            let counted : count ≤ length s.text = s.counted in
            let all : length (s.text ++ bytes) ≡ length s.text + length bytes = length-append s.text bytes in
            let fed : length bytes ≡ length line + 1 = ap length e ∙ length-append line (10 ∷ []) in
            record {
              text = s.text ++ bytes;
              read = read_on;
              lines = s.lines ++ line ∷ [];
              whole = (λ i. s.whole i ++ e i) ∙ sym (ended_more s.lines line);
              each = are_more s.lines line s.each one;
              counted = omega arith;
              some = one_more any2 s.lines line is_any;
              run = run_on;
            }

        -- the last line of the stream
        pub group_last : (failed : Bool) → lines_of bytes ≡ line ∷ [] → IsAtEnd left2 → IsGroup Answers AtEnd old new given left2 failed any2 answers2
        group_last failed e end = record {
          text = s.text ++ bytes;
          read = read_on;
          lines = s.lines ++ line ∷ [];
          ends = (sym (before_more bytes ∙ ap (λ ls. s.lines ++ ls) e), end);
          some = one_more any2 s.lines line is_any;
          run = run_on;
        }
