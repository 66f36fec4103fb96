-- What a word looks like, by cases.
use Rattle.std.proofs.Common.{◌≡◌, refl, subst, sym, true, false, Bool, ℕ, [], ◌∷◌, Option, Some, None}
use Rattle.std.specs.Prelude.{bytes_eq, option_and_then, slice_get}
use Rattle.std.specs.Str.{chars}
use Rattle.clap.specs.Lexer.{long_of, short_of}
use Rattle.fm_args.specs.Invocation.{Text}
use Rattle.fm_args.specs.CommandLine.{Look, dashes, long, short, plain, look_of}

-- the word `--`
abbrev pub is_end : Text → Bool
is_end w = bytes_eq w (45 ∷ 45 ∷ [])

-- the first character of what stands behind a hyphen
abbrev pub letter_in : Option Text → Option ℕ
letter_in flags = option_and_then (λ f. slice_get (chars f) 0) flags

looks_dashes : (w : Text) → is_end w ≡ true → look_of w ≡ dashes
looks_dashes w e = rw e refl

looks_long : (w n : Text) (v : Option Text) → is_end w ≡ false → long_of w ≡ Some (n, v) → look_of w ≡ long n v
looks_long w n v e l = rw (e, l) refl

looks_short : (w : Text) (flags : Option Text) (c : ℕ) → is_end w ≡ false → long_of w ≡ None → short_of w ≡ flags → letter_in flags ≡ Some c → look_of w ≡ short c
looks_short w flags c e l s o = rw (e, l, s, o) refl

looks_plain : (w : Text) (flags : Option Text) → is_end w ≡ false → long_of w ≡ None → short_of w ≡ flags → letter_in flags ≡ None → look_of w ≡ plain
looks_plain w flags e l s o = rw (e, l, s, o) refl

no_letter : letter_in (Some []) ≡ None
unfolding chars
no_letter = refl

-- what holds of each look, by what the parser's lexer makes of the word, holds of the word's own
module _ (w : Text) (P : Look → Type 0) where
  abbrev pub Dashes : Type 0
  Dashes = is_end w ≡ true → P dashes

  abbrev pub Long : Type 0
  Long = (n : Text) (v : Option Text) → is_end w ≡ false → long_of w ≡ Some (n, v) → P (long n v)

  abbrev pub Short : Type 0
  Short = (x : ℕ) (xs : Text) (c : ℕ) → is_end w ≡ false → long_of w ≡ None → short_of w ≡ Some (x ∷ xs) → slice_get (chars (x ∷ xs)) 0 ≡ Some c → P (short c)

  abbrev pub Plain : Type 0
  Plain = (flags : Option Text) → is_end w ≡ false → long_of w ≡ None → short_of w ≡ flags → letter_in flags ≡ None → P plain

  pub by_look : Dashes → Long → Short → Plain → P (look_of w)
  by_look on_dashes on_long on_short on_plain = go (is_end w) refl (long_of w) refl (short_of w) refl
    where
      lettered : (x : ℕ) (xs : Text) (letter : Option ℕ) → is_end w ≡ false → long_of w ≡ None → short_of w ≡ Some (x ∷ xs) → slice_get (chars (x ∷ xs)) 0 ≡ letter → P (look_of w)
      lettered x xs (Some c) e l s o = subst P (sym (looks_short w (Some (x ∷ xs)) c e l s o)) (on_short x xs c e l s o)
      lettered x xs None e l s o = subst P (sym (looks_plain w (Some (x ∷ xs)) e l s o)) (on_plain (Some (x ∷ xs)) e l s o)

      go : (b : Bool) → is_end w ≡ b → (p : Option (Text × Option Text)) → long_of w ≡ p → (flags : Option Text) → short_of w ≡ flags → P (look_of w)
      go true e p l flags s = subst P (sym (looks_dashes w e)) (on_dashes e)
      go false e (Some p) l flags s = subst P (sym (looks_long w p.0 p.1 e l)) (on_long p.0 p.1 e l)
      go false e None l None s = subst P (sym (looks_plain w None e l s refl)) (on_plain None e l s refl)
      go false e None l (Some []) s = subst P (sym (looks_plain w (Some []) e l s no_letter)) (on_plain (Some []) e l s no_letter)
      go false e None l (Some (x ∷ xs)) s = lettered x xs (slice_get (chars (x ∷ xs)) 0) e l s refl
