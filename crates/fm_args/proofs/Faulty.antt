-- If the value that is held is at fault, whatever follows is wrong.
use Rattle.std.proofs.Common.{◌≡◌, ◌==◌, ◌&&◌, refl, true, false, Bool, ℕ, List, [], ◌∷◌, Option, Some, None}
use Rattle.std.specs.Prelude.{slice_get, IfSome}
use Rattle.std.specs.Str.{chars}
use Rattle.clap.specs.Lexer.{long_of, short_of}
use Rattle.clap.specs.Words.{Row, Rule}
use Rattle.clap.specs.Walk.{Waiting, arg_by_index, arg_by_long, idle, is_pending, takes_several, takes_values}
use Rattle.clap.specs.Faults.{settle_fault}
use Rattle.clap.specs.declared.error.ErrorKind.{ErrorKind}
use Rattle.clap.proofs.OnLiterals.{clap_on_literals}
use Rattle.fm_args.specs.Invocation.{Telling, Text, wrong}
use Rattle.fm_args.specs.Parser.{told_of_error}
use Rattle.fm_args.proofs.Looks.{by_look, is_end, letter_in}
use Rattle.fm_args.proofs.Leaf.{HasLetterOfHelp, at, built_with, held_at, leaf_from, no_command}

-- what stands before the next word, with the fault of what is held
pub record Faulty : Type 0 where
  pub name : Text
  pub rules : List Rule
  pub tell : List Row → Telling
  pub rows : List Row
  pub pending : Option (Text × List Text)
  pub kind : ErrorKind
  pub fault : settle_fault rules false (held_at rows pending) ≡ kind ∷ []
  pub is_wrong : told_of_error kind ≡ wrong
  pub letters : HasLetterOfHelp rules
  -- the argument that takes a word which is no flag, if there is one
  pub position : ℕ
  pub positional : Option Rule
  pub taker : arg_by_index rules position ≡ positional
  pub settles : IfSome positional (λ a. (is_pending a pending && takes_several a) ≡ false)

abbrev pub comes : Faulty → Waiting → List Text → List Telling
comes f waiting rest = leaf_from (built_with f.name f.rules) f.tell (at f.rows f.pending waiting f.position) rest

pub at_last : (f : Faulty) (waiting : Waiting) → comes f waiting [] ≡ wrong ∷ []
unfolding clap_on_literals
at_last f waiting = rw (f.fault, f.is_wrong) refl

pub at_dashes : (f : Faulty) (waiting : Waiting) (w : Text) (rest : List Text) → is_end w ≡ true → comes f waiting (w ∷ rest) ≡ wrong ∷ []
unfolding clap_on_literals
at_dashes f waiting w [] e = rw (no_command waiting w, e, f.fault, f.is_wrong) refl
at_dashes f waiting w (v ∷ rest) e = go f.positional f.taker f.settles
  where
    go : (o : Option Rule) → arg_by_index f.rules f.position ≡ o → IfSome o (λ a. (is_pending a f.pending && takes_several a) ≡ false) → comes f waiting (w ∷ v ∷ rest) ≡ wrong ∷ []
    go None n k = rw (no_command waiting w, e, n) refl
    go (Some a) n k = rw (no_command waiting w, e, n, k, f.fault, f.is_wrong) refl

pub at_long : (f : Faulty) (waiting : Waiting) (w : Text) (rest : List Text) (n : Text) (v : Option Text) → is_end w ≡ false → long_of w ≡ Some (n, v) → comes f waiting (w ∷ rest) ≡ wrong ∷ []
unfolding clap_on_literals
at_long f waiting w rest n v e l = go v l (arg_by_long f.rules n) refl
  where
    known : (a : Rule) (b : Bool) (u : Option Text) → long_of w ≡ Some (n, u) → arg_by_long f.rules n ≡ Some a → takes_values a ≡ b → comes f waiting (w ∷ rest) ≡ wrong ∷ []
    known a true None l k t = rw (no_command waiting w, e, l, k, t, f.fault, f.is_wrong) refl
    known a true (Some x) l k t = rw (no_command waiting w, e, l, k, t, f.fault, f.is_wrong) refl
    known a false None l k t = rw (no_command waiting w, e, l, k, t, f.fault, f.is_wrong) refl
    known a false (Some x) l k t = rw (no_command waiting w, e, l, k, t) refl

    go : (u : Option Text) → long_of w ≡ Some (n, u) → (o : Option Rule) → arg_by_long f.rules n ≡ o → comes f waiting (w ∷ rest) ≡ wrong ∷ []
    go u l None k = rw (no_command waiting w, e, l, k) refl
    go u l (Some a) k = known a (takes_values a) u l k refl

pub at_short : (f : Faulty) (waiting : Waiting) (w : Text) (rest : List Text) (x : ℕ) (xs : Text) (c : ℕ) → is_end w ≡ false → long_of w ≡ None → short_of w ≡ Some (x ∷ xs) → slice_get (chars (x ∷ xs)) 0 ≡ Some c
    → comes f waiting (w ∷ rest) ≡ wrong ∷ []
unfolding clap_on_literals
at_short f waiting w rest x xs c e l s o = go (104 == c) refl
  where
    go : (b : Bool) → (104 == c) ≡ b → comes f waiting (w ∷ rest) ≡ wrong ∷ []
    go true h = rw (no_command waiting w, e, l, s, o, f.letters c, h, f.fault, f.is_wrong) refl
    go false h = rw (no_command waiting w, e, l, s, o, f.letters c, h) refl

at_plain : (f : Faulty) (w : Text) (rest : List Text) (flags : Option Text) → is_end w ≡ false → long_of w ≡ None → short_of w ≡ flags → letter_in flags ≡ None
    → comes f idle (w ∷ rest) ≡ wrong ∷ []
unfolding clap_on_literals
at_plain f w rest flags e l s o = go flags s o f.positional f.taker f.settles
  where
    go : (q : Option Text) → short_of w ≡ q → letter_in q ≡ None → (p : Option Rule) → arg_by_index f.rules f.position ≡ p → IfSome p (λ a. (is_pending a f.pending && takes_several a) ≡ false) → comes f idle (w ∷ rest) ≡ wrong ∷ []
    go None s o None n k = rw (e, l, s, n) refl
    go (Some []) s o None n k = rw (e, l, s, n) refl
    go (Some (x ∷ xs)) s o None n k = rw (e, l, s, o, n) refl
    go None s o (Some a) n k = rw (e, l, s, n, k, f.fault, f.is_wrong) refl
    go (Some []) s o (Some a) n k = rw (e, l, s, n, k, f.fault, f.is_wrong) refl
    go (Some (x ∷ xs)) s o (Some a) n k = rw (e, l, s, o, n, k, f.fault, f.is_wrong) refl

-- if nothing waits for a value
pub faulty : (f : Faulty) (rest : List Text) → comes f idle rest ≡ wrong ∷ []
faulty f [] = at_last f idle
faulty f (w ∷ rest) = by_look w (λ look. comes f idle (w ∷ rest) ≡ wrong ∷ []) (at_dashes f idle w rest) (at_long f idle w rest) (at_short f idle w rest) (at_plain f w rest)
