-- What a source has already of a line, and what is moved of that.
use Rattle.std.proofs.Common.{◌≡◌, ℕ, zero, suc, ◌<◌, ◌≤◌, ◌==◌, Bool, true, false, cond, not, ◌&&◌, List, [], ◌∷◌, ◌++◌, None, Some, Option, IfSome, length, take, drop, refl, sym, ap, ◌∙◌, take-take, take-append-drop, arith}
use Rattle.std.specs.List.{slice_index}
use Rattle.std.specs.Io.{StartsWith}
use Rattle.std.specs.Io.KnownBytes.{Consumes, prepend_known}
use Rattle.std.specs.Io.BufRead.{DropsConsumable}
use Rattle.std.proofs.Math.Seq.{take-append_seam}
use Rattle.fm_io.specs.Lines.{IsLine}

-- what a buffer has comes first, unless what remains is unknown
pub buffer_first : (is_unknown : Bool) (buffer : List ℕ) (rest : Option (List ℕ)) → IfSome (cond is_unknown None (prepend_known buffer rest)) (λ xs. StartsWith xs buffer)
buffer_first true buffer rest = tt
buffer_first false buffer None = tt
buffer_first false buffer (Some xs) = take-append_seam buffer xs

-- the front of a buffer is consumed
pub front_consumed : (old new : Option (List ℕ)) (buffer : List ℕ) (n : ℕ) → n ≤ length buffer → IfSome old (λ xs. StartsWith xs buffer) → DropsConsumable old new (Some (length buffer)) n → Consumes old new (take n buffer)
front_consumed None new buffer n within first drops = tt
front_consumed (Some xs) new buffer n within first drops = at new (drops within)
  where
    at : (o : Option (List ℕ)) → o ≡ Some (drop n xs) → Consumes (Some xs) o (take n buffer)
    at o e = rw e (sym (take-append-drop n xs) ∙ ap (λ l. l ++ drop n xs) (sym (take-take n (length buffer) xs within) ∙ ap (take n) first))

both : (feed rest : Bool) → ¬ (feed ≡ true) → rest ≡ true → (not feed && rest) ≡ true
both true rest none e = absurd (none refl)
both false rest none e = e

-- bytes before the first line feed are a line
pub line_before : (bytes : List ℕ) (n : ℕ) → n ≤ length bytes → ((k : ℕ) → k < n → ¬ ((slice_index bytes k == 10) ≡ true)) → IsLine (take n bytes)
line_before bytes zero within none = refl
line_before [] (suc n) within none = refl
line_before (b ∷ bytes) (suc n) within none =
    both (b == 10) _ (none 0 (omega arith)) (line_before bytes n (omega arith) (λ k lt. none (suc k) (omega arith)))
