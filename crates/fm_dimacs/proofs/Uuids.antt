-- Reading an id's text from the front.
use Rattle.std.proofs.Common.{◌≡◌, ℕ, ◌<◌, Bool, true, false, cond, List, length, take, drop, Option, Some, None, refl, ap, subst, inl, arith}
use Rattle.std.specs.Int.{to_be_bytes, w128}
use Rattle.std.specs.Str.{IsUtf8, bytes_eq}
use Rattle.std.proofs.lemmas.List.{length-take}
use Rattle.std.proofs.lemmas.Slice.Eq.{bytes_eq-Decides}
use Rattle.std.proofs.lemmas.Str.{IsUtf8-from_ascii}
use Rattle.uuid.specs.Text.{lower}
use Rattle.uuid.proofs.TextLemmas.{by_index_length, hyphenated_ascii}
use Rattle.fm_records.specs.Ids.{read_id, id_text}
use Rattle.fm_dimacs.specs.inner.Scan.{id_at, ◌>>=◌}

pub id_text_long : (n : ℕ) → length (id_text n) ≡ 36
id_text_long n = by_index_length 36 _

pub id_text_utf8 : (n : ℕ) → IsUtf8 (id_text n)
id_text_utf8 n = IsUtf8-from_ascii (id_text n) (hyphenated_ascii lower (to_be_bytes w128 n) (inl refl))

none_here : {X : Type 0} (o : Option ℕ) (test : ℕ → Bool) (found : ℕ → X) → ((n : ℕ) → test n ≡ true → ⊥) → (o >>= λ n. cond (test n) (Some (found n)) None) ≡ None
none_here None test found never = refl
none_here (Some n) test found never = elim (test n) as (λ b. test n ≡ b → cond b (Some (found n)) None ≡ None) [ true ↦ λ e. absurd (never n e) | false ↦ λ _. refl ] refl

-- if the front is no id's text, no id is read
pub no_id : (bytes : List ℕ) → ((n : ℕ) → id_text n ≡ take 36 bytes → ⊥) → id_at bytes ≡ None
unfolding id_at
no_id bytes never = none_here (read_id (take 36 bytes)) (λ n. bytes_eq (id_text n) (take 36 bytes)) (λ n. (n, drop 36 bytes)) (λ n e. never n ((bytes_eq-Decides (id_text n) (take 36 bytes)).0 e))

pub short_no_id : (bytes : List ℕ) → length bytes < 36 → id_at bytes ≡ None
short_no_id bytes short = no_id bytes (λ n e. omega (arith, id_text_long n, ap length e, length-take 36 bytes))

pub no_text_no_id : (bytes : List ℕ) → (IsUtf8 (take 36 bytes) → ⊥) → id_at bytes ≡ None
no_text_no_id bytes never = no_id bytes (λ n e. never (subst IsUtf8 e (id_text_utf8 n)))
