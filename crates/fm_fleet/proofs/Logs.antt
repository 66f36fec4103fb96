-- What a walk over entries or logs has seen.
use Rattle.std.proofs.Common.{◌≡◌, ◌<◌, ◌≤◌, ◌+◌, ℕ, Bool, true, false, cond, nat_lt, List, length, Option, Some, None, slice_get, refl, sym, ◌∙◌, subst, ⊎_elim, MatchOption, arith, ltb-false}
use Rattle.std.proofs.lemmas.Bool.{cases_lt, ltb-true}
use Rattle.std.proofs.lemmas.Option.{slice_get_within, get_or_from_slice_get}
use Rattle.fm_coord.specs.declared.entry.Entry.{Entry}
use Rattle.fm_fleet.specs.declared.seat.SeatLog.{SeatLog}
use Rattle.fm_fleet.specs.Audits.{Matches, IsAudited, IsLeastDiffering, IsFirstStrange}
use Rattle.fm_fleet.specs.inner.FirstRefusal.{lesser_of}

one_place : {A : Type 0} (xs : List A) (i : ℕ) (x y : A) → slice_get xs i ≡ Some x → slice_get xs i ≡ Some y → x ≡ y
one_place xs i x y p q = sym (get_or_from_slice_get xs i x x p) ∙ get_or_from_slice_get xs i y x q

-- one more place of which a fact holds
pub up_to_more : {A : Type 0} (P : A → Type 0) (xs : List A) (k : ℕ) (x : A) → slice_get xs k ≡ Some x → ((i : ℕ) (y : A) → i < k → slice_get xs i ≡ Some y → P y) → P x
    → (i : ℕ) (y : A) → i < k + 1 → slice_get xs i ≡ Some y → P y
up_to_more P xs k x there below here i y lt at =
    ⊎_elim (λ (less : i < k). below i y less at)
    (λ (more : k ≤ i). let is : k ≡ i = omega (arith, lt, more) in subst P (one_place xs i x y (subst (λ n. slice_get xs n ≡ Some x) is there) at) here)
    (cases_lt i k)

-- and all places
pub all_places : {A : Type 0} (P : A → Type 0) (xs : List A) (k : ℕ) → length xs ≤ k → ((i : ℕ) (y : A) → i < k → slice_get xs i ≡ Some y → P y)
    → (i : ℕ) (y : A) → slice_get xs i ≡ Some y → P y
all_places P xs k end below i y at = below i y (omega (arith, slice_get_within xs i y at, end)) at

-- the least seat that differs among the first logs
abbrev pub Found : List Entry → List SeatLog → ℕ → Option ℕ → Type 0
Found es logs n o = MatchOption o
    ((i : ℕ) (x : SeatLog) → i < n → slice_get logs i ≡ Some x → Matches es x)
    (λ k. ((i : ℕ) × (x : SeatLog) × (slice_get logs i ≡ Some x) × (x.seat ≡ k) × (¬ (Matches es x)))
    × ((i : ℕ) (x : SeatLog) → i < n → slice_get logs i ≡ Some x → x.seat < k → Matches es x))

module _ (es : List Entry) (logs : List SeatLog) (n : ℕ) (x : SeatLog) (there : slice_get logs n ≡ Some x) where
  pub found_same : (o : Option ℕ) → Matches es x → Found es logs n o → Found es logs (n + 1) o
  found_same None m f = up_to_more (λ (y : SeatLog). Matches es y) logs n x there f m
  found_same (Some k) m f = (f.0, up_to_more (λ (y : SeatLog). y.seat < k → Matches es y) logs n x there f.1 (λ _. m))

  kept_or_new : (k : ℕ) (b : Bool) → nat_lt k x.seat ≡ b → ¬ (Matches es x) → Found es logs n (Some k) → Found es logs (n + 1) (Some (cond b k x.seat))
  kept_or_new k true is apart f = (f.0, up_to_more (λ (y : SeatLog). y.seat < k → Matches es y) logs n x there f.1 (λ lt. absurd (let less : k < x.seat = ltb-true k x.seat is in omega (arith, lt, less))))
  kept_or_new k false is apart f = ((n, x, there, refl, apart), up_to_more (λ (y : SeatLog). y.seat < x.seat → Matches es y) logs n x there (λ i y lt at less. f.1 i y lt at (let most : x.seat ≤ k = ltb-false k x.seat is in omega (arith, less, most))) (λ lt. absurd (omega (arith, lt))))

  pub found_new : (o : Option ℕ) → ¬ (Matches es x) → Found es logs n o → Found es logs (n + 1) (Some (lesser_of o x.seat))
  found_new None apart f = ((n, x, there, refl, apart), up_to_more (λ (y : SeatLog). y.seat < x.seat → Matches es y) logs n x there (λ i y lt at _. f i y lt at) (λ lt. absurd (omega (arith, lt))))
  found_new (Some k) apart f = kept_or_new k (nat_lt k x.seat) refl apart f

-- once all logs were seen
pub found_all : (es : List Entry) (logs : List SeatLog) (n : ℕ) (o : Option ℕ) → length logs ≤ n → Found es logs n o
    → MatchOption o ((i : ℕ) (x : SeatLog) → slice_get logs i ≡ Some x → Matches es x) (λ k. IsLeastDiffering es logs k)
found_all es logs n None end f = all_places (λ (y : SeatLog). Matches es y) logs n end f
found_all es logs n (Some k) end f =
    let w = f.0 in
    record {
      place = w.0;
      log = w.1;
      there = w.2;
      named = w.3;
      differs = w.4;
      least = all_places (λ (y : SeatLog). y.seat < k → Matches es y) logs n end f.1;
    }

module _ (made es : List Entry) (seen logs : List SeatLog) (same : made ≡ es) (also : seen ≡ logs) where
  pub differs_here : (k : ℕ) → IsLeastDiffering made seen k → IsLeastDiffering es logs k
  differs_here k h = subst (λ (p : List Entry × List SeatLog). IsLeastDiffering p.0 p.1 k) (λ i. (same i, also i)) h

  pub strange_here : (k : ℕ) → IsFirstStrange made seen k → IsFirstStrange es logs k
  strange_here k h = subst (λ (p : List Entry × List SeatLog). IsFirstStrange p.0 p.1 k) (λ i. (same i, also i)) h

  pub audited_here : IsAudited made seen → IsAudited es logs
  audited_here h = subst (λ (p : List Entry × List SeatLog). IsAudited p.0 p.1) (λ i. (same i, also i)) h
