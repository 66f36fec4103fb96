-- The greatest offers of requests up to some.
use Rattle.std.proofs.Common.{sym, ℕ, ◌<◌, ◌≤◌, List, [], ◌∷◌, ◌++◌, arith}
use Rattle.std.specs.Ordering.{nat_cmp}
use Rattle.std.proofs.lemmas.Cmp.{ranked}
use Rattle.std.specs.declared.cmp.Ordering.TheVariants.{Less}
use Rattle.fm_lattice.specs.Maps.{IsBelow, IsRising}
use Rattle.fm_planner.specs.inner.Slackness.{AllOf, IsTop}

module _ {A : Type 0} where
  pub all_map : (P Q : A → Type 0) (xs : List A) → ((x : A) → P x → Q x) → AllOf P xs → AllOf Q xs
  all_map P Q [] f all = tt
  all_map P Q (x ∷ xs) f all = (f x all.0, all_map P Q xs f all.1)

  pub all_both : (P : A → Type 0) (xs ys : List A) → AllOf P xs → AllOf P ys → AllOf P (xs ++ ys)
  all_both P [] ys all more = more
  all_both P (x ∷ xs) ys all more = (all.0, all_both P xs ys all.1 more)

-- behind a request come greater ones
behind : (walked rest : List (ℕ × ℕ)) (o : ℕ × ℕ) → IsRising nat_cmp (walked ++ o ∷ rest) → IsBelow nat_cmp o.0 rest
behind [] rest o r = r.0
behind (x ∷ xs) rest o r = behind xs rest o r.1

not_below : (r most : ℕ) (rest : List (ℕ × ℕ)) → IsBelow nat_cmp r rest → AllOf (λ x. x.0 < r → x.1 ≤ most) rest
not_below r most [] b = tt
not_below r most (x ∷ xs) b = ((λ h. let less : r < x.0 = ranked r x.0 Less (sym b.0) in absurd (omega (arith, h, less))), not_below r most xs b.1)

-- so what comes before is all that is below
pub top_before : (walked rest : List (ℕ × ℕ)) (o : ℕ × ℕ) (most : ℕ) → IsRising nat_cmp (walked ++ o ∷ rest) → AllOf (λ x. x.1 ≤ most) walked → IsTop (walked ++ o ∷ rest) (o.0, most)
top_before walked rest o most rises below =
    all_both (λ x. x.0 < o.0 → x.1 ≤ most) walked (o ∷ rest)
    (all_map (λ x. x.1 ≤ most) (λ x. x.0 < o.0 → x.1 ≤ most) walked (λ x h _. h) below)
    ((λ h. absurd (omega (arith, h))), not_below o.0 most rest (behind walked rest o rises))

-- the next one is walked over
pub raised : (walked : List (ℕ × ℕ)) (o : ℕ × ℕ) (most more : ℕ) → most ≤ more → o.1 ≤ more → AllOf (λ x. x.1 ≤ most) walked → AllOf (λ x. x.1 ≤ more) (walked ++ o ∷ [])
raised walked o most more up own below = all_both (λ x. x.1 ≤ more) walked (o ∷ []) (all_map (λ x. x.1 ≤ most) (λ x. x.1 ≤ more) walked (λ x h. omega (arith, h, up)) below) (own, tt)
