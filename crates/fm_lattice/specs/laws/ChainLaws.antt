-- Laws of chains: of numbers and of pairs, and what the opposite comparison says.
use Rattle.std.specs.Prelude.{◌≡◌, refl}
use Rattle.std.specs.Ordering.{nat_cmp, ordering_then, ordering_reverse}
use Rattle.std.specs.Cmp.{IsTotalOrder}
use Rattle.std.specs.declared.cmp.Ordering.{Ordering}
use Rattle.std.specs.declared.cmp.Ordering.TheVariants.{Less, Equal, Greater}
use Rattle.std.proofs.Common.{sym, ap, ◌∙◌}
use Rattle.std.proofs.lemmas.Cmp.{ranked}
use Rattle.fm_lattice.specs.Chains.{TellsApart}

pub nat_same : TellsApart nat_cmp
nat_same x y e = ranked x y Equal (sym e)

both_equal : (r s : Ordering) → ordering_then r s ≡ Equal → (r ≡ Equal) × (s ≡ Equal)
both_equal Less s e = cc
both_equal Equal s e = (refl, e)
both_equal Greater s e = cc

pub pair_same : {A B : Type 0} (cmp_a : A → A → Ordering) (cmp_b : B → B → Ordering) → TellsApart cmp_a → TellsApart cmp_b → TellsApart {K = A × B} (λ x y. ordering_then (cmp_a x.0 y.0) (cmp_b x.1 y.1))
pair_same cmp_a cmp_b same_a same_b x y e =
    let parts = both_equal (cmp_a x.0 y.0) (cmp_b x.1 y.1) e in
    let first : x.0 ≡ y.0 = same_a x.0 y.0 parts.0 in
    let second : x.1 ≡ y.1 = same_b x.1 y.1 parts.1 in
    λ i. (first i, second i)

-- by what a comparison says
pub by_cases : (r : Ordering) (P : Ordering → Type 0) → (r ≡ Less → P Less) → (r ≡ Equal → P Equal) → (r ≡ Greater → P Greater) → P r
by_cases Less P l e g = l refl
by_cases Equal P l e g = e refl
by_cases Greater P l e g = g refl

module _ {K : Type 0} (cmp : K → K → Ordering) (total : IsTotalOrder cmp) where
  pub less_greater : (x y : K) → cmp x y ≡ Less → cmp y x ≡ Greater
  less_greater x y e = total.antisymm y x ∙ ap ordering_reverse e

  pub greater_less : (x y : K) → cmp x y ≡ Greater → cmp y x ≡ Less
  greater_less x y e = total.antisymm y x ∙ ap ordering_reverse e
