-- Ids that are not one, in either order.
use Rattle.std.proofs.Common.{◌≡◌, ◌∙◌, ℕ, Bool, true, false, ◌||◌, refl, sym, ap}
use Rattle.std.specs.Ordering.{nat_cmp, is_eq}
use Rattle.std.specs.Cmp.{nat_cmp_total}
use Rattle.fm_lattice.specs.laws.ChainLaws.{by_cases, less_greater, greater_less}

or_none : (b : Bool) → (b || false) ≡ b
or_none true = refl
or_none false = refl

pub apart : (m x : ℕ) → (is_eq (nat_cmp m x) || false) ≡ false → is_eq (nat_cmp x m) ≡ false
apart m x e =
    by_cases (nat_cmp m x) (λ o. nat_cmp m x ≡ o → is_eq o ≡ false → is_eq (nat_cmp x m) ≡ false)
    (λ _ l _. ap is_eq (less_greater nat_cmp nat_cmp_total m x l))
    (λ _ _ h. absurd (let no : ⊥ = cc in no))
    (λ _ g _. ap is_eq (greater_less nat_cmp nat_cmp_total m x g))
    refl (sym (or_none (is_eq (nat_cmp m x))) ∙ e)
