-- What is preferred among the first entries.
use Rattle.std.proofs.Common.{◌≡◌, ◌⊎◌, ◌∙◌, ℕ, suc, ◌<◌, Bool, true, false, List, length, get_or, take, refl, sym, inl, inr}
use Rattle.std.specs.Prelude.{◌||◌, is_some}
use Rattle.std.specs.Ordering.{nat_cmp, is_eq}
use Rattle.std.specs.Cmp.{Equal-is}
use Rattle.fm_lattice.specs.laws.ChainLaws.{nat_same}
use Rattle.fm_lattice.specs.Maps.{lookup}
use Rattle.fm_records.specs.laws.PreferenceLaws.{one_more_preferred}

either : (a b : Bool) → (a || b) ≡ true → (b ≡ true) ⊎ (a ≡ true)
either true b h = inr refl
either false b h = inl h

pub taken : (m : ℕ) (es : List (ℕ × ℕ)) (i : ℕ) (e : ℕ × ℕ) → i < length es → e ≡ get_or es i e → is_some (lookup nat_cmp m (take (suc i) es)) ≡ true → (is_some (lookup nat_cmp m (take i es)) ≡ true) ⊎ (e.0 ≡ m)
taken m es i e h at some =
    elim (either (is_eq (nat_cmp m e.0)) (is_some (lookup nat_cmp m (take i es))) (sym (one_more_preferred m es i e h at) ∙ some)) [
      | inl before ↦ inl before
      | inr is ↦ inr (sym (nat_same m e.0 ((Equal-is (nat_cmp m e.0)).0 is)))
    ]
