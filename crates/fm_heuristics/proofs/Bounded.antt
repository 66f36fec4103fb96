-- Numbers of nodes that are not too large.
use Rattle.std.proofs.Common.{ℕ, zero, suc, List, [], ◌∷◌}
use Rattle.std.specs.Prelude.{ℤ, pos, neg_ℤ, ◌≤ℤ◌, slice_set}
use Rattle.fm_cycles.specs.Walks.{AreBounded}
use Rattle.fm_cycles.specs.Found.{costs_in}

-- one more that is not keeps them so
pub bounded_set : (bound : ℕ) (row : List ℤ) (t : ℕ) (x : ℤ) → neg_ℤ (pos bound) ≤ℤ x → x ≤ℤ pos bound → AreBounded bound (costs_in row) → AreBounded bound (costs_in (slice_set row t x))
bounded_set bound [] t x low high all v = all v
bounded_set bound (c ∷ row) zero x low high all zero = (low, high)
bounded_set bound (c ∷ row) zero x low high all (suc v) = all (suc v)
bounded_set bound (c ∷ row) (suc t) x low high all zero = all zero
bounded_set bound (c ∷ row) (suc t) x low high all (suc v) = bounded_set bound row t x low high (λ k. all (suc k)) v
