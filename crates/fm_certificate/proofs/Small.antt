-- Small potentials, as numbers.
use Rattle.std.proofs.Common.{◌≡◌, ◌≤◌, ◌^◌, Some, None, List, refl, arith}
use Rattle.std.specs.Prelude.{ℤ, pos, negsuc, ◌≤ℤ◌, neg_ℤ}
use Rattle.std.specs.Int.RustNames.{unsigned_abs}
use Rattle.std.proofs.lemmas.Int.{ints}
use Rattle.fm_lattice.specs.Maps.{lookup}
use Rattle.fm_records.specs.Options.{or_else}
use Rattle.fm_net.specs.declared.node.Node.{Node}
use Rattle.fm_net.specs.Nodes.{node_cmp}
use Rattle.fm_certificate.specs.Certificates.{potential_in, AreSmall}

-- between -2^100 and 2^100
pub record IsWithin (z : ℤ) : Type 0 where
  pub above : neg_ℤ (pos (2 ^ 100)) ≤ℤ z
  pub below : z ≤ℤ pos (2 ^ 100)

pub within : (z : ℤ) → unsigned_abs z ≤ 2 ^ 100 → IsWithin z
within (pos n) h = record { above = omega (arith, ints); below = omega (arith, ints) }
within (negsuc n) h = record { above = omega (arith, ints); below = omega (arith, ints) }

pub within_at : (potentials : List (Node × ℤ)) (n : Node) → AreSmall potentials → IsWithin (potential_in potentials n)
within_at potentials n small =
    elim (lookup node_cmp n potentials) as (λ o. lookup node_cmp n potentials ≡ o → IsWithin (or_else (pos 0) o)) [
      | None ↦ λ _. within (pos 0) (omega arith)
      | Some z ↦ λ e. within z (small n z e)
    ] refl
