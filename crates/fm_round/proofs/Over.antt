-- The units over a network's arcs rise as the arcs do.
use Rattle.std.proofs.Common.{List, [], ◌∷◌}
use Rattle.std.specs.Prelude.{map}
use Rattle.std.specs.declared.cmp.Ordering.{Ordering}
use Rattle.fm_lattice.specs.Maps.{IsBelow, IsRising}

module _ {K V W : Type 0} (cmp : K → K → Ordering) (value : K × V → W) where
  abbrev over : List (K × V) → List (K × W)
  over es = map (λ e. (e.0, value e)) es

  below_over : (k : K) (es : List (K × V)) → IsBelow cmp k es → IsBelow cmp k (over es)
  below_over k [] b = tt
  below_over k (e ∷ es) b = (b.0, below_over k es b.1)

  pub rising_over : (es : List (K × V)) → IsRising cmp es → IsRising cmp (over es)
  rising_over [] r = tt
  rising_over (e ∷ es) r = (below_over e.0 es r.0, rising_over es r.1)
