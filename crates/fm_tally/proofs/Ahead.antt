-- Entries that rise, of which the first is left behind.
use Rattle.std.proofs.Common.{◌≡◌, ◌∙◌, sym, ap, refl, List, ◌∷◌, Some, None}
use Rattle.std.specs.Cmp.{IsTotalOrder}
use Rattle.std.specs.declared.cmp.Ordering.{Ordering}
use Rattle.std.specs.declared.cmp.Ordering.TheVariants.{Less, Equal, Greater}
use Rattle.fm_lattice.specs.Chains.{TellsApart}
use Rattle.fm_lattice.specs.laws.ChainLaws.{less_greater, greater_less}
use Rattle.fm_lattice.specs.Maps.{lookup, IsRising}
use Rattle.fm_lattice.specs.laws.MapLaws.{below_trans, lookup_below}

module _ {K V : Type 0} (cmp : K → K → Ordering) (total : IsTotalOrder cmp) (same : TellsApart cmp) where
  -- a key after the first
  pub behind : (q : K) (e : K × V) (es : List (K × V)) → cmp e.0 q ≡ Less → lookup cmp q (e ∷ es) ≡ lookup cmp q es
  behind q e es less = rw (less_greater cmp total e.0 q less) refl

  -- the first key
  pub met : (q : K) (e : K × V) (es : List (K × V)) → cmp e.0 q ≡ Equal → lookup cmp q (e ∷ es) ≡ Some e.1
  met q e es equal = let is : e.0 ≡ q = same e.0 q equal in let back : cmp q e.0 ≡ Equal = ap (λ x. cmp q x) is ∙ sym (ap (λ x. cmp x q) is) ∙ equal in rw back refl

  -- a key before all
  pub before : (q : K) (e : K × V) (es : List (K × V)) → IsRising cmp (e ∷ es) → cmp e.0 q ≡ Greater → lookup cmp q (e ∷ es) ≡ None
  before q e es rising greater =
      let less = greater_less cmp total e.0 q greater in
      rw less (lookup_below cmp total same q es (below_trans cmp total same q e.0 es less rising.0))
