-- What is there when the plan of a join is carried out.
use Rattle.std.proofs.Common.{◌≡◌, ℕ, Bool, List, [], length, sym, ◌∙◌, ap, subst}
use Rattle.std.specs.declared.vec.Vec.{Vec}
use Rattle.std.specs.Cmp.{IsTotalOrder}
use Rattle.std.specs.declared.cmp.Ordering.{Ordering}
use Rattle.fm_lattice.specs.Chains.{TellsApart}
use Rattle.fm_lattice.specs.Joins.{JoinLaws}
use Rattle.fm_lattice.specs.Maps.{IsMap, map_join}
use Rattle.fm_lattice.specs.laws.MapLaws.{is_map_join, map_laws}
use Rattle.fm_lattice.specs.Stocks.{Stock}
use Rattle.fm_lattice.specs.Blocks.{pairs_of}
use Rattle.fm_lattice.specs.inner.BlockOrder.{AreHeaded, IsKept}
use Rattle.fm_lattice.specs.inner.StagedJoins.{outcome}

module _ {K V A : Type 0} (cmp : K → K → Ordering) (total : IsTotalOrder cmp) (same : TellsApart cmp) (join : V → V → V)
    (is_value : V → Type 0) (laws : JoinLaws is_value join) (bs now other after : List (K × Stock (K × V))) (len other_len : ℕ)
    (here : IsKept cmp is_value bs len) (there : IsKept cmp is_value other other_len) (aside : Bool)
    (whole : List (K × Stock (K × V))) (changes : List ((K × V) × Vec (K × V) A)) (pairs : pairs_of now ≡ pairs_of bs)
    (out : outcome cmp (pairs_of bs) aside whole changes ≡ map_join cmp join (pairs_of bs) (pairs_of other))
    (made : pairs_of after ≡ outcome cmp (pairs_of now) aside whole changes) where
  pub planned_pairs : pairs_of after ≡ map_join cmp join (pairs_of bs) (pairs_of other)
  planned_pairs = made ∙ ap (λ z. outcome cmp z aside whole changes) pairs ∙ out

  pub planned_kept : (count : ℕ) → AreHeaded after → count ≡ length (pairs_of after) → IsKept cmp is_value after count
  planned_kept count headed counted = record {
    map = subst (IsMap cmp is_value) (sym planned_pairs) (is_map_join cmp total same join is_value laws (pairs_of bs) (pairs_of other) here.map there.map);
    headed = headed;
    counted = counted;
  }

-- other blocks with the same pairs
pub kept_same : {K V : Type 0} (cmp : K → K → Ordering) (is_value : V → Type 0) (bs new : List (K × Stock (K × V))) (count : ℕ) → IsKept cmp is_value bs count → pairs_of new ≡ pairs_of bs → AreHeaded new → IsKept cmp is_value new count
kept_same cmp is_value bs new count kept pairs headed = record {
  map = subst (IsMap cmp is_value) (sym pairs) kept.map;
  headed = headed;
  counted = kept.counted ∙ ap length (sym pairs);
}

-- what is joined if nothing is there, and if it tells nothing new
module _ {K V : Type 0} (cmp : K → K → Ordering) (total : IsTotalOrder cmp) (same : TellsApart cmp) (join : V → V → V) (is_value : V → Type 0) (laws : JoinLaws is_value join) (es : List (K × V)) (is : IsMap cmp is_value es) where
  pub joined_to_none : es ≡ map_join cmp join [] es
  joined_to_none = (map_laws cmp total same join is_value laws).comm es [] is (record { rising = tt; values = tt })

  pub tells_nothing : (here : List (K × V)) → IsMap cmp is_value here → map_join cmp join es here ≡ here → here ≡ map_join cmp join here es
  tells_nothing here map below = sym below ∙ (map_laws cmp total same join is_value laws).comm es here is map
