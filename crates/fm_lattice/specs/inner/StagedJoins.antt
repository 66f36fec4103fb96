-- Plans of joins: blocks in place of those that are there, or changes of them.
use Rattle.std.specs.Prelude.{◌≡◌, ◌+◌, ◌<◌, ◌≤◌, ◌^◌, ℕ, Bool, true, false, cond, List, map, length, vec_len, vec_capacity}
use Rattle.std.specs.declared.vec.Vec.{Vec}
use Rattle.std.specs.declared.cmp.Ordering.{Ordering}
use Rattle.fm_lattice.specs.Maps.{map_join, keep_new}
use Rattle.fm_lattice.specs.Stocks.{Stock}
use Rattle.fm_lattice.specs.Blocks.{pairs_of}
use Rattle.fm_lattice.specs.inner.BlockOrder.{AreHeaded, HaveSpares, GoToOwned}

-- the pairs when the plan is carried out
abbrev pub outcome : {K V A : Type 0} → (K → K → Ordering) → List (K × V) → Bool → List (K × Stock (K × V)) → List ((K × V) × Vec (K × V) A) → List (K × V)
outcome cmp es aside whole changes = cond aside (pairs_of whole) (map_join cmp keep_new es (map (λ c. c.0) changes))

-- there is room for all that the plan does to the blocks, and each block that it writes in is the map's alone
pub record IsReady {K V A : Type 0} (cmp : K → K → Ordering) (bs : Vec (K × Stock (K × V)) A) (len : ℕ) (aside : Bool) (whole : List (K × Stock (K × V))) (whole_len : ℕ) (changes : Vec ((K × V) × Vec (K × V) A) A) : Type 0 where
  pub headed : aside ≡ true → AreHeaded whole
  pub counted : aside ≡ true → whole_len ≡ length (pairs_of whole)
  pub some : aside ≡ false → 0 < vec_len bs
  pub spares : aside ≡ false → HaveSpares cmp 2 (pairs_of bs.items) changes.items
  pub owned : aside ≡ false → GoToOwned cmp bs.items changes.items
  pub room : aside ≡ false → vec_len bs + vec_len changes ≤ vec_capacity bs
  pub fits : aside ≡ false → len + vec_len changes < 2 ^ 64
