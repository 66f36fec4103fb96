-- What a block of a map holds.
use Rattle.std.specs.Prelude.{Bool, true, ℕ, List, vec_capacity}
use Rattle.std.specs.declared.vec.Vec.{Vec}

-- its pairs, whether one map has it alone and so can write in it, and how many pairs it then has room for
pub record Stock (X : Type 0) : Type 0 where
  pub items : List X
  pub owned : Bool
  pub room : ℕ

-- a block that one map has alone
abbrev pub alone : {X A : Type 0} → Vec X A → Stock X
alone pairs = record { items = pairs.items; owned = true; room = vec_capacity pairs }
