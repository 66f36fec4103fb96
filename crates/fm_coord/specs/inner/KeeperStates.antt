-- A coordinator beside its keeper.
use Rattle.std.specs.Prelude.{Bool, IsTrue}
use Rattle.fm_records.specs.Table.{Table}
use Rattle.fm_coord.specs.declared.tally_cache.Tallied.{Tallied}
use Rattle.fm_coord.specs.inner.TallyCache.{IsTalliedFor}
use Rattle.fm_coord.specs.States.{State, IsCoordinator}

-- a coordinator whose keeper is stale, or for what it knows; if it is said to follow, it follows what is known; and so does its tally
pub record HasKeeper (s : State) (fresh : Bool) (is_for : Table → Type 0) (said : Bool) (follows : Table → Type 0) (kept : Tallied) : Type 0 where
  pub coordinator : IsCoordinator s
  pub keeper : IsTrue fresh → is_for s.knowledge
  pub kept_up : IsTrue said → follows s.knowledge
  pub tallied : IsTalliedFor s.knowledge kept
