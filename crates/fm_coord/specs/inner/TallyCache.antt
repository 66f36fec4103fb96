-- The tally of what a coordinator knows, kept between calls (this project's own).
use Rattle.std.specs.Prelude.{true, IfSome}
use Rattle.fm_records.specs.Table.{Table}
use Rattle.fm_policy.specs.Keeping.{FollowsAfter}
use Rattle.fm_tally.specs.Tallies.{TallyIsFor}
use Rattle.fm_tally.specs.Unfinished.{AreUnfinished}
use Rattle.fm_coord.specs.declared.tally_cache.Tallied.{Tallied}

-- the unfinished tasks, if there are some, were those of what was known before one delta, with which the table is what is known,
-- and of which the keys are pending; the tally, if there is one, is of the table
pub record IsTalliedFor (k : Table) (t : Tallied) : Type 0 where
  pub tasks : IfSome t.tasks (λ tasks. FollowsAfter true (λ before. AreUnfinished before tasks) k t.pending)
  pub tally : IfSome t.tally (TallyIsFor k)
