use Rattle.std.proofs.Common.{true, subst}
use Rattle.fm_policy.specs.Keeping.{FollowsAfter}
use Rattle.fm_edit.specs.declared.keepers.Keeper.{Keeper}
use Rattle.fm_edit.specs.inner.Keepers.{KeeperFollows}
use Rattle.fm_edit.proofs.keepers.KeeperNetKeeper.absorb.Goals as goal

pub returns-in-Defers-clause-keeps_up : goal.returns-in-Defers-clause-keeps_up
returns-in-Defers-clause-keeps_up c = λ took. c.absorb-in-Defers.ensures.keeps_up (subst (λ (k : Keeper). FollowsAfter true (KeeperFollows k) c.args.now.now c.args.changed.now) c.in-Defers.is took)
