use Rattle.std.proofs.Common.{refl, inl, inr}
use Rattle.fm_query.proofs.Asking.{not_there}
use Rattle.fm_query.proofs.query.graph.Goals as goal

pub returns-in-Err-NoCoordinator-clause-err : goal.returns-in-Err-NoCoordinator-clause-err
returns-in-Err-NoCoordinator-clause-err g c = λ w h.
    inr (inl (not_there c.args.world.now w c.args.at h c.in-Err-NoCoordinator.field-0 _ _ c.in-Err-NoCoordinator.field-0-is c.in-Err-NoCoordinator.ensures.cause, refl))
