use Rattle.std.proofs.Common.{subst}
use Rattle.fm_world.specs.Represents.{IsReached}
use Rattle.fm_world.proofs.Runs.{each_knows, same_agree}
use Rattle.fm_world.proofs.world.World.known.Goals as goal

pub returns-clause-reached : goal.returns-clause-reached
returns-clause-reached g c = subst IsReached c.self.view_is c.self.invariant

pub returns-clause-each_knows : goal.returns-clause-each_knows
returns-clause-each_knows g c = λ w h. each_knows c.args.self.now w h

pub returns-clause-same_agree : goal.returns-clause-same_agree
returns-clause-same_agree g c = λ w h. same_agree c.args.self.now w h
