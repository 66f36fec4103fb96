use Rattle.std.proofs.Common.{List, map, subst}
use Rattle.fm_coord.specs.States.{WithKeeper}
use Rattle.fm_world.specs.Worlds.{opening_world}
use Rattle.fm_world.specs.Represents.{state_of, opening_of, AllStand}
use Rattle.fm_world.proofs.Reached.{reached_at_first}
use Rattle.fm_world.proofs.world.World.new.Goals as goal

pub invariant_of-result : goal.invariant_of-result
invariant_of-result g c =
    reached_at_first c.args.coordinators.items (record { coordinators = map state_of c.args.coordinators.items; packets = c.new.result.items }) c.requires.distinct
    (record {
      coordinators = subst (λ (cs : List (WithKeeper _)). AllStand (map state_of cs) (opening_world (map opening_of cs)).replicas) c.as_slice.ensures.value c.see_unused.ensures;
      packets = c.new.ensures.items;
    })
