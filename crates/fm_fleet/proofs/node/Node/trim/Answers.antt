use Rattle.std.proofs.Common.{refl}
use Rattle.fm_fleet.proofs.node.Node.trim.Goals as goal

pub done-requires : goal.done-requires
done-requires g c = λ s. refl
