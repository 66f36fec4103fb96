use Rattle.fm_world.specs.Worlds.{WorldOfSets}
use Rattle.fm_world.specs.Represents.{WorldRepresents}
use Rattle.fm_service.proofs.Anew.{halfway_world}
use Rattle.fm_service.proofs.renewing.renewed.Given as goal

abbrev pub invariant-loop-coordinator : goal.invariant-loop-coordinator
invariant-loop-coordinator l = (w : WorldOfSets) → WorldRepresents l.world w → WorldRepresents l.anew (halfway_world l.coordinator-index w)
