use Rattle.std.proofs.Common.{take}
use Rattle.fm_world.specs.Worlds.{WorldOfSets, run_of, AreAccepted}
use Rattle.fm_world.specs.Represents.{WorldRepresents}
use Rattle.fm_world.proofs.world.World.run.Given as goal

abbrev pub invariant-loop-place : goal.invariant-loop-place
invariant-loop-place g l = record {
  stands : (w : WorldOfSets) → WorldRepresents l.fn.self w → WorldRepresents l.self (run_of w (take l.place l.steps));
  accepted : (w : WorldOfSets) → WorldRepresents l.fn.self w → AreAccepted w (take l.place l.steps);
}
