use Rattle.std.proofs.Common.{take}
use Rattle.fm_world.specs.Worlds.{WorldOfSets}
use Rattle.fm_world.specs.Represents.{WorldRepresents}
use Rattle.fm_serve.specs.ScriptSteps.{Come}
use Rattle.fm_serve.proofs.run.take_all.Given as goal

abbrev pub invariant-loop-place : goal.invariant-loop-place
invariant-loop-place l = record {
  came : (w : WorldOfSets) → WorldRepresents l.fn.world w → (v : WorldOfSets) × Come w (take l.place l.steps) v × WorldRepresents l.world v;
}
