use Rattle.std.proofs.Common.{◌≡◌, map, take}
use Rattle.fm_world.specs.Represents.{number_of, opening_of, AreUnused}
use Rattle.fm_script.proofs.Opening.{limited}
use Rattle.fm_script.proofs.initial_world.open.Given as goal

abbrev pub invariant-loop-number : goal.invariant-loop-number
invariant-loop-number l = record {
  numbers : map number_of l.coordinators.items ≡ take l.number-index l.listed;
  openings : map opening_of l.coordinators.items ≡ map limited (take l.number-index l.listed);
  unused : AreUnused l.coordinators.items;
}
