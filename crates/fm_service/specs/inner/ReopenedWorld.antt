-- The world after a renewal.
use Rattle.std.specs.Prelude.{map}
use Rattle.fm_world.specs.Worlds.{WorldOfSets}
use Rattle.fm_script.specs.Openings.{new_world}

-- replicas of the same numbers, to which nothing happened
abbrev pub reopened_world : WorldOfSets → WorldOfSets
reopened_world w = new_world (map (λ r. r.number) w.replicas)
