-- The world with which a run of the program begins (this project's profile).
use Rattle.std.specs.Prelude.{ℕ, List, map}
use Rattle.fm_world.specs.Worlds.{WorldOfSets, opening_world}

-- how many entries a history of the program may have
abbrev pub history_limit : ℕ
history_limit = 1000000

-- the world of these coordinators, to which nothing happened
abbrev pub new_world : List ℕ → WorldOfSets
new_world listed = opening_world (map (λ n. (n, history_limit)) listed)
