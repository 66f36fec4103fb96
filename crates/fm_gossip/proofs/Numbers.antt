-- Of coordinators, the numbers of their states.
use Rattle.std.proofs.Common.{◌≡◌, ℕ, List, [], ◌∷◌, map, refl, ap}
use Rattle.fm_coord.specs.States.{WithKeeper}
use Rattle.fm_world.specs.Represents.{state_of, number_of}
use Rattle.fm_world.specs.Listings.{number_in}

pub numbers_of : {N : Type 0} (cs : List (WithKeeper N)) → map number_of cs ≡ map number_in (map state_of cs)
numbers_of [] = refl
numbers_of (c ∷ cs) = ap (λ ns. c.state.number ∷ ns) (numbers_of cs)
