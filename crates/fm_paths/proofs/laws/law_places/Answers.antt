use Rattle.fm_paths.proofs.Planned.{places_are}
use Rattle.fm_paths.proofs.laws.law_places.Goals as goal

pub returns : goal.returns
returns c k way can_be can fit in_turn = places_are k way can_be can fit in_turn
