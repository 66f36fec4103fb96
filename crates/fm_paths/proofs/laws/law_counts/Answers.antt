use Rattle.fm_paths.proofs.Moves.{asked_count, slot_count}
use Rattle.fm_paths.proofs.laws.law_counts.Goals as goal

pub returns-clause-asked : goal.returns-clause-asked
returns-clause-asked c k moves can_be are r m = asked_count k moves can_be are r m

pub returns-clause-slots : goal.returns-clause-slots
returns-clause-slots c k moves can_be are m = slot_count k moves can_be are m
