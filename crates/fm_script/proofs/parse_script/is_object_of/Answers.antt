use Rattle.std.proofs.lemmas.Grind.{common_steps}
use Rattle.std.proofs.Common.{arith}
use Rattle.fm_script.proofs.Views.{count_of-members_view}
use Rattle.fm_script.proofs.parse_script.is_object_of.Goals as goal

pub returns-in-Some : goal.returns-in-Some
returns-in-Some c = grind (arith, common_steps, count_of-members_view)
