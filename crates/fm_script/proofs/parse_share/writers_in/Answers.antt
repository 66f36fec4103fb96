use Rattle.std.proofs.lemmas.Grind.{common_steps}
use Rattle.std.proofs.Common.{arith}
use Rattle.fm_script.proofs.Views.{list_of-items_of}
use Rattle.fm_script.proofs.parse_share.writers_in.Goals as goal

pub returns : goal.returns
returns c = grind (arith, common_steps, list_of-items_of)
