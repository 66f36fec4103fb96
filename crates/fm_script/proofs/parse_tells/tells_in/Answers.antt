use Rattle.std.proofs.Common.{map}
use Rattle.serde_json.specs.View.{view}
use Rattle.fm_script.proofs.Spelling.{AreDistinct-listed}
use Rattle.fm_script.proofs.parse_tells.tells_in.Goals as goal

pub returns-clause-distinct : goal.returns-clause-distinct
returns-clause-distinct c = AreDistinct-listed (map view c.in-Some.listed.now) _ (rw c.in-Some-2.is at c.in_ok-coordinators.ensures)
