use Rattle.std.proofs.Common.{sym}
use Rattle.serde_json.specs.View.{view}
use Rattle.fm_script.proofs.Plainly.{IsPlain-asked}
use Rattle.fm_script.proofs.parse_request.line_in.Goals as goal

pub returns-in-Some-2-clause-plain : goal.returns-in-Some-2-clause-plain
returns-in-Some-2-clause-plain c = IsPlain-asked _ (view c.args.value.now) _ (sym (rw c.in-Some-2.is at c.in_ok-request.ensures))
