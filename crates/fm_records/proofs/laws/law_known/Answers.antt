use Rattle.std.proofs.Common.{sym, subst}
use Rattle.fm_records.specs.Characterized.{IsKnow}
use Rattle.fm_records.proofs.KnowLaws.{know_is, is_know}
use Rattle.fm_records.proofs.laws.law_known.Goals as goal

pub returns : goal.returns
returns c S k = (is_know S k, λ e. subst (IsKnow S) (sym e) (know_is S))
