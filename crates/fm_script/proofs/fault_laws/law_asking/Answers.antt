use Rattle.fm_script.proofs.Asking.{value-asking}
use Rattle.fm_script.proofs.fault_laws.law_asking.Goals as goal

pub returns : goal.returns
returns c = value-asking
