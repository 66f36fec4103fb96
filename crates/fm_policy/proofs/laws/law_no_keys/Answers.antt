use Rattle.fm_policy.proofs.Keys.{no_keys_joined, nothing_joined}
use Rattle.fm_policy.proofs.laws.law_no_keys.Goals as goal

pub returns-clause-joined : goal.returns-clause-joined
returns-clause-joined c = no_keys_joined

pub returns-clause-nothing : goal.returns-clause-nothing
returns-clause-nothing c = nothing_joined
