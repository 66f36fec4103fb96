use Rattle.fm_policy.proofs.Keys.{keys_joined}
use Rattle.fm_policy.proofs.laws.law_joined_keys.Goals as goal

pub returns : goal.returns
returns c = keys_joined
