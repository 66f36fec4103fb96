use Rattle.fm_share.proofs.Listing.{is_listed}
use Rattle.fm_share.proofs.laws.law_writers.Goals as goal

pub returns : goal.returns
returns c = is_listed
