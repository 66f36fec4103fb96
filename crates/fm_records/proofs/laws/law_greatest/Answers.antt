use Rattle.fm_records.proofs.GreatestLaws.{greatest_is, least_is}
use Rattle.fm_records.proofs.laws.law_greatest.Goals as goal

pub returns : goal.returns
returns g c = record { greatest = greatest_is g.K.Ord.cmp g.met.K.Ord.total; least = least_is g.K.Ord.cmp g.met.K.Ord.total }
