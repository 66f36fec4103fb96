-- What a round commits: its share of the plan of a least flow (this project's profile, after Firmament's rounds).
use Rattle.std.specs.Prelude.{◌≡◌}
use Rattle.fm_records.specs.Table.{Table}
use Rattle.fm_round.specs.declared.plan.Plan.{Plan}
use Rattle.fm_round.specs.Schedules.{IsPlanOf}
use Rattle.fm_share.specs.declared.share.Share.{Share}
use Rattle.fm_share.specs.Shares.{share_of}

-- the entries are the share of the plan of some least flow of the network of what is known
pub record IsPartOf (k : Table) (share : Share) (part : Plan) : Type 0 where
  pub plan : Plan
  pub plan_of : IsPlanOf k plan
  pub is : part ≡ share_of k share plan
