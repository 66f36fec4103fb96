-- What a round commits (this project's profile).
use Rattle.std.specs.Prelude.{◌≡◌}
use Rattle.fm_records.specs.Table.{Table}
use Rattle.fm_round.specs.declared.plan.Plan.{Plan}
use Rattle.fm_share.specs.Parts.{IsPartOf}
use Rattle.fm_relief.specs.Relief.{relief_of, plan_of_relief}
use Rattle.fm_script.specs.declared.script.RoundKind.{RoundKind}
use Rattle.fm_script.specs.declared.script.RoundKind.TheVariants.{Share, Relief}

-- a round commits its share of the plan of some least flow of the network of what is known, or the relief of what is known
abbrev pub IsRoundPlan : Table → RoundKind → Plan → Type 0
IsRoundPlan k (Share share) plan = IsPartOf k share plan
IsRoundPlan k Relief plan = plan ≡ plan_of_relief (relief_of k)
