use Rattle.std.proofs.Common.{◌≡◌, subst}
use Rattle.fm_records.specs.Table.{Table}
use Rattle.fm_share.specs.Shares.{share_of}
use Rattle.fm_service.proofs.acting.part_for.Goals as goal

pub returns-clause-ok : goal.returns-clause-ok
returns-clause-ok c = record {
  plan = c.in_ok-plan.plan;
  plan_of = c.in_ok-plan.ensures.ok;
  is = subst (λ (k : Table). c.in_ok-part.part ≡ share_of k c.args.share.now c.in_ok-plan.plan) c.knowledge.ensures c.in_ok-part.ensures;
}
