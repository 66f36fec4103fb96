use Rattle.std.proofs.Common.{◌∙◌, subst, sym}
use Rattle.fm_policy.proofs.KeepingLaws.{took_none}
use Rattle.fm_tally.specs.Tallies.{TallyIsFor}
use Rattle.fm_tally.specs.Unfinished.{AreUnfinished}
use Rattle.fm_coord.proofs.tally_cache.Tallied.refresh.Goals as goal

pub returns-clause-kept : goal.returns-clause-kept
returns-clause-kept c = record {
  tasks = took_none (λ before. AreUnfinished before c.in_ok-tasks.tasks) c.args.knowledge.now c.new-2.result c.law_can_be.ensures c.new-2.ensures c.in_ok-tasks.ensures;
  tally = subst (TallyIsFor c.args.knowledge.now) (sym (c.in_ok-share.ensures ∙ c.in_ok-tally.ensures)) c.in_ok-made.ensures;
}
