use Rattle.std.proofs.Common.{ap, ◌∙◌, sym}
use Rattle.fm_know.specs.Mutators.{next_version}
use Rattle.fm_know.proofs.AfterTelling.{some_of, job_told}
use Rattle.fm_know.proofs.knowledge.Knowledge.next_job.Goals as goal

pub returns-clause-told : goal.returns-clause-told
returns-clause-told c = job_told c.args.self.now c.known.ensures.table c.args.id _ c.args.writer c.args.withdrawn c.args.wait c.args.preempt (ap next_version (sym c.job_version.ensures) ∙ some_of _ _ _ c.in_ok-version.ensures)
