use Rattle.std.proofs.Common.{◌∷◌, [], sym, subst, refl}
use Rattle.fm_records.specs.Ranges.{CanBe}
use Rattle.fm_records.proofs.RangeLaws.{know_can_be}
use Rattle.fm_know.proofs.knowledge.Knowledge.delta_of.Goals as goal

pub invariant_of-result : goal.invariant_of-result
invariant_of-result c =
    subst CanBe
    (λ i. record { jobs = sym c.in_ok-jobs_of.ensures i; tasks = sym c.in_ok-tasks_of.ensures i; machines = sym c.in_ok-machines_of.ensures i; proposals = sym c.in_ok-proposals_of.ensures i })
    (know_can_be (c.args.op.now ∷ []) (rw (c.law_fits.ensures, c.requires) refl))
