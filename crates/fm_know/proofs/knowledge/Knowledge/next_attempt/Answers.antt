use Rattle.std.proofs.Common.{ap, arith}
use Rattle.fm_know.proofs.AfterTelling.{attempt_told}
use Rattle.fm_know.proofs.knowledge.Knowledge.next_attempt.Goals as goal

pub returns-clause-told : goal.returns-clause-told
returns-clause-told c =
    let same = ap (λ p. p.attempt) c.attempt-attempt.ensures in
    attempt_told c.args.self.now c.known.ensures.table c.args.id _ (omega (arith, same))
