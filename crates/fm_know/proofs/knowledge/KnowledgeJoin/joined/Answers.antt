use Rattle.fm_records.proofs.JoinedLaws.{join_can_be}
use Rattle.fm_know.proofs.knowledge.KnowledgeJoin.joined.Goals as goal

pub invariant_of-result : goal.invariant_of-result
invariant_of-result c =
    rw (c.in_ok-joined.ensures.ok, c.in_ok-joined-2.ensures.ok, c.in_ok-joined-3.ensures.ok, c.in_ok-joined-4.ensures.ok)
    (join_can_be _ _ c.self.invariant c.other.invariant)
