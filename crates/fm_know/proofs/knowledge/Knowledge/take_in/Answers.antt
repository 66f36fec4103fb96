use Rattle.fm_know.proofs.Grown.{all_grown}
use Rattle.fm_know.proofs.knowledge.Knowledge.take_in.Goals as goal

pub invariant_of-self : goal.invariant_of-self
invariant_of-self c =
    all_grown _ _ c.self.invariant c.other.invariant c.join_four.result c.join_four.new.first c.join_four.new.second c.join_four.new.third c.join_four.new.fourth c.join_four.ensures.first c.join_four.ensures.second c.join_four.ensures.third c.join_four.ensures.fourth c.join_four.ensures.err
