use Rattle.std.proofs.Common.{rules, ◌∙◌, ap, length}
use Rattle.fm_fleet.proofs.node.Node.new.Goals as goal

pub invariant_of-node : goal.invariant_of-node
invariant_of-node g c = (ap length c.history-base.ensures ∙ c.requires.base, c.requires.seats.0, search rules, search rules)
