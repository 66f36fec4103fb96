-- Entries by the node that their arc leaves.
use Rattle.std.specs.Prelude.{◌≡◌, List, [], ◌∷◌}
use Rattle.std.specs.declared.cmp.Ordering.TheVariants.{Less}
use Rattle.fm_net.specs.declared.node.Node.{Node}
use Rattle.fm_net.specs.Nodes.{node_cmp}
use Rattle.fm_certificate.specs.Totals.{Entry}

-- no arc leaves a node below this one
abbrev pub NoneBelow : Node → List Entry → Type 0
NoneBelow n [] = Unit {0}
NoneBelow n (e ∷ es) = (node_cmp e.0.0 n ≡ Less → ⊥) × NoneBelow n es
