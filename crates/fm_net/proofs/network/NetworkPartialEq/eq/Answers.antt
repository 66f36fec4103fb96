use Rattle.std.proofs.Common.{◌∙◌, sym}
use Rattle.std.specs.Map.{keys_of}
use Rattle.fm_net.specs.Net.{Net}
use Rattle.fm_net.proofs.Equal.{same_keys, same_nodes, other_nodes, exact}
use Rattle.fm_net.proofs.network.NetworkPartialEq.eq.Goals as goal

pub returns-then-eq-clause-value : goal.returns-then-eq-clause-value
returns-then-eq-clause-value c =
    let m : Net = record { nodes = keys_of c.self.inside.nodes; arcs = c.self.inside.arcs } in
    let n : Net = record { nodes = keys_of c.other.inside.nodes; arcs = c.other.inside.arcs } in
    let nodes = sym (same_keys c.self.inside.nodes c.other.inside.nodes) ∙ sym c.eq.ensures ∙ c.if-eq.true in
    rw (← c.self.view_is, ← c.other.view_is) (same_nodes m n c.eq-then-eq.result nodes c.eq-then-eq.ensures)

pub returns-then-eq-clause-exact : goal.returns-then-eq-clause-exact
returns-then-eq-clause-exact c =
    let m : Net = record { nodes = keys_of c.self.inside.nodes; arcs = c.self.inside.arcs } in
    let n : Net = record { nodes = keys_of c.other.inside.nodes; arcs = c.other.inside.arcs } in
    let nodes = sym (same_keys c.self.inside.nodes c.other.inside.nodes) ∙ sym c.eq.ensures ∙ c.if-eq.true in
    rw (← c.self.view_is, ← c.other.view_is) (exact m n c.eq-then-eq.result (same_nodes m n c.eq-then-eq.result nodes c.eq-then-eq.ensures))

pub returns-else-eq-clause-value : goal.returns-else-eq-clause-value
returns-else-eq-clause-value c =
    let m : Net = record { nodes = keys_of c.self.inside.nodes; arcs = c.self.inside.arcs } in
    let n : Net = record { nodes = keys_of c.other.inside.nodes; arcs = c.other.inside.arcs } in
    let nodes = sym (same_keys c.self.inside.nodes c.other.inside.nodes) ∙ sym c.eq.ensures ∙ c.if-eq.false in
    rw (← c.self.view_is, ← c.other.view_is) (other_nodes m n c.eq.result nodes c.if-eq.false)

pub returns-else-eq-clause-exact : goal.returns-else-eq-clause-exact
returns-else-eq-clause-exact c =
    let m : Net = record { nodes = keys_of c.self.inside.nodes; arcs = c.self.inside.arcs } in
    let n : Net = record { nodes = keys_of c.other.inside.nodes; arcs = c.other.inside.arcs } in
    let nodes = sym (same_keys c.self.inside.nodes c.other.inside.nodes) ∙ sym c.eq.ensures ∙ c.if-eq.false in
    rw (← c.self.view_is, ← c.other.view_is) (exact m n c.eq.result (other_nodes m n c.eq.result nodes c.if-eq.false))
