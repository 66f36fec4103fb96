use Rattle.std.proofs.Common.{List, ℕ, sym, subst}
use Rattle.std.specs.Prelude.{ℤ}
use Rattle.fm_net.specs.declared.node.Node.{Node}
use Rattle.fm_certificate.specs.Certificates.{IsCertified}
use Rattle.fm_indexed.specs.inner.Named.{named_units}
use Rattle.fm_indexed.proofs.Certify.{is_certified}
use Rattle.fm_indexed.proofs.Naming.{named_rise, valued_rise}
use Rattle.fm_indexed.proofs.to_named.certified.Goals as goal

pub returns : goal.returns
returns c =
    let net = c.args.network.now in
    let units = c.args.units.now in
    let values = c.args.values.now in
    let both = is_certified net c.known.ensures c.args.numbered.now.places c.args.numbered.now.arcs.items c.requires.numbered units c.requires.flow values c.requires.potentials
    (named_rise net.arcs units c.known.ensures.arcs_rise) (valued_rise net.nodes values c.known.ensures.nodes_rise) in
    subst (λ (flow : List ((Node × Node) × ℕ)). IsCertified net flow c.in_ok-potentials.potentials) (sym c.in_ok-flow.ensures)
    (subst (λ (potentials : List (Node × ℤ)). IsCertified net (named_units net.arcs units) potentials) (sym c.in_ok-potentials.ensures) both)
