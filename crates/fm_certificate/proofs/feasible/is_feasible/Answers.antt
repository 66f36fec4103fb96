use Rattle.std.proofs.Common.{◌∙◌, sym}
use Rattle.fm_certificate.proofs.Balanced.{feasible}
use Rattle.fm_certificate.proofs.feasible.is_feasible.Goals as goal

pub returns : goal.returns
returns c = λ h. feasible c.args.network.now c.args.flow.now c.known.ensures.rises (c.are_units_within.ensures.0 c.if-not-are_units_within.false) (sym c.nodes_send.ensures ∙ h)
