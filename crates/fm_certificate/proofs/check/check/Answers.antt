use Rattle.std.proofs.Common.{◌≡◌, ◌∙◌, sym, true, false}
use Rattle.fm_certificate.proofs.Certified.{of_small, certified, certified_of, certified_fit, certified_sends}
use Rattle.fm_certificate.proofs.Least.{certified_is_least}
use Rattle.fm_certificate.proofs.check.check.Goals as goal

not_both : {P : Type 0} → false ≡ true → P
not_both e = absurd (let no : ⊥ = cc in no)

pub arcs_fit-requires : goal.arcs_fit-requires
arcs_fit-requires c = record { small = of_small c.args.potentials.now c.args.network.now.nodes (c.are_of.ensures.0 c.if-not-are_of.false) }

pub returns-then-not-are_of-clause-exact : goal.returns-then-not-are_of-clause-exact
returns-then-not-are_of-clause-exact c = (
  λ h. not_both h,
  λ cert. not_both (sym c.if-not-are_of.true ∙ c.are_of.ensures.1 (certified_of c.args.network.now c.known.ensures c.args.flow.now c.known-2.ensures.rises c.args.potentials.now c.known-3.ensures.rises cert)),
)

pub returns-then-not-arcs_fit-clause-exact : goal.returns-then-not-arcs_fit-clause-exact
returns-then-not-arcs_fit-clause-exact c = (
  λ h. not_both h,
  λ cert. not_both (sym c.if-not-arcs_fit.true ∙ c.arcs_fit.ensures.1 (certified_fit c.args.network.now c.known.ensures c.args.flow.now c.known-2.ensures.rises c.args.potentials.now c.known-3.ensures.rises cert)),
)

pub returns-clause-exact : goal.returns-clause-exact
returns-clause-exact c = (
  λ h. certified c.args.network.now c.known.ensures c.args.flow.now c.known-2.ensures.rises c.args.potentials.now c.known-3.ensures.rises (c.are_of.ensures.0 c.if-not-are_of.false) (c.arcs_fit.ensures.0 c.if-not-arcs_fit.false) (sym c.nodes_send.ensures ∙ h),
  λ cert. c.nodes_send.ensures ∙ certified_sends c.args.network.now c.known.ensures c.args.flow.now c.known-2.ensures.rises c.args.potentials.now c.known-3.ensures.rises cert,
)

pub returns-clause-least : goal.returns-clause-least
returns-clause-least c =
    λ h. certified_is_least c.args.network.now c.args.flow.now c.args.potentials.now c.known.ensures
    (certified c.args.network.now c.known.ensures c.args.flow.now c.known-2.ensures.rises c.args.potentials.now c.known-3.ensures.rises (c.are_of.ensures.0 c.if-not-are_of.false) (c.arcs_fit.ensures.0 c.if-not-arcs_fit.false) (sym c.nodes_send.ensures ∙ h))
