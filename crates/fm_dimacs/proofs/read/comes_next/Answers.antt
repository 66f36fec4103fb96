use Rattle.std.proofs.Common.{◌≡◌, refl, sym, ◌∙◌, slice_get, length, ◌-◌, Some}
use Rattle.fm_dimacs.proofs.Reader.{next_is_after, after_is_next}
use Rattle.fm_dimacs.proofs.read.comes_next.Goals as goal

pub returns-in-Less : goal.returns-in-Less
returns-in-Less c =
    let last : slice_get c.args.nodes.now (length c.args.nodes.now - 1) ≡ Some c.in-Some.last.now = sym c.in-Some.ensures.value in
    (λ _. after_is_next c.args.nodes.now c.in-Some.last.now c.args.node.now last c.requires (sym c.order.ensures.derived ∙ c.in-Less.is), λ _. refl)

pub returns-in_default : goal.returns-in_default
returns-in_default c =
    let last : slice_get c.args.nodes.now (length c.args.nodes.now - 1) ≡ Some c.in-Some.last.now = sym c.in-Some.ensures.value in
    (λ h. absurd (let never : ⊥ = cc in never), λ h. absurd (c.in_default.not-Less (c.order.ensures.derived ∙ next_is_after c.args.nodes.now c.in-Some.last.now c.args.node.now last h)))
