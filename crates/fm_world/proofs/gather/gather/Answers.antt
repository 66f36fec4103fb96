use Rattle.std.proofs.Common.{rules, ◌≡◌, ℕ, List, [], ◌∷◌, length, map, refl, sym, subst, ◌∙◌, arith, vec_len}
use Rattle.std.proofs.lemmas.Bool.{eqb-true}
use Rattle.fm_coord.specs.Numbers.{AreDistinct}
use Rattle.fm_world.specs.Represents.{state_of}
use Rattle.fm_world.specs.Listings.{Halts}
use Rattle.fm_world.proofs.Running.{same_numbers}
use Rattle.fm_world.proofs.Visits.{whole_run, whole_accepted}
use Rattle.fm_world.proofs.gather.gather.Goals as goal

no_items : (ns : List ℕ) → length ns ≡ 0 → ns ≡ []
no_items [] is = refl
no_items (n ∷ ns) is = absurd (omega arith)

pub returns-then-is_empty-clause-whole : goal.returns-then-is_empty-clause-whole
returns-then-is_empty-clause-whole g c =
    let ss = map state_of c.args.coordinators.now in
    let h : Halts ss c.in-Ok.left.items c.in-Ok.steps.items = search rules in
    let zero_long : vec_len c.in-Ok.left ≡ 0 = eqb-true (vec_len c.in-Ok.left) 0 (sym c.is_empty.ensures ∙ c.if-is_empty.true) in
    let none = no_items c.in-Ok.left.items (omega (arith, c.in-Ok.left.ok)) in
    whole_run ss c.law_known.ensures (subst AreDistinct (same_numbers c.args.coordinators.now) c.requires) c.in-Ok.left.items c.in-Ok.steps.items h none

pub returns-then-is_empty-clause-accepted : goal.returns-then-is_empty-clause-accepted
returns-then-is_empty-clause-accepted g c =
    let ss = map state_of c.args.coordinators.now in
    let h : Halts ss c.in-Ok.left.items c.in-Ok.steps.items = search rules in
    let zero_long : vec_len c.in-Ok.left ≡ 0 = eqb-true (vec_len c.in-Ok.left) 0 (sym c.is_empty.ensures ∙ c.if-is_empty.true) in
    let none = no_items c.in-Ok.left.items (omega (arith, c.in-Ok.left.ok)) in
    whole_accepted ss c.law_known.ensures (subst AreDistinct (same_numbers c.args.coordinators.now) c.requires) c.in-Ok.left.items c.in-Ok.steps.items h none
