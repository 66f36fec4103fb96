use Rattle.std.proofs.Common.{◌≡◌, ◌∙◌, ap, sym, subst, rules, get_or, Some}
use Rattle.fm_lattice.specs.Maps.{IsRising}
use Rattle.fm_lattice.proofs.Places.{lookup_at}
use Rattle.fm_tally.proofs.sorted.Sorted.value.Goals as goal

pub returns : goal.returns
returns g c =
    let pair = c.index.result.now in
    let rising : IsRising g.K.Ord.cmp c.args.self.now = subst (IsRising g.K.Ord.cmp) (let is : c.self.inside.pairs.items ≡ c.args.self.now = search rules in is) c.self.invariant in
    lookup_at g.K.Ord.cmp g.met.K.Ord.total g.met.K.Chain.same c.args.self.now c.args.key.now c.args.at pair rising c.requires ∙ sym (ap (λ p. Some p.1) (c.index.ensures ∙ ap (λ xs. get_or xs c.args.at pair) (let is : c.self.inside.pairs.items ≡ c.args.self.now = search rules in is)))
