use Rattle.std.proofs.Common.{◌≡◌, ◌∙◌, ap, sym, subst, rules, get_or, slice_set}
use Rattle.fm_lattice.specs.Maps.{keep_new, IsRising}
use Rattle.fm_lattice.specs.laws.MapLaws.{rising_put}
use Rattle.fm_lattice.proofs.Places.{put_at}
use Rattle.fm_tally.proofs.sorted.Sorted.replace.Goals as goal

pub returns : goal.returns
returns g c =
    let pair = c.index_mut.result.now in
    let es = c.args.self.now in
    let is : c.self.inside.pairs.items ≡ es = search rules in
    let rising = subst (IsRising g.K.Ord.cmp) is c.self.invariant in
    let placed = put_at g.K.Ord.cmp g.met.K.Ord.total g.met.K.Chain.same keep_new es c.args.key c.args.value c.args.at pair rising c.requires in
    let read : get_or es c.args.at pair ≡ pair = ap (λ xs. get_or xs c.args.at pair) (sym is) ∙ sym c.index_mut.ensures.value in
    ap (λ xs. slice_set xs c.args.at (pair.0, c.args.value)) is ∙ sym (rw read at placed)

pub invariant_of-self : goal.invariant_of-self
invariant_of-self g c = subst (IsRising g.K.Ord.cmp) (sym (returns g c)) (rising_put g.K.Ord.cmp g.met.K.Ord.total g.met.K.Chain.same keep_new c.args.key c.args.value c.args.self.now (subst (IsRising g.K.Ord.cmp) (let is : c.self.inside.pairs.items ≡ c.args.self.now = search rules in is) c.self.invariant))
