use Rattle.std.proofs.Common.{◌≡◌, ◌∙◌, ap, sym, subst, rules, IfErr}
use Rattle.std.proofs.lemmas.List.Sorted.{answers_always}
use Rattle.fm_lattice.specs.Maps.{lookup, IsRising}
use Rattle.fm_lattice.specs.inner.SortedVec.{IsInsertionIndex}
use Rattle.fm_lattice.proofs.Places.{searched, lookup_gap}
use Rattle.fm_tally.proofs.sorted.Sorted.index.Goals as goal

pub returns-in-Ok-clause-found : goal.returns-in-Ok-clause-found
returns-in-Ok-clause-found g c =
    let xs = c.deref.result.now in
    let rising : IsRising g.K.Ord.cmp xs = subst (IsRising g.K.Ord.cmp) (let is : c.self.inside.pairs.items ≡ xs = search rules in is) c.self.invariant in
    let facts = c.binary_search_by_key.ensures in
    let by_key = facts.position (λ pair. pair.0) (answers_always _ _ _ (λ f a r g called. search rules)) in
    let found = (searched g.K.Ord.cmp g.met.K.Ord.total g.met.K.Chain.same xs c.args.key.now rising c.binary_search_by_key.result facts.bound by_key).found in
    let here : xs ≡ c.args.self.now = search rules in
    search (rules, found, here)

pub returns-in-Err-clause-absent : goal.returns-in-Err-clause-absent
returns-in-Err-clause-absent g c =
    let xs = c.deref.result.now in
    let rising : IsRising g.K.Ord.cmp xs = subst (IsRising g.K.Ord.cmp) (let is : c.self.inside.pairs.items ≡ xs = search rules in is) c.self.invariant in
    let facts = c.binary_search_by_key.ensures in
    let by_key = facts.position (λ pair. pair.0) (answers_always _ _ _ (λ f a r g called. search rules)) in
    let absent = (searched g.K.Ord.cmp g.met.K.Ord.total g.met.K.Chain.same xs c.args.key.now rising c.binary_search_by_key.result facts.bound by_key).absent in
    let gap = subst (λ r. IfErr r (IsInsertionIndex g.K.Ord.cmp xs c.args.key.now)) c.in-Err.is absent in
    let here : xs ≡ c.args.self.now = search rules in
    λ _. ap (lookup g.K.Ord.cmp c.args.key.now) (sym here) ∙ lookup_gap g.K.Ord.cmp g.met.K.Ord.total g.met.K.Chain.same xs c.args.key.now c.in-Err.field-0 gap
