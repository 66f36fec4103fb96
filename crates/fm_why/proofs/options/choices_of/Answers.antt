use Rattle.std.proofs.Common.{subst, rules, map}
use Rattle.std.specs.List.Sorted.{IsPermutation}
use Rattle.std.proofs.lemmas.List.Sorted.{IsPermutation-map, IsNonDecreasingBy-from_sort_by_key}
use Rattle.fm_why.specs.declared.reasons.Choice.{Choice}
use Rattle.fm_why.proofs.options.choices_of.Goals as goal

pub returns-clause-all : goal.returns-clause-all
returns-clause-all c =
    let moved = IsPermutation-map (λ (e : Choice). e.machine) _ _ c.in_ok-sort_by_key.ensures.permutation in
    subst (λ ms. IsPermutation ms (map (λ (e : Choice). e.machine) c.sort_by_key.new.self.items)) c.in_ok-found.ensures.all moved

pub returns-clause-cheapest_first : goal.returns-clause-cheapest_first
returns-clause-cheapest_first c = IsNonDecreasingBy-from_sort_by_key (λ (e : Choice). e.dearer) _ c.in_ok-sort_by_key.ensures.sorted (λ a r q k. search rules)
