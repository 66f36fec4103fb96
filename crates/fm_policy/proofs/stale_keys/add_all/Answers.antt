use Rattle.std.proofs.Common.{◌∙◌, ◌≤◌, ◌||◌, length, sym, rules}
use Rattle.std.proofs.lemmas.List.{drop_all}
use Rattle.std.specs.Ordering.{is_eq}
use Rattle.std.specs.List.{list_any}
use Rattle.fm_policy.proofs.Keys.{or_none}
use Rattle.fm_policy.proofs.stale_keys.add_all.Goals as goal

pub returns : goal.returns
returns g c = λ q.
    let past : length c.args.ids.now ≤ c.loop-id.id-index = search rules in
    or_none (list_any (λ x. is_eq (g.T.Ord.cmp q x)) c.loop-id.set.keys)
    ∙ sym (λ i. list_any (λ x. is_eq (g.T.Ord.cmp q x)) c.loop-id.set.keys || list_any (λ x. is_eq (g.T.Ord.cmp q x)) (drop_all c.loop-id.id-index c.args.ids.now past i))
    ∙ c.loop-id.invariant q
