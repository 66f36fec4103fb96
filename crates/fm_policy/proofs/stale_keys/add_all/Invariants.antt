use Rattle.std.proofs.Common.{◌≡◌, ◌||◌, drop}
use Rattle.std.specs.Ordering.{is_eq}
use Rattle.std.specs.List.{list_any}
use Rattle.fm_policy.proofs.stale_keys.add_all.Given as goal

abbrev pub invariant-loop-id : goal.invariant-loop-id
invariant-loop-id g l =
    (q : _) → (list_any (λ x. is_eq (g.T.Ord.cmp q x)) l.set.keys || list_any (λ x. is_eq (g.T.Ord.cmp q x)) (drop l.id-index l.ids))
    ≡ (list_any (λ x. is_eq (g.T.Ord.cmp q x)) l.fn.set.keys || list_any (λ x. is_eq (g.T.Ord.cmp q x)) l.ids)
