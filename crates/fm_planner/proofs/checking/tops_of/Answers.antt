use Rattle.std.proofs.Common.{◌≡◌, ◌∙◌, ◌≤◌, ◌<◌, ◌^◌, ◌+◌, ◌++◌, ◌∷◌, [], ℕ, slice_index_or, sym, ap, subst, drop, append_assoc, rules}
use Rattle.std.specs.Ordering.{nat_cmp}
use Rattle.std.proofs.lemmas.List.{drop_more, drop_all, append-nil}
use Rattle.fm_lattice.specs.Maps.{IsRising}
use Rattle.fm_planner.specs.inner.Slackness.{AllOf, IsTop}
use Rattle.fm_planner.proofs.Tops.{all_map, all_both, top_before, raised}
use Rattle.fm_planner.proofs.checking.tops_of.Goals as goal

pub loop-request-preserved : goal.loop-request-preserved
loop-request-preserved c =
    let offers = c.args.claim.now.offers in
    let xs = c.pairs-request-items.result.now in
    let i = c.loop-request.request-index in
    let item : ℕ × ℕ = slice_index_or xs i (0, 0) in
    let walked = c.loop-request.invariant.walked in
    let rest = drop (i + 1) xs in
    let most = c.loop-request.most in
    let left : drop i xs ≡ item ∷ rest = drop_more xs i (0, 0) c.loop-request-test.true in
    let whole : offers ≡ walked ++ item ∷ rest = c.loop-request.invariant.whole ∙ ap (λ es. walked ++ es) left in
    let rises : IsRising nat_cmp offers = subst (IsRising nat_cmp) c.pairs-request-items.ensures.pairs c.pairs-request-items.ensures.rising in
    let below = c.loop-request.invariant.below in
    let found : IsTop offers (item.0, most) = subst (λ es. IsTop es (item.0, most)) (sym whole) (top_before walked rest item most (subst (IsRising nat_cmp) whole rises) below) in
    let top : IsTop offers (c.from.result, most) = subst (λ r. IsTop offers (r, most)) (sym c.from.ensures) found in
    record {
      tops = subst (AllOf (IsTop offers)) (sym c.in_ok-push.ensures.items) (all_both (IsTop offers) c.loop-request.tops.items ((c.from.result, most) ∷ []) c.loop-request.invariant.tops (top, tt));
      walked = walked ++ item ∷ [];
      whole = whole ∙ sym (append_assoc walked (item ∷ []) rest);
      below = raised walked item most c.max-most.result (search rules) (search rules) below;
    }

pub returns : goal.returns
returns c =
    let offers = c.args.claim.now.offers in
    let most = c.loop-request.most in
    let walked = c.loop-request.invariant.walked in
    let whole : offers ≡ walked = c.loop-request.invariant.whole ∙ ap (λ es. walked ++ es) (drop_all c.loop-request.request-index c.pairs-request-items.result.now (search rules)) ∙ append-nil walked in
    subst (AllOf (IsTop offers)) (sym c.in_ok-push-2.ensures.items) (all_both (IsTop offers) c.loop-request.tops.items ((2 ^ 32, most) ∷ []) c.loop-request.invariant.tops (all_map (λ x. x.1 ≤ most) (λ x. x.0 < 2 ^ 32 → x.1 ≤ most) offers (λ x h _. h) (subst (AllOf (λ x. x.1 ≤ most)) (sym whole) c.loop-request.invariant.below), tt))
