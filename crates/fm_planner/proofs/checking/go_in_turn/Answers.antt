use Rattle.std.proofs.Common.{◌≡◌, ◌∙◌, ◌+◌, ℕ, ◌∷◌, sym, ap, subst, drop}
use Rattle.std.specs.Ordering.{nat_cmp}
use Rattle.std.specs.BTreeMap.{get}
use Rattle.std.proofs.lemmas.List.{drop_more}
use Rattle.fm_tally.specs.declared.way.Way.{Way}
use Rattle.fm_planner.specs.inner.Slackness.{GoInTurn}
use Rattle.fm_planner.proofs.Turns.{go_on}
use Rattle.fm_planner.proofs.checking.go_in_turn.Goals as goal

pub loop-way-preserved : goal.loop-way-preserved
loop-way-preserved c =
    let xs = c.args.moves.now in
    let i = c.loop-way.way-index in
    let item : ℕ × Way = c.loop-way-item.result in
    let last = get nat_cmp c.loop-way.last in
    let left : drop i xs ≡ item ∷ drop (i + 1) xs = drop_more xs i item c.loop-way-test.true ∙ ap (λ x. x ∷ drop (i + 1) xs) (sym c.loop-way-item.is) in
    λ go. c.loop-way.invariant (subst (GoInTurn last) (sym left) (go_on last (get nat_cmp c.is_next.new.last) item (drop (i + 1) xs) (c.in_ok-is_next.ensures.next c.if-not-branch.false) c.in_ok-is_next.ensures.after go))
