use Rattle.std.proofs.Common.{◌≡◌, ◌+◌, [], ◌∷◌, ◌++◌, sym, ◌∙◌, ap, subst, take, drop, length}
use Rattle.std.specs.Prelude.{option_to_list}
use Rattle.std.specs.List.{filter_map}
use Rattle.std.proofs.lemmas.List.{take_more, drop_more, take-append-drop}
use Rattle.fm_round.specs.PlanOfFlow.{waits, tasks_of, machines_of, place_in_plan}
use Rattle.fm_round.specs.inner.UnitQueues.{queue_of, placed_next, HasNoRepeat}
use Rattle.fm_round.proofs.Pairing.{mapped_more, placed_as, left_behind}
use Rattle.fm_round.proofs.from_units.places_of.Goals as goal

pub loop-arc-preserved : goal.loop-arc-preserved
loop-arc-preserved c =
    let xs = c.args.flow.now in
    let i = c.loop-arc.arc-index in
    let a = c.arc-item.result in
    let k = c.args.knowledge.now in
    let ss = c.args.seats.now in
    let so_far = c.loop-arc.invariant in
    let more : take (i + 1) xs ≡ take i xs ++ a ∷ [] = take_more xs i a c.loop-arc-test.true ∙ ap (λ z. take i xs ++ z ∷ []) (sym c.arc-item.is) in
    let rest : drop i xs ≡ a ∷ drop (i + 1) xs = drop_more xs i a c.loop-arc-test.true ∙ ap (λ z. z ∷ drop (i + 1) xs) (sym c.arc-item.is) in
    let all : take i xs ++ a ∷ drop (i + 1) xs ≡ xs = ap (λ z. take i xs ++ z) (sym rest) ∙ take-append-drop i xs in
    let left = queue_of c.loop-arc.queues in
    let apart = subst (λ z. HasNoRepeat (waits z)) (sym all) c.requires in
    let place : c.placed-place.result ≡ place_in_plan (waits xs) ss k a = c.placed-place.ensures.place ∙ subst (λ z. placed_next left k a ≡ place_in_plan (waits z) ss k a) all (placed_as left ss k (take i xs) (drop (i + 1) xs) so_far.left a apart) in
    record {
      found = c.in_ok-push_some.ensures ∙ (λ j. so_far.found j ++ option_to_list (place j)) ∙ sym (mapped_more (place_in_plan (waits xs) ss k) (take i xs) a) ∙ ap (λ z. filter_map (place_in_plan (waits xs) ss k) z) (sym more);
      left = λ r. c.placed-place.ensures.rest r ∙ left_behind left ss k (take i xs) (drop (i + 1) xs) so_far.left a r ∙ ap (λ z. drop (length (tasks_of r (waits z))) (machines_of r ss)) (sym more);
    }
