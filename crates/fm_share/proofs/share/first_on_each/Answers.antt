use Rattle.std.proofs.Common.{◌≡◌, ◌+◌, [], ◌∷◌, ◌++◌, true, false, cond, sym, ◌∙◌, ap, take, drop, append-nil, rules}
use Rattle.std.specs.Prelude.{◌==◌, ◌&&◌, nat_lt, min}
use Rattle.std.proofs.lemmas.List.{take_more, drop_more}
use Rattle.fm_share.specs.Shares.{count_on, first_on_each}
use Rattle.fm_share.proofs.Firsts.{counted_more, below_limit, taken_more, walked_on}
use Rattle.fm_share.proofs.share.first_on_each.Goals as goal
use Rattle.fm_share.proofs.share.first_on_each.Goals.{then-branch+in_ok-push, else-branch}

pub loop-place-preserved : goal.loop-place-preserved
loop-place-preserved c =
    let xs = c.args.places.now in
    let each = c.args.each in
    let i = c.loop-place.place-index in
    let p = c.place-item.result in
    let before = take i xs in
    let later = first_on_each each (before ++ p ∷ []) (drop (i + 1) xs) in
    let kept = c.loop-place.kept.items in
    let now = c.if-branch.kept.items in
    let took = c.in_ok-take.field-0 in
    let was = c.loop-place.invariant in
    let more : take (i + 1) xs ≡ before ++ p ∷ [] = take_more xs i p c.loop-place-test.true ∙ ap (λ z. before ++ z ∷ []) (sym c.place-item.is) in
    let rest : drop i xs ≡ p ∷ drop (i + 1) xs = drop_more xs i p c.loop-place-test.true ∙ ap (λ z. z ∷ drop (i + 1) xs) (sym c.place-item.is) in
    let taken : took ≡ nat_lt (count_on p.machine before) each = c.in_ok-take.ensures.taken ∙ ap (λ n. nat_lt n each) (was.counted p.machine) ∙ below_limit each (count_on p.machine before) in
    let grown : now ≡ kept ++ cond took (p ∷ []) [] =
    elim c.if-branch.branch [
      | then-branch+in_ok-push w ↦
          let pushed : now ≡ kept ++ p ∷ [] = search rules in
          let yes : took ≡ true = search rules in
          pushed ∙ ap (λ b. kept ++ cond b (p ∷ []) []) (sym yes)
      | else-branch w ↦
          let same : now ≡ kept = search rules in
          let no : took ≡ false = search rules in
          same ∙ sym (append-nil kept) ∙ ap (λ b. kept ++ cond b (p ∷ []) []) (sym no)
    ] in
    record {
      kept =
          ap (λ z. now ++ first_on_each each z (drop (i + 1) xs)) more
          ∙ walked_on kept now later p took grown
          ∙ ap (λ b. kept ++ cond b (p ∷ later) later) taken
          ∙ ap (λ z. kept ++ first_on_each each before z) (sym rest)
          ∙ was.kept;
      counted = λ m.
          c.in_ok-take.ensures.counts m
          ∙ ap (λ n. n + cond (p.machine == m && nat_lt n each) 1 0) (was.counted m)
          ∙ taken_more each (count_on m before) (p.machine == m)
          ∙ sym (ap (min each) (counted_more m before p))
          ∙ ap (λ z. min each (count_on m z)) (sym more);
    }
