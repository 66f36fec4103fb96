use Rattle.std.proofs.Common.{◌≡◌, ◌++◌, ◌∷◌, ◌+◌, [], take, arith}
use Rattle.std.proofs.lemmas.List.{take_more}
use Rattle.fm_store.proofs.HeadLaws.{one_number_more}
use Rattle.fm_store.proofs.head.put_numbers.Goals as goal

pub loop-number-preserved : goal.loop-number-preserved
loop-number-preserved c =
    let i = c.loop-number.number-index in
    let n = c.number-item.result in
    let more : take (i + 1) c.args.numbers.now ≡ take i c.args.numbers.now ++ n ∷ [] = grind (arith, take_more) in
    one_number_more c.args.out.now.items c.loop-number.out.items c.push.new.self.items (take i c.args.numbers.now) (take (i + 1) c.args.numbers.now) n c.value.result
    c.in_ok-push.ensures.items c.loop-number.invariant more c.value.ensures.number
