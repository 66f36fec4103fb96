use Rattle.std.proofs.Common.{◌≡◌, ◌<◌, ◌∙◌, true, false, length, drop, ◌+◌, sym, ap, arith}
use Rattle.fm_script.specs.Script.{is_listed, are_distinct}
use Rattle.fm_script.proofs.Spelling.{are_distinct-push, all_after, all_after-more, listed_again}
use Rattle.fm_script.proofs.parse_script.coordinators_in.Goals as goal

pub returns-then-contains : goal.returns-then-contains
returns-then-contains c =
    let h : c.loop-item.item-index < length c.args.items.now = omega arith in
    let again : is_listed c.loop-item.listed.items c.in-Some.number ≡ true = sym (c.if-contains.ensures.value ∙ ap (λ ns. is_listed ns c.in-Some.number) c.deref.ensures.value) in
    listed_again _ _ _ _ _ c.loop-item.invariant.listed h c.item-item.is (sym c.in-Some.ensures) again

pub loop-item-preserved : goal.loop-item-preserved
loop-item-preserved c =
    let h : c.loop-item.item-index < length c.args.items.now = omega arith in
    let new : is_listed c.loop-item.listed.items c.in-Some.number ≡ false = sym (c.if-contains.ensures.value ∙ ap (λ ns. is_listed ns c.in-Some.number) c.deref.ensures.value) in
    let pushed = c.in_ok-push.ensures.items in
    record {
      listed = c.loop-item.invariant.listed ∙ all_after-more _ _ _ _ _ h c.item-item.is (sym c.in-Some.ensures) ∙ ap (λ ns. all_after ns (drop (c.loop-item.item-index + 1) c.args.items.now)) (sym pushed);
      distinct = ap are_distinct pushed ∙ are_distinct-push c.loop-item.listed.items c.in-Some.number c.loop-item.invariant.distinct new;
    }
