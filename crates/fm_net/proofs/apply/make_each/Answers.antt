use Rattle.std.proofs.Common.{◌≡◌, ◌∙◌, ◌<◌, ◌+◌, length, drop, get_or, sym, ap, subst, rules}
use Rattle.fm_net.specs.Net.{Net}
use Rattle.fm_net.specs.Edits.{after_edit, MayEditAll}
use Rattle.fm_net.proofs.Made.{may_next, one_more}
use Rattle.fm_net.proofs.apply.make_each.Goals as goal

pub loop-edit-preserved : goal.loop-edit-preserved
loop-edit-preserved c =
    let es = c.args.edits.now in
    let k = c.loop-edit.edit-index in
    let e = c.edit-item.result in
    let lt : k < length es = search rules in
    let is : e ≡ get_or es k e = search rules in
    let now : c.make.new.network ≡ after_edit e c.loop-edit.network = c.in_ok-make.ensures.ok in
    let may = (may_next es k e lt is c.loop-edit.network c.loop-edit.invariant.may).1 in
    record {
      may = subst (λ (n : Net). MayEditAll n (drop (k + 1) es)) (sym now) may;
      made = now ∙ ap (after_edit e) c.loop-edit.invariant.made ∙ sym (one_more es k e lt is c.args.network.now);
    }
