use Rattle.std.proofs.Common.{◌≡◌, ◌∙◌, ◌+◌, ◌++◌, ◌∷◌, [], sym, ap, subst, append-nil, option_map, drop, filter, rules}
use Rattle.std.specs.List.{cons_option}
use Rattle.std.specs.Ordering.{nat_cmp}
use Rattle.std.proofs.lemmas.List.{drop_more, drop_all}
use Rattle.fm_lattice.specs.Maps.{IsRising}
use Rattle.fm_tally.specs.declared.unfinished.UnfinishedTask.{UnfinishedTask}
use Rattle.fm_tally.specs.inner.Sides.{is_under}
use Rattle.fm_tally.specs.Unfinished.{unfinished_at, AreUnfinished}
use Rattle.fm_tally.proofs.Sides.{rising_rest}
use Rattle.fm_tally.proofs.Following.{IsFollowing, following_begins, following_on, following_ends}
use Rattle.fm_tally.proofs.unfinished.unfinished_after.Goals as goal
use Rattle.fm_tally.proofs.unfinished.unfinished_after.Goals.{in-Some+in_ok-push, in_default}

pub loop-task-init : goal.loop-task-init
loop-task-init c =
    let k = c.args.knowledge.now in
    let keys = c.args.changed.now in
    let tasks = c.args.earlier.now in
    let start = following_begins k keys tasks (subst (IsRising nat_cmp) c.pairs-rest.ensures.pairs c.pairs-rest.ensures.rising) c.requires in
    let none : c.in_ok-found.found.items ≡ [] = search rules in
    record { following = subst (λ xs. IsFollowing k keys xs c.pairs-rest.result.now) (sym none) (subst (IsFollowing k keys []) (sym c.pairs-rest.ensures.pairs) start) }

pub move_under-requires : goal.move_under-requires
move_under-requires c = rising_rest c.loop-task.found.items c.loop-task.rest.now c.loop-task.invariant.following.rising

pub loop-task-preserved : goal.loop-task-preserved
loop-task-preserved c =
    let k = c.args.knowledge.now in
    let keys = c.args.changed.now in
    let i = c.loop-task.task-index in
    let x = c.task-item.result in
    let later = drop (i + 1) keys in
    let found = c.loop-task.found.items in
    let old = c.loop-task.rest.now in
    let moved = found ++ filter (is_under x) old in
    let all : drop i keys ≡ x ∷ later = drop_more keys i x c.loop-task-test.true ∙ ap (λ z. z ∷ later) (sym c.task-item.is) in
    let following = subst (λ ks. IsFollowing k ks found old) all c.loop-task.invariant.following in
    let under : c.move_under.new.found.items ≡ moved = search rules in
    let over = c.in_ok-rest.ensures.over in
    let found3 = c.match-unfinished_task.found.items in
    let told : found3 ≡ moved ++ cons_option (option_map (λ (v : UnfinishedTask). (x, v)) (unfinished_at k x)) [] =
    elim c.match-unfinished_task.branch [
      | in-Some+in_ok-push w ↦
          let pushed : found3 ≡ moved ++ (x, w.in-Some.unfinished) ∷ [] = search rules in
          pushed ∙ ap (λ o. moved ++ cons_option (option_map (λ (v : UnfinishedTask). (x, v)) o) []) (sym w.in-Some.is ∙ c.unfinished_task.ensures)
      | in_default w ↦
          let same : found3 ≡ moved = search rules in
          same ∙ sym (append-nil moved) ∙ ap (λ o. moved ++ cons_option (option_map (λ (v : UnfinishedTask). (x, v)) o) []) (sym w.in_default.is ∙ c.unfinished_task.ensures)
    ] in
    record { following = following_on k x later found old following found3 c.in_ok-rest.rest.now told over }

pub of-requires : goal.of-requires
of-requires c =
    let all : c.extend_from_slice.new.self.items ≡ c.loop-task.found.items ++ c.loop-task.rest.now = search rules in
    subst (IsRising nat_cmp) (sym all) c.loop-task.invariant.following.rising

pub returns : goal.returns
returns c =
    let k = c.args.knowledge.now in
    let all : c.of.result ≡ c.loop-task.found.items ++ c.loop-task.rest.now = search rules in
    let done = subst (λ ks. IsFollowing k ks c.loop-task.found.items c.loop-task.rest.now) (drop_all c.loop-task.task-index c.args.changed.now c.loop-task-test.false) c.loop-task.invariant.following in
    subst (AreUnfinished k) (sym all) (following_ends k c.loop-task.found.items c.loop-task.rest.now done)
