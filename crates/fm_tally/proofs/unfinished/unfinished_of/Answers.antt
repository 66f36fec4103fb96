use Rattle.std.proofs.Common.{◌≡◌, ◌++◌, ◌∷◌, [], sym, ◌∙◌, ap, subst, append_assoc, option_map, rules}
use Rattle.std.specs.List.{cons_option}
use Rattle.std.specs.Ordering.{nat_cmp}
use Rattle.fm_lattice.specs.Maps.{lookup, IsRising}
use Rattle.fm_records.specs.Options.{and_then}
use Rattle.fm_net.proofs.NetworkLaws.{came_from, mapped_from}
use Rattle.fm_tally.specs.declared.unfinished.UnfinishedTask.{UnfinishedTask}
use Rattle.fm_tally.specs.Tallies.{unfinished_spec}
use Rattle.fm_tally.specs.Unfinished.{unfinished_at}
use Rattle.fm_tally.proofs.Rows.{rows, rising_rows, lookup_rows}
use Rattle.fm_tally.proofs.Step.{found_is}
use Rattle.fm_tally.proofs.Walk.{IsWalk, walk_on, walk_begins}
use Rattle.fm_tally.proofs.unfinished.unfinished_of.Goals as goal

pub loop-task-init : goal.loop-task-init
loop-task-init c =
    let k = c.args.knowledge.now in
    let whole : c.into_iter-task-iterator.result ≡ k.tasks = search rules in
    let proposals : c.of-winners.result ≡ k.proposals = c.of-winners.ensures in
    let rising = subst (IsRising nat_cmp) c.tasks.ensures c.iter-task-items.ensures.map.rising in
    record {
      found = ap (λ xs. xs ++ rows (unfinished_at k) c.into_iter-task-iterator.result) c.new-found.ensures.items ∙ ap (λ xs. rows (unfinished_at k) xs) whole;
      walk = subst (λ xs. IsWalk k xs c.of-winners.result) (sym whole) (subst (IsWalk k k.tasks) (sym proposals) (walk_begins k rising));
    }

pub loop-task-preserved-in-Continue-1 : goal.loop-task-preserved-in-Continue-1
loop-task-preserved-in-Continue-1 c =
    let k = c.args.knowledge.now in
    let t = c.in-Some.task.now in
    let v = c.in-Some.known.now in
    let rest = c.next.new.self in
    let found = c.loop-task.found.items in
    let later = rows (unfinished_at k) rest in
    let ahead = c.loop-task.winners in
    let walk = subst (λ xs. IsWalk k xs ahead) c.in-Some.ensures.steps c.loop-task.invariant.walk in
    record {
      found =
          ap (λ xs. xs ++ later) c.in_ok-push.ensures.items
          ∙ append_assoc found ((t, c.in-Some-met_task.unfinished) ∷ []) later
          ∙ ap (λ o. found ++ cons_option (option_map (λ (w : UnfinishedTask). (t, w)) o) later) (sym c.in-Some-met_task.is ∙ found_is k t v rest ahead walk c.met_task.result c.met_task.ensures.task)
          ∙ ap (λ es. found ++ rows (unfinished_at k) es) (sym c.in-Some.ensures.steps)
          ∙ c.loop-task.invariant.found;
      walk = walk_on k t v rest ahead walk v.1.attempt c.met_task.new.winners c.met_task.ensures.ahead;
    }

pub loop-task-preserved : goal.loop-task-preserved
loop-task-preserved c =
    let k = c.args.knowledge.now in
    let t = c.in-Some.task.now in
    let v = c.in-Some.known.now in
    let rest = c.next.new.self in
    let found = c.loop-task.found.items in
    let later = rows (unfinished_at k) rest in
    let ahead = c.loop-task.winners in
    let walk = subst (λ xs. IsWalk k xs ahead) c.in-Some.ensures.steps c.loop-task.invariant.walk in
    record {
      found =
          ap (λ o. found ++ cons_option (option_map (λ (w : UnfinishedTask). (t, w)) o) later) (sym c.in_default.is ∙ found_is k t v rest ahead walk c.met_task.result c.met_task.ensures.task)
          ∙ ap (λ es. found ++ rows (unfinished_at k) es) (sym c.in-Some.ensures.steps)
          ∙ c.loop-task.invariant.found;
      walk = walk_on k t v rest ahead walk v.1.attempt c.met_task.new.winners c.met_task.ensures.ahead;
    }

pub of-requires : goal.of-requires
of-requires c =
    let k = c.args.knowledge.now in
    let all : c.loop-task.found.items ≡ rows (unfinished_at k) k.tasks = search (rules, c.loop-task.invariant.found) in
    subst (IsRising nat_cmp) (sym all) (rising_rows (unfinished_at k) k.tasks (subst (IsRising nat_cmp) c.tasks.ensures c.iter-task-items.ensures.map.rising))

pub returns : goal.returns
returns c =
    let k = c.args.knowledge.now in
    let all : c.of.result ≡ rows (unfinished_at k) k.tasks = search (rules, c.loop-task.invariant.found) in
    λ q. ap (lookup nat_cmp q) all ∙ lookup_rows (unfinished_at k) k.tasks q (λ (w : UnfinishedTask) e.
    let s = mapped_from _ (and_then unfinished_spec (lookup nat_cmp q k.tasks)) w e in
    let v = came_from unfinished_spec (lookup nat_cmp q k.tasks) s.0 s.1 in
    (v.0, v.1))
