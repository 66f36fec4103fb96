use Rattle.std.proofs.Common.{◌≡◌, ◌+◌, ◌++◌, ◌∷◌, [], sym, ◌∙◌, ap, subst, append_assoc, append-nil, length, Some, ◌<◌, ◌^◌, option_map, drop, rules}
use Rattle.std.specs.List.{cons_option}
use Rattle.std.specs.Ordering.{nat_cmp}
use Rattle.std.specs.Cmp.{nat_cmp_total}
use Rattle.std.proofs.lemmas.List.{drop_more, drop_all}
use Rattle.fm_lattice.specs.laws.ChainLaws.{nat_same}
use Rattle.fm_lattice.specs.Maps.{lookup, IsRising}
use Rattle.fm_lattice.specs.laws.MapLaws.{same_map}
use Rattle.fm_records.specs.Options.{and_then}
use Rattle.fm_records.specs.Facts.{live_spec}
use Rattle.fm_net.proofs.NetworkLaws.{came_from, mapped_from}
use Rattle.fm_tally.specs.declared.tally.LiveTask.{LiveTask}
use Rattle.fm_tally.specs.declared.unfinished.UnfinishedTask.{UnfinishedTask}
use Rattle.fm_tally.specs.inner.Holdings.{placed_by, requests_in, tasks_in}
use Rattle.fm_tally.specs.Tallies.{task_at, unfinished_spec}
use Rattle.fm_tally.specs.inner.TallyParts.{task_by}
use Rattle.fm_tally.specs.Unfinished.{unfinished_at}
use Rattle.fm_tally.proofs.Counting.{IsCounting, counting_begins, counting_next, counting_ends, live_unfinished}
use Rattle.fm_tally.proofs.Live.{there_is, no_requests, no_tasks, task_is, requests_are, tasks_are}
use Rattle.fm_tally.proofs.Rows.{rows, rising_rows, lookup_rows, met_at}
use Rattle.fm_tally.proofs.tally.tasks_of.Goals as goal
use Rattle.fm_tally.proofs.tally.tasks_of.Goals.{in-Some+in_ok-push, in_default}

pub loop-task-init : goal.loop-task-init
loop-task-init c =
    let k = c.args.knowledge.now in
    let hs = c.args.holdings.now in
    let all = c.pairs-pairs.result.now in
    let table = c.known.ensures.table in
    let same : all ≡ rows (unfinished_at k) k.tasks =
    same_map nat_cmp nat_cmp_total nat_same all (rows (unfinished_at k) k.tasks) c.pairs-pairs.ensures.rising (rising_rows (unfinished_at k) k.tasks table.tasks.rising)
    (λ q. ap (lookup nat_cmp q) c.pairs-pairs.ensures.pairs ∙ c.requires.unfinished q ∙ sym (lookup_rows (unfinished_at k) k.tasks q (λ (w : UnfinishedTask) e.
    let s = mapped_from _ (and_then unfinished_spec (lookup nat_cmp q k.tasks)) w e in
    let v = came_from unfinished_spec (lookup nat_cmp q k.tasks) s.0 s.1 in
    (v.0, v.1)))) in
    record {
      found = ap (λ xs. xs ++ rows (task_at k) all) (let none : c.in_ok-found.found.items ≡ [] = search rules in none);
      counting = counting_begins k all hs table.tasks.rising same (no_requests k hs c.requires.nothing) (no_tasks k hs c.requires.nothing);
      there = there_is k hs c.requires.nothing;
    }

pub loop-task-preserved : goal.loop-task-preserved
loop-task-preserved c =
    let k = c.args.knowledge.now in
    let all = c.pairs-pairs.result.now in
    let i = c.loop-task.task-index in
    let item = c.loop-task-item.result in
    let t = item.0 in
    let u = item.1 in
    let rest = drop (i + 1) all in
    let later = rows (task_at k) rest in
    let found = c.loop-task.found.items in
    let old = c.loop-task.holdings in
    let new = c.live_task.new.holdings in
    let told = c.live_task.ensures in
    let left : drop i all ≡ item ∷ rest = drop_more all i item c.loop-task-test.true ∙ ap (λ z. z ∷ rest) (sym c.loop-task-item.is) in
    let met = met_at all i item c.pairs-pairs.ensures.rising c.loop-task-test.true c.loop-task-item.is in
    let known : unfinished_at k t ≡ Some u = sym (c.requires.unfinished t) ∙ ap (lookup nat_cmp t) (sym c.pairs-pairs.ensures.pairs) ∙ met in
    let holder = and_then (placed_by old) u.spot in
    let made = told.live ∙ ap (λ js. task_by js holder u) c.in_ok-jobs.ensures in
    let live : c.live_task.result ≡ task_at k t = made ∙ task_is k old t u c.loop-task.invariant.there known in
    let requests = requests_are k t u k.jobs holder c.live_task.result made live in
    let tasks = tasks_are k t u k.jobs holder c.live_task.result made live in
    let counting = subst (λ xs. IsCounting k (length all) xs old) left c.loop-task.invariant.counting in
    let walked = c.loop-task.invariant.found in
    record {
      found = elim c.match-live_task.branch [
        | in-Some+in_ok-push w ↦
            let pushed : c.match-live_task.found.items ≡ found ++ (t, w.in-Some.live) ∷ [] = search rules in
            ap (λ xs. xs ++ later) pushed
            ∙ append_assoc found ((t, w.in-Some.live) ∷ []) later
            ∙ ap (λ o. found ++ cons_option (option_map (λ (l : LiveTask). (t, l)) o) later) (sym w.in-Some.is ∙ live)
            ∙ ap (λ es. found ++ rows (task_at k) es) (sym left)
            ∙ walked
        | in_default w ↦
            let same : c.match-live_task.found.items ≡ found = search rules in
            ap (λ xs. xs ++ later) same
            ∙ ap (λ o. found ++ cons_option (option_map (λ (l : LiveTask). (t, l)) o) later) (sym w.in_default.is ∙ live)
            ∙ ap (λ es. found ++ rows (task_at k) es) (sym left)
            ∙ walked
      ];
      counting = counting_next k (length all) t u rest old new
          (λ m. subst (λ x. x < 2 ^ 32) (requests m) (told.small m))
          (λ m. told.requests m ∙ ap (λ x. requests_in old m + x) (requests m))
          (λ m. told.tasks m ∙ ap (λ x. tasks_in old m + x) (tasks m))
          counting;
      there = λ s. told.there s ∙ c.loop-task.invariant.there s;
    }

pub of-requires-2 : goal.of-requires-2
of-requires-2 c =
    let k = c.args.knowledge.now in
    let all = c.pairs-pairs.result.now in
    let done : drop c.loop-task.task-index all ≡ [] = drop_all c.loop-task.task-index all c.loop-task-test.false in
    let found : c.loop-task.found.items ≡ rows (task_at k) all =
    sym (append-nil c.loop-task.found.items) ∙ ap (λ xs. c.loop-task.found.items ++ rows (task_at k) xs) (sym done) ∙ c.loop-task.invariant.found in
    subst (IsRising nat_cmp) (sym found) (rising_rows (task_at k) all c.pairs-pairs.ensures.rising)

pub returns-clause-tasks : goal.returns-clause-tasks
returns-clause-tasks c t =
    let k = c.args.knowledge.now in
    let all = c.pairs-pairs.result.now in
    let done : drop c.loop-task.task-index all ≡ [] = drop_all c.loop-task.task-index all c.loop-task-test.false in
    let found : c.of-2.result ≡ rows (task_at k) all =
    c.of-2.ensures ∙ sym (append-nil c.loop-task.found.items) ∙ ap (λ xs. c.loop-task.found.items ++ rows (task_at k) xs) (sym done) ∙ c.loop-task.invariant.found in
    ap (lookup nat_cmp t) found ∙ lookup_rows (task_at k) all t (λ (l : LiveTask) e.
    let s = came_from _ (live_spec k t) l e in
    let u = live_unfinished k t s.0 s.1 in
    (u.0, ap (lookup nat_cmp t) c.pairs-pairs.ensures.pairs ∙ c.requires.unfinished t ∙ u.1))

pub returns-clause-holdings : goal.returns-clause-holdings
returns-clause-holdings c =
    let k = c.args.knowledge.now in
    let all = c.pairs-pairs.result.now in
    let done = drop_all c.loop-task.task-index all c.loop-task-test.false in
    counting_ends k (length all) c.loop-task.holdings (subst (λ xs. IsCounting k (length all) xs c.loop-task.holdings) done c.loop-task.invariant.counting)
