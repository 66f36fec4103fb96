use Rattle.std.proofs.Common.{◌∙◌, ◌+◌, ◌≤◌, Bool, true, false, cond, take, sym, ap, arith, rules}
use Rattle.std.proofs.lemmas.List.{take_all}
use Rattle.std.proofs.lemmas.List.Sums.{sum_by_more}
use Rattle.std.specs.Prelude.{count_by}
use Rattle.std.specs.Ordering.{nat_cmp}
use Rattle.fm_lattice.specs.Maps.{lookup}
use Rattle.fm_tally.proofs.JobCounting.{of_job, tasks_are_rows, live_counted}
use Rattle.fm_tally.proofs.job_counts.job_counts.Goals as goal

at_most_one : (b : Bool) → cond b 1 0 ≤ 1
at_most_one true = omega arith
at_most_one false = omega arith

pub loop-entry-preserved : goal.loop-entry-preserved
loop-entry-preserved c =
    let all = c.pairs-pairs.result.now in
    let i = c.loop-entry.entry-index in
    let item = c.entry-item.result in
    let added = c.in_ok-count.ensures in
    record {
      counts = λ j.
          added j
          ∙ ap (λ n. n + cond (of_job j item) 1 0) (c.loop-entry.invariant.counts j)
          ∙ sym (sum_by_more (λ e. cond (of_job j e) 1 0) all i item c.loop-entry-test.true ∙ ap (λ e. count_by (of_job j) (take i all) + cond (of_job j e) 1 0) (sym c.entry-item.is));
      few = λ j. let before = c.loop-entry.invariant.few j in let plus = added j in let one = at_most_one (of_job j item) in omega (arith, before, plus, one);
    }

pub returns : goal.returns
returns c j =
    let k = c.args.knowledge.now in
    let all = c.pairs-pairs.result.now in
    let are = tasks_are_rows k all c.law_can_be.ensures.table.tasks.rising c.pairs-pairs.ensures.rising (λ t. ap (lookup nat_cmp t) c.pairs-pairs.ensures.pairs ∙ c.requires.tasks t) in
    c.loop-entry.invariant.counts j ∙ ap (count_by (of_job j)) (take_all c.loop-entry.entry-index all (search rules)) ∙ live_counted k all are j
