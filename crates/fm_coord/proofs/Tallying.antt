-- What is kept of a tally, when a delta is taken in and when the tally is made.
use Rattle.std.proofs.Common.{◌≡◌, ◌∙◌, ℕ, true, List, Option, Some, None, refl, sym, ap, subst, map, ◌++◌}
use Rattle.std.specs.Prelude.{IfSome}
use Rattle.std.specs.Ordering.{nat_cmp}
use Rattle.std.specs.Cmp.{nat_cmp_total}
use Rattle.fm_lattice.specs.laws.ChainLaws.{nat_same}
use Rattle.fm_lattice.specs.Maps.{lookup}
use Rattle.fm_records.specs.Orders.{attempt_cmp}
use Rattle.fm_records.specs.Sets.{IsMember}
use Rattle.fm_records.proofs.TableLaws.{rises_rising}
use Rattle.fm_records.specs.Rising.{Rises}
use Rattle.fm_records.specs.Table.{Table}
use Rattle.fm_records.specs.Ranges.{CanBe}
use Rattle.fm_records.specs.Joined.{table_join}
use Rattle.fm_policy.specs.Changes.{Keys, changed_keys, changed_tasks, joined_keys}
use Rattle.fm_policy.proofs.ChangeLaws.{task_same, proposal_same}
use Rattle.fm_policy.specs.Keeping.{FollowsAfter}
use Rattle.fm_policy.proofs.KeepingLaws.{took_on}
use Rattle.fm_tally.specs.declared.unfinished.UnfinishedTask.{UnfinishedTask}
use Rattle.fm_tally.specs.Unfinished.{AreUnfinished, AreBehind}

-- the tasks were those of what was known before one delta, and the table is what is known with it
abbrev pub Follow : Table → Keys → List (ℕ × UnfinishedTask) → Type 0
Follow k pending tasks = FollowsAfter true (λ before. AreUnfinished before tasks) k pending

pub are_behind : (k : Table) (pending : Keys) (tasks : List (ℕ × UnfinishedTask)) → Follow k pending tasks → AreBehind k pending.tasks tasks
are_behind k pending tasks t =
    let named : pending.tasks ≡ changed_tasks t.delta = ap (λ (c : Keys). c.tasks) t.keys in
    let before = t.before_can_be.table in
    let delta = t.delta_can_be.table in
    record {
      before = t.before;
      are = t.for_before refl;
      rises = subst (Rises nat_cmp) (sym named) (rises_rising nat_cmp nat_cmp_total nat_same (map (λ e. e.0) t.delta.tasks ++ map (λ e. e.0.0) t.delta.proposals));
      same_tasks = λ q apart. ap (λ (x : Table). lookup nat_cmp q x.tasks) t.joined ∙ task_same t.delta t.before before delta q (λ m. apart (subst (IsMember q) (sym named) m));
      same_proposals = λ q a apart. ap (λ (x : Table). lookup attempt_cmp (q, a) x.proposals) t.joined ∙ proposal_same t.delta t.before before delta q (λ m. apart (subst (IsMember q) (sym named) m)) a;
    }

-- one more delta was told
pub follow_on : ((k l : Table) → CanBe k → CanBe l → changed_keys (table_join k l) ≡ joined_keys (changed_keys k) (changed_keys l))
    → (o : Option (List (ℕ × UnfinishedTask))) (old keys new : Keys) (now : Table) → new ≡ joined_keys old keys
    → FollowsAfter true (λ k. IfSome o (Follow k old)) now keys → IfSome o (Follow now new)
follow_on joins None old keys new now is t = tt
follow_on joins (Some tasks) old keys new now is t = took_on joins (λ before. AreUnfinished before tasks) old keys new now is t
