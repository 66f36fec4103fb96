-- A task that the keys of a delta do not name is told nothing by that delta.
use Rattle.std.specs.Prelude.{◌≡◌, ℕ, List, Option, Some, None, map, refl}
use Rattle.std.specs.Ordering.{nat_cmp}
use Rattle.std.specs.Cmp.{nat_cmp_total}
use Rattle.std.proofs.Common.{◌∙◌}
use Rattle.fm_lattice.specs.laws.ChainLaws.{nat_same}
use Rattle.fm_lattice.specs.Joins.{option_join}
use Rattle.fm_lattice.specs.Maps.{lookup}
use Rattle.fm_lattice.specs.laws.MapLaws.{lookup_join}
use Rattle.fm_records.specs.declared.records.Spot.{Spot}
use Rattle.fm_records.specs.Orders.{attempt_cmp}
use Rattle.fm_records.specs.laws.OrderLaws.{total_attempt, same_attempt}
use Rattle.fm_records.specs.Sets.{IsMember}
use Rattle.fm_records.proofs.TableLaws.{member_rising}
use Rattle.fm_records.specs.Table.{Table, TaskValue}
use Rattle.fm_records.specs.OpsOfTable.{IsTable}
use Rattle.fm_records.specs.Joined.{table_join}
use Rattle.fm_net.proofs.ListLaws.{entry_member, member_before, member_behind, member_mapped}
use Rattle.fm_policy.specs.Changes.{changed_tasks}

pub join_nothing : {V : Type 0} (join : V → V → V) (o p : Option V) → p ≡ None → option_join join o p ≡ o
join_nothing join None p e = e
join_nothing join (Some v) p e = rw e refl

none_of : {V : Type 0} (o : Option V) → ((v : V) → o ≡ Some v → ⊥) → o ≡ None
none_of None never = refl
none_of (Some v) never = absurd (never v refl)

module _ (d : Table) where
  task_named : (t : ℕ) (v : TaskValue) → lookup nat_cmp t d.tasks ≡ Some v → IsMember t (changed_tasks d)
  task_named t v e =
      member_rising nat_cmp nat_cmp_total nat_same t _
      (member_before t (map (λ x. x.0) d.tasks) (map (λ x. x.0.0) d.proposals)
      (member_mapped (λ (x : ℕ × TaskValue). x.0) (t, v) d.tasks (entry_member nat_cmp nat_same t v d.tasks e)))

  proposal_named : (t a : ℕ) (v : List (ℕ × Spot)) → lookup attempt_cmp (t, a) d.proposals ≡ Some v → IsMember t (changed_tasks d)
  proposal_named t a v e =
      member_rising nat_cmp nat_cmp_total nat_same t _
      (member_behind t (map (λ x. x.0) d.tasks) (map (λ x. x.0.0) d.proposals)
      (member_mapped (λ (x : (ℕ × ℕ) × List (ℕ × Spot)). x.0.0) ((t, a), v) d.proposals (entry_member attempt_cmp same_attempt (t, a) v d.proposals e)))

  module _ (k : Table) (p : IsTable k) (q : IsTable d) (t : ℕ) (unnamed : IsMember t (changed_tasks d) → ⊥) where
    pub task_same : lookup nat_cmp t (table_join k d).tasks ≡ lookup nat_cmp t k.tasks
    task_same =
        lookup_join nat_cmp nat_cmp_total nat_same _ t k.tasks d.tasks p.tasks.rising q.tasks.rising
        ∙ join_nothing _ _ _ (none_of _ (λ v e. unnamed (task_named t v e)))

    pub proposal_same : (a : ℕ) → lookup attempt_cmp (t, a) (table_join k d).proposals ≡ lookup attempt_cmp (t, a) k.proposals
    proposal_same a =
        lookup_join attempt_cmp total_attempt same_attempt _ (t, a) k.proposals d.proposals p.proposals.rising q.proposals.rising
        ∙ join_nothing _ _ _ (none_of _ (λ v e. unnamed (proposal_named t a v e)))
