-- From nothing remembered to all that there is to remember of a table: the table is nothing known with itself joined in.
use Rattle.std.proofs.Common.{◌≡◌, ◌∙◌, ◌++◌, ℕ, Bool, true, false, [], map, refl, sym, ap, subst}
use Rattle.std.specs.Prelude.{◌&&◌, not}
use Rattle.std.specs.Ordering.{nat_cmp}
use Rattle.std.specs.Cmp.{nat_cmp_total}
use Rattle.fm_lattice.specs.laws.ChainLaws.{nat_same}
use Rattle.fm_records.proofs.TableLaws.{rises_rising}
use Rattle.fm_records.specs.Rising.{Rises}
use Rattle.fm_records.specs.Table.{Table}
use Rattle.fm_records.specs.Know.{table_of}
use Rattle.fm_records.specs.Ranges.{CanBe}
use Rattle.fm_records.proofs.RangeLaws.{know_can_be}
use Rattle.fm_records.specs.OpsOfTable.{ops}
use Rattle.fm_records.proofs.SpelledLaws.{know_ops}
use Rattle.fm_records.proofs.UnionLaws.{know_append}
use Rattle.fm_records.specs.Joined.{table_join}
use Rattle.fm_net.specs.declared.node.Node.{Node}
use Rattle.fm_net.specs.declared.node.Node.TheVariants.{Sink, Unscheduled, Request, Machine, Task}
use Rattle.fm_policy.specs.Changes.{Keys, changed_keys}
use Rattle.fm_edit.specs.declared.task_index.TaskIndex.{TaskIndex}
use Rattle.fm_edit.specs.Dirty.{has_id}
use Rattle.fm_edit.specs.TaskIndex.{lists, is_indexed}
use Rattle.fm_edit.specs.CacheModel.{sight_of}
use Rattle.fm_edit.specs.EditorState.{none_out, Counts}
use Rattle.fm_edit.proofs.Followed.{all_found, counts_on}

pub nothing_can_be : CanBe (table_of [])
nothing_can_be = know_can_be [] refl

-- what is known, joined to nothing, is what is known
pub nothing_joined : (d : Table) → CanBe d → d ≡ table_join (table_of []) d
nothing_joined d can = know_ops d can.table ∙ know_append [] (ops d) ∙ ap (table_join (table_of [])) (sym (know_ops d can.table))

pub tasks_rise : (d : Table) (keys : Keys) → keys ≡ changed_keys d → Rises nat_cmp keys.tasks
tasks_rise d keys is = subst (λ (z : Keys). Rises nat_cmp z.tasks) (sym is) (rises_rising nat_cmp nat_cmp_total nat_same (map (λ e. e.0) d.tasks ++ map (λ e. e.0.0) d.proposals))

-- of nothing known no task is listed, whichever are out
module _ (x : TaskIndex) (counts : Counts none_out (table_of []) x) where
  any_out : (out : ℕ → Bool) → Counts out (table_of []) x
  any_out out = record { listed = listed; preferred = λ m t. counts.preferred m t; sums = λ n. counts.sums n } where
    listed : (n : Node) (t : ℕ) → lists x n t ≡ (is_indexed (sight_of (table_of [])) n t && not (out t))
    listed Sink t = counts.listed Sink t
    listed (Unscheduled j) t = counts.listed (Unscheduled j) t
    listed (Request q) t = counts.listed (Request q) t
    listed (Machine m) t = counts.listed (Machine m) t
    listed (Task u) t = counts.listed (Task u) t

  unlisted : {P : Type 0} (n : Node) (t : ℕ) → lists x n t ≡ false → lists x n t ≡ true → P
  unlisted n t out here = absurd (let wrong : false ≡ true = sym out ∙ here in let none : ⊥ = cc in none)

  pub filled : (d : Table) (keys : Keys) (can : CanBe d) (is : keys ≡ changed_keys d) → Counts (has_id keys.tasks) d x
  filled d keys can is =
      let joined = nothing_joined d can in
      counts_on (table_of []) d d keys nothing_can_be can joined is keys.tasks
      (all_found (table_of []) d d keys nothing_can_be can joined is x counts keys.tasks
      (λ t h. h)
      (λ j t _ _ l. unlisted (Unscheduled j) t (counts.listed (Unscheduled j) t) l)
      (λ m t _ _ l. unlisted (Machine m) t (counts.listed (Machine m) t) l))
      x (any_out (has_id keys.tasks))
