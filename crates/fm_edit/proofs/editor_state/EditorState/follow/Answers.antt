use Rattle.std.proofs.Common.{◌≡◌, ◌∙◌, ◌⊎◌, ◌++◌, ◌+◌, ◌-◌, ◌<◌, ◌^◌, ℕ, List, true, map, sym, ap, subst, refl, length, inl, inr}
use Rattle.std.specs.Prelude.{min}
use Rattle.std.specs.List.{list_any}
use Rattle.std.specs.Ordering.{nat_cmp, is_eq}
use Rattle.fm_records.specs.Table.{Table}
use Rattle.fm_net.specs.declared.node.Node.{Node}
use Rattle.fm_net.specs.Nodes.{node_cmp}
use Rattle.fm_lattice.specs.Maps.{lookup}
use Rattle.fm_records.specs.Facts.{job_of, won_spot, attempt_of}
use Rattle.fm_net.specs.declared.node.Node.TheVariants.{Unscheduled, Machine}
use Rattle.fm_edit.specs.declared.look.Key.TheVariants as key
use Rattle.fm_edit.specs.Dirty.{has_id, AreDirtyTasks}
use Rattle.fm_edit.specs.CacheModel.{seen_in}
use Rattle.fm_edit.specs.inner.CachedValues.{values_at}
use Rattle.fm_edit.specs.EditorState.{Counts, Remembers}
use Rattle.fm_edit.specs.inner.Affected.{has_touched, TouchesTask, IsNodeOf, IsEndOf}
use Rattle.fm_edit.proofs.Followed.{seen_as, five, after_can_be, base, turned, turned_is, spots_as, all_found, only_dirty, dirty_as_seen, counts_on, all_touched}
use Rattle.fm_edit.proofs.Turning.{only_turning}
use Rattle.fm_edit.proofs.editor_state.EditorState.follow.Goals as goal

pub see-requires-clause-jobs : goal.see-requires-clause-jobs
see-requires-clause-jobs g c = λ q h.
    let r = c.requires in
    let now = g.L.Look.table c.args.look.now in
    let sees = (r.for_before refl).remembers.sees in
    (λ i. (sees i).job q) ∙ sym ((base r.before r.delta now c.args.changed.now r.before_can_be r.delta_can_be r.joined r.keys).jobs q h) ∙ ap (λ k. job_of k q) (sym c.in_ok-machines.ensures.same)

pub see-requires-clause-tasks : goal.see-requires-clause-tasks
see-requires-clause-tasks g c = λ q h.
    let r = c.requires in
    let now = g.L.Look.table c.args.look.now in
    let sees = (r.for_before refl).remembers.sees in
    (λ i. (sees i).task q) ∙ sym ((base r.before r.delta now c.args.changed.now r.before_can_be r.delta_can_be r.joined r.keys).tasks q h) ∙ ap (λ k. lookup nat_cmp q k.tasks) (sym c.in_ok-machines.ensures.same)

pub see-requires-clause-spots : goal.see-requires-clause-spots
see-requires-clause-spots g c = λ q h.
    let r = c.requires in
    let now = g.L.Look.table c.args.look.now in
    let sees = (r.for_before refl).remembers.sees in
    (λ i. (sees i).spot q) ∙ sym (spots_as r.before r.delta now c.args.changed.now r.before_can_be r.delta_can_be r.joined r.keys q h) ∙ ap (λ k. won_spot k q) (sym c.in_ok-machines.ensures.same)

pub see-requires-clause-machines : goal.see-requires-clause-machines
see-requires-clause-machines g c = λ q h.
    let r = c.requires in
    let now = g.L.Look.table c.args.look.now in
    let sees = (r.for_before refl).remembers.sees in
    (λ i. (sees i).machine q) ∙ sym ((base r.before r.delta now c.args.changed.now r.before_can_be r.delta_can_be r.joined r.keys).machines q h) ∙ ap (λ k. lookup nat_cmp q k.machines) (sym c.in_ok-machines.ensures.same)

pub returns : goal.returns
returns g c =
    let r = c.requires in
    let k = r.before in
    let d = r.delta in
    let now = g.L.Look.table c.args.look.now in
    let keys = c.args.changed.now in
    let held = r.for_before refl in
    let sees0 = held.remembers.sees in
    let same = c.in_ok-machines.ensures.same in
    let can = after_can_be k d now keys r.before_can_be r.delta_can_be r.joined r.keys in
    let seen = c.see.new.seen in
    let sees = seen_as seen (g.L.Look.table c.machines_now.new.look) now same c.in_ok-see.ensures.jobs c.in_ok-see.ensures.tasks c.in_ok-see.ensures.machines c.in_ok-see.ensures.spots in
    let fits : length now.tasks < 2 ^ 63 = c.known.ensures now can.table.tasks.rising sees in
    let ds = c.in_ok-dirty.dirty.items in
    let ts : c.as_slice-2.result.now ≡ turned k d now keys r.before_can_be r.delta_can_be r.joined r.keys =
    c.as_slice-2.ensures.value ∙ c.in_ok-turned.ensures
    ∙ turned_is k d now keys r.before_can_be r.delta_can_be r.joined r.keys (seen_in c.args.self.now.seen) c.as_slice.result.now sees0
    (c.as_slice.ensures.value ∙ c.in_ok-machines.ensures.values ∙ ap (values_at (λ (m : ℕ). lookup nat_cmp m now.machines)) c.machines.ensures) in
    let all = all_found k d now keys r.before_can_be r.delta_can_be r.joined r.keys c.args.self.now.index held.remembers.counts ds
    c.in_ok-dirty.ensures.told c.in_ok-dirty.ensures.jobs
    (λ m t h. c.in_ok-dirty.ensures.machines m t (ap (λ xs. has_id xs m) ts ∙ h)) in
    let taken = subst (λ zs. Counts (has_id zs) k c.take_out_all.new.self) c.as_slice-4.ensures.value (c.in_ok-take_out_all.ensures.counts k r.before_can_be sees0 held.remembers.counts) in
    let kept = counts_on k d now keys r.before_can_be r.delta_can_be r.joined r.keys ds all c.take_out_all.new.self taken in
    let counts = c.in_ok-put_back_all.ensures.counts now can fits sees (subst (λ zs. Counts (has_id zs) now c.take_out_all.new.self) (sym c.as_slice-6.ensures.value) kept) in
    let are : (l : Table) → Remembers l c.args.self.now → AreDirtyTasks l now keys ds = λ seen_as_well other.
    dirty_as_seen k d now keys r.before_can_be r.delta_can_be r.joined r.keys seen_as_well (sym other.sees ∙ sees0) ds c.in_ok-dirty.ensures.rises
    (only_dirty k d now keys r.before_can_be r.delta_can_be r.joined r.keys c.args.self.now.index held.remembers.counts ds all
    (λ t h. elim (c.in_ok-dirty.ensures.only t h) [ inl told ↦ inl told | inr listed ↦ elim listed [ inl of_job ↦ inr (inl of_job) | inr of_machine ↦ inr (inr (of_machine.0, ap (λ xs. has_id xs of_machine.0) (sym ts) ∙ of_machine.1, of_machine.2)) ] ]))
    in
    let K = g.L.Look.keys c.args.look.now in
    let looked : g.L.Look.keys c.machines_now.new.look ≡ K ++ map key.Machine keys.machines = c.in_ok-machines.ensures.keys ∙ ap (λ (ms : List ℕ). K ++ map key.Machine ms) c.machines.ensures in
    record {
      remembers = record { sees = sees; counts = counts };
      touches =
          all_touched k d now keys r.before_can_be r.delta_can_be r.joined r.keys ds all (seen_in c.args.self.now.seen) (seen_in seen) sees0 sees c.put_back_all.new.self counts c.args.network.now held.network
          c.jobs-2.new.self c.machines-3.new.self c.tasks.new.self c.tasks-2.new.self c.touch_pairs.new.touched
          c.in_ok-machines-2.ensures.grows c.in_ok-tasks.ensures.grows c.in_ok-tasks-2.ensures.grows
          (subst (λ zs. (j : ℕ) → has_id zs j ≡ true → has_touched c.jobs-2.new.self (Unscheduled j) ≡ true) c.jobs.ensures c.in_ok-jobs.ensures.touches)
          (subst (λ zs. (m : ℕ) → has_id zs m ≡ true → has_touched c.machines-3.new.self (Machine m) ≡ true) c.machines-2.ensures c.in_ok-machines-2.ensures.touches)
          (subst (λ zs. (t : ℕ) → has_id zs t ≡ true → TouchesTask (seen_in c.args.self.now.seen) t c.tasks.new.self) c.as_slice-3.ensures.value c.in_ok-tasks.ensures.touches)
          (subst (λ zs. (t : ℕ) → has_id zs t ≡ true → TouchesTask (seen_in seen) t c.tasks-2.new.self) c.as_slice-7.ensures.value c.in_ok-tasks-2.ensures.touches)
          c.in_ok-touch_pairs.ensures c.known-2.ensures.nodes c.known-2.ensures.pairs;
      only = λ other_k other.
          only_turning other_k now keys ds (are other_k other) (seen_in c.args.self.now.seen) (seen_in seen) (other.sees) sees
          c.new-touched.result c.jobs-2.new.self c.machines-3.new.self c.tasks.new.self c.tasks-2.new.self c.touch_pairs.new.touched
          c.new-touched.ensures.nodes
          (subst (λ zs. (n : Node) → has_touched c.jobs-2.new.self n ≡ true → (has_touched c.new-touched.result n ≡ true) ⊎ IsNodeOf Unscheduled zs n) c.jobs.ensures c.in_ok-jobs.ensures.only)
          (subst (λ zs. (n : Node) → has_touched c.machines-3.new.self n ≡ true → (has_touched c.jobs-2.new.self n ≡ true) ⊎ IsNodeOf Machine zs n) c.machines-2.ensures c.in_ok-machines-2.ensures.only)
          (subst (λ zs. (n : Node) → has_touched c.tasks.new.self n ≡ true → (has_touched c.machines-3.new.self n ≡ true) ⊎ IsEndOf (seen_in c.args.self.now.seen) zs n) c.as_slice-3.ensures.value c.in_ok-tasks.ensures.only)
          (subst (λ zs. (n : Node) → has_touched c.tasks-2.new.self n ≡ true → (has_touched c.tasks.new.self n ≡ true) ⊎ IsEndOf (seen_in seen) zs n) c.as_slice-7.ensures.value c.in_ok-tasks-2.ensures.only)
          (λ n h. ap (λ ks. list_any (λ m. is_eq (node_cmp n m)) ks.keys) (sym c.in_ok-touch_pairs.ensures.nodes) ∙ h);
      taken = λ other_k other. (
        ds,
        are other_k other,
        c.in_ok-put_back_all.ensures.taken ∙ c.in_ok-take_out_all.ensures.taken ∙ ap (λ (zs : List ℕ). min (c.args.self.now.index.taken + length zs) (2 ^ 64 - 1)) c.as_slice-4.ensures.value,
      );
      small = fits;
      keys =
          c.in_ok-see.ensures.keys
          ∙ (λ i. looked i ++ map key.Job keys.jobs ++ map key.Task keys.tasks ++ map (λ t. key.Winner t (attempt_of (same i) t)) keys.tasks)
          ∙ five K (map key.Machine keys.machines) (map key.Job keys.jobs) (map key.Task keys.tasks) (map (λ t. key.Winner t (attempt_of now t)) keys.tasks);
      same = c.in_ok-see.ensures.same ∙ same;
    }
