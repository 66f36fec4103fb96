use Rattle.std.proofs.Common.{◌≡◌, ◌∙◌, ◌++◌, ℕ, List, map, sym, ap, subst}
use Rattle.std.specs.Ordering.{nat_cmp}
use Rattle.fm_lattice.specs.Maps.{lookup}
use Rattle.fm_records.specs.Facts.{attempt_of}
use Rattle.fm_edit.specs.declared.look.Key.TheVariants as key
use Rattle.fm_edit.specs.inner.CachedValues.{has_value, AreValuesOf}
use Rattle.fm_edit.proofs.Values.{are_values, has_values}
use Rattle.fm_edit.proofs.cache_updates.see.Goals as goal

pub returns-clause-machines : goal.returns-clause-machines
returns-clause-machines g c =
    let f = λ (m : ℕ). lookup nat_cmp m (g.L.Look.table c.args.look.now).machines in
    let ms = c.args.changed.now.machines in
    c.in_ok-set_machines.ensures f (subst (AreValuesOf f) (sym c.requires.values) (are_values f ms))
    (λ q h. c.requires.machines q (sym (ap (λ vs. has_value vs q) c.requires.values ∙ has_values f ms q) ∙ h))

pub returns-clause-keys : goal.returns-clause-keys
returns-clause-keys g c =
    let K = g.L.Look.keys c.args.look.now in
    let jobs : g.L.Look.keys c.see_jobs.new.look ≡ K ++ map key.Job c.args.changed.now.jobs = c.in_ok-see_jobs.ensures.keys ∙ ap (λ (js : List ℕ). K ++ map key.Job js) c.jobs.ensures in
    let tasks : g.L.Look.keys c.see_tasks.new.look ≡ K ++ map key.Job c.args.changed.now.jobs ++ map key.Task c.args.changed.now.tasks = c.in_ok-see_tasks.ensures.keys ∙ (λ i. jobs i ++ map key.Task (c.tasks.ensures i)) in
    let table : g.L.Look.table c.see_tasks.new.look ≡ g.L.Look.table c.args.look.now = c.in_ok-see_tasks.ensures.same ∙ c.in_ok-see_jobs.ensures.same in
    c.in_ok-see_spots.ensures.keys ∙ (λ i. tasks i ++ map (λ t. key.Winner t (attempt_of (table i) t)) (c.tasks-2.ensures i))
