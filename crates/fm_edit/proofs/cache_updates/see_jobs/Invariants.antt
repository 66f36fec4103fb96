use Rattle.std.proofs.Common.{◌≡◌, ℕ, false, map, ◌++◌, take, drop}
use Rattle.std.specs.Ordering.{nat_cmp}
use Rattle.std.specs.BTreeMap.{get}
use Rattle.fm_records.specs.Facts.{job_of}
use Rattle.fm_edit.specs.Dirty.{has_id}
use Rattle.fm_edit.specs.declared.look.Key.TheVariants as key
use Rattle.fm_edit.proofs.cache_updates.see_jobs.Given as goal

abbrev pub invariant-loop-job : goal.invariant-loop-job
invariant-loop-job g l = record {
  seen : (q : ℕ) → has_id (drop l.job-index l.changed) q ≡ false → get nat_cmp l.jobs q ≡ job_of (g.L.Look.table l.fn.look) q;
  keys : g.L.Look.keys l.look ≡ g.L.Look.keys l.fn.look ++ map key.Job (take l.job-index l.changed);
  same : g.L.Look.table l.look ≡ g.L.Look.table l.fn.look;
}
