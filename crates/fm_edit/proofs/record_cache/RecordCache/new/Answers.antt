use Rattle.std.proofs.Common.{ap, refl, []}
use Rattle.std.specs.Ordering.{nat_cmp}
use Rattle.fm_lattice.specs.Maps.{lookup}
use Rattle.fm_records.specs.Know.{table_of}
use Rattle.fm_edit.proofs.Followed.{seen_as}
use Rattle.fm_edit.proofs.record_cache.RecordCache.new.Goals as goal

pub returns : goal.returns
returns c =
    seen_as (record { jobs = c.new.result; tasks = c.new-2.result; machines = c.new-3.result; spots = c.new-4.result }) (table_of []) (table_of []) refl
    (λ q. ap (lookup nat_cmp q) c.new.ensures.empty)
    (λ q. ap (lookup nat_cmp q) c.new-2.ensures.empty)
    (λ q. ap (lookup nat_cmp q) c.new-3.ensures.empty)
    (λ q. ap (lookup nat_cmp q) c.new-4.ensures.empty)
