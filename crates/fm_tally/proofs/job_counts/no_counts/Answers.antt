use Rattle.std.proofs.Common.{◌≡◌, ◌∙◌, ap, sym, subst, refl, zero, Option, Some, None, option_map, rules}
use Rattle.std.specs.Ordering.{nat_cmp}
use Rattle.fm_lattice.specs.Maps.{lookup, IsRising}
use Rattle.fm_records.specs.Options.{or_else}
use Rattle.fm_tally.proofs.Each.{each, rising_each, lookup_each}
use Rattle.fm_tally.proofs.job_counts.no_counts.Goals as goal

no_count : {V : Type 0} (o : Option V) → or_else zero (option_map (λ (_ : V). zero) o) ≡ zero
no_count None = refl
no_count (Some v) = refl

pub of-requires : goal.of-requires
of-requires c =
    let k = c.args.knowledge.now in
    let all : c.loop-job.found.items ≡ each (λ _. 0) k.jobs = search rules in
    subst (IsRising nat_cmp) (sym all) (rising_each (λ _. 0) k.jobs (subst (IsRising nat_cmp) c.jobs-2.ensures c.iter-job-items.ensures.map.rising))

pub returns : goal.returns
returns c j =
    let k = c.args.knowledge.now in
    let all : c.loop-job.found.items ≡ each (λ _. 0) k.jobs = search rules in
    ap (λ es. or_else 0 (lookup nat_cmp j es)) (c.of.ensures ∙ all)
    ∙ ap (or_else 0) (lookup_each (λ _. 0) k.jobs j)
    ∙ no_count (lookup nat_cmp j k.jobs)
