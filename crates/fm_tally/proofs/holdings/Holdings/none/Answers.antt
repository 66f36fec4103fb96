use Rattle.std.proofs.Common.{◌≡◌, ◌∙◌, ap, sym, subst, rules}
use Rattle.std.specs.Ordering.{nat_cmp}
use Rattle.fm_lattice.specs.Maps.{lookup, IsRising}
use Rattle.fm_tally.specs.inner.Holdings.{nothing_on}
use Rattle.fm_tally.proofs.Each.{each, rising_each, lookup_each}
use Rattle.fm_tally.proofs.holdings.Holdings.none.Goals as goal

pub of-requires : goal.of-requires
of-requires c =
    let k = c.args.knowledge.now in
    let all : c.loop-machine.found.items ≡ each nothing_on k.machines = search rules in
    subst (IsRising nat_cmp) (sym all) (rising_each nothing_on k.machines (subst (IsRising nat_cmp) c.machines.ensures c.iter-machine-items.ensures.map.rising))

pub returns : goal.returns
returns c m =
    let k = c.args.knowledge.now in
    let all : c.loop-machine.found.items ≡ each nothing_on k.machines = search rules in
    ap (lookup nat_cmp m) (c.of.ensures ∙ all) ∙ lookup_each nothing_on k.machines m
