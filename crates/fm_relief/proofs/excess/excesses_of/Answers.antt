use Rattle.std.proofs.Common.{◌≡◌, ◌∙◌, ◌++◌, sym, ap, subst, rules}
use Rattle.std.specs.List.{cons_option}
use Rattle.std.specs.Ordering.{nat_cmp}
use Rattle.fm_lattice.specs.Maps.{IsRising}
use Rattle.fm_tally.proofs.Rows.{rows}
use Rattle.fm_relief.specs.inner.Excesses.{excess_at, all_excesses}
use Rattle.fm_relief.proofs.Listing.{row_more, excesses_rise}
use Rattle.fm_relief.proofs.excess.excesses_of.Goals as goal

pub loop-machine-preserved : goal.loop-machine-preserved
loop-machine-preserved c =
    let k = c.args.knowledge.now in
    let found = c.loop-machine.found.items in
    let rest = rows (excess_at k) c.next.new.self in
    (λ i. c.in_ok-push_some.ensures i ++ rest)
    ∙ row_more found rest c.excess_of.result
    ∙ ap (λ o. found ++ cons_option o rest) c.excess_of.ensures
    ∙ ap (λ es. found ++ rows (excess_at k) es) (sym c.in-Some.ensures.steps)
    ∙ c.loop-machine.invariant

pub of-requires : goal.of-requires
of-requires c =
    let k = c.args.knowledge.now in
    let all : c.loop-machine.found.items ≡ all_excesses k = search (rules, c.loop-machine.invariant) in
    subst (IsRising nat_cmp) (sym all) (excesses_rise k c.known.ensures.table.machines.rising)
