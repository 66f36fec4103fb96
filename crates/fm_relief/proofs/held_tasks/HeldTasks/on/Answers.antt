use Rattle.std.proofs.Common.{◌≡◌, ◌∙◌, ◌+◌, ◌++◌, ◌∷◌, [], sym, ap, subst, take}
use Rattle.std.specs.Prelude.{option_to_list}
use Rattle.std.specs.List.{filter_map}
use Rattle.std.specs.Ordering.{nat_cmp}
use Rattle.std.proofs.lemmas.List.{take_all, take_more}
use Rattle.fm_lattice.specs.Maps.{IsRising}
use Rattle.fm_round.proofs.Pairing.{mapped_more}
use Rattle.fm_relief.specs.inner.HeldLists.{listed_entry}
use Rattle.fm_relief.proofs.Listing.{listed_is}
use Rattle.fm_relief.proofs.held_tasks.HeldTasks.on.Goals as goal

pub loop-task-preserved : goal.loop-task-preserved
loop-task-preserved c =
    let k = c.args.knowledge.now in
    let machines = c.args.machines.now in
    let xs = c.pairs-pairs.result.now in
    let i = c.loop-task.task-index in
    let e = c.loop-task-item.result in
    let more : take (i + 1) xs ≡ take i xs ++ e ∷ [] = take_more xs i e c.loop-task-test.true ∙ ap (λ z. take i xs ++ z ∷ []) (sym c.loop-task-item.is) in
    λ m.
    c.in_ok-add_live.ensures m
    ∙ ap (λ zs. zs ++ option_to_list (listed_entry k machines m e)) (c.loop-task.invariant m)
    ∙ sym (mapped_more (listed_entry k machines m) (take i xs) e)
    ∙ ap (filter_map (listed_entry k machines m)) (sym more)

pub returns : goal.returns
returns c m x found =
    let k = c.args.knowledge.now in
    let machines = c.args.machines.now in
    let xs = c.pairs-pairs.result.now in
    let table = c.known.ensures.table in
    c.loop-task.invariant m
    ∙ ap (filter_map (listed_entry k machines m)) (take_all c.loop-task.task-index xs c.loop-task-test.false ∙ c.pairs-pairs.ensures.pairs)
    ∙ listed_is k c.args.tally.now c.requires.tally (subst (IsRising nat_cmp) c.pairs-pairs.ensures.pairs c.pairs-pairs.ensures.rising) table.tasks.rising machines c.requires.machines m x found
