use Rattle.std.proofs.Common.{◌∙◌, ◌<◌, ◌^◌, [], sym, ap, subst, length}
use Rattle.std.specs.Ordering.{nat_cmp}
use Rattle.fm_lattice.specs.Maps.{lookup}
use Rattle.fm_records.specs.Rising.{Rises}
use Rattle.fm_records.specs.Know.{table_of}
use Rattle.fm_records.specs.Facts.{job_of, won_spot}
use Rattle.fm_edit.specs.Dirty.{has_id}
use Rattle.fm_edit.specs.EditorState.{Counts}
use Rattle.fm_edit.proofs.Followed.{seen_as, base, spots_as}
use Rattle.fm_edit.proofs.Filled.{nothing_can_be, nothing_joined, tasks_rise, filled}
use Rattle.fm_edit.proofs.editor_state.EditorState.of.Goals as goal

pub see-requires-clause-jobs : goal.see-requires-clause-jobs
see-requires-clause-jobs g c = λ q h.
    let now = g.L.Look.table c.args.look.now in
    let can = c.requires.can_be in
    (λ i. (c.new-memory.ensures.sees i).job q) ∙ sym ((base (table_of []) now now c.args.all.now nothing_can_be can (nothing_joined now can) c.requires.all).jobs q h) ∙ ap (λ k. job_of k q) (sym c.in_ok-machines.ensures.same)

pub see-requires-clause-tasks : goal.see-requires-clause-tasks
see-requires-clause-tasks g c = λ q h.
    let now = g.L.Look.table c.args.look.now in
    let can = c.requires.can_be in
    (λ i. (c.new-memory.ensures.sees i).task q) ∙ sym ((base (table_of []) now now c.args.all.now nothing_can_be can (nothing_joined now can) c.requires.all).tasks q h) ∙ ap (λ k. lookup nat_cmp q k.tasks) (sym c.in_ok-machines.ensures.same)

pub see-requires-clause-spots : goal.see-requires-clause-spots
see-requires-clause-spots g c = λ q h.
    let now = g.L.Look.table c.args.look.now in
    let can = c.requires.can_be in
    (λ i. (c.new-memory.ensures.sees i).spot q) ∙ sym (spots_as (table_of []) now now c.args.all.now nothing_can_be can (nothing_joined now can) c.requires.all q h) ∙ ap (λ k. won_spot k q) (sym c.in_ok-machines.ensures.same)

pub see-requires-clause-machines : goal.see-requires-clause-machines
see-requires-clause-machines g c = λ q h.
    let now = g.L.Look.table c.args.look.now in
    let can = c.requires.can_be in
    (λ i. (c.new-memory.ensures.sees i).machine q) ∙ sym ((base (table_of []) now now c.args.all.now nothing_can_be can (nothing_joined now can) c.requires.all).machines q h) ∙ ap (λ k. lookup nat_cmp q k.machines) (sym c.in_ok-machines.ensures.same)

pub put_back_all-requires : goal.put_back_all-requires
put_back_all-requires g c = subst (Rises nat_cmp) (sym c.tasks.ensures) (tasks_rise (g.L.Look.table c.args.look.now) c.args.all.now c.requires.all)

pub returns : goal.returns
returns g c =
    let now = g.L.Look.table c.args.look.now in
    let can = c.requires.can_be in
    let sees = seen_as c.see.new.seen (g.L.Look.table c.machines_now.new.look) now c.in_ok-machines.ensures.same c.in_ok-see.ensures.jobs c.in_ok-see.ensures.tasks c.in_ok-see.ensures.machines c.in_ok-see.ensures.spots in
    let fits : length now.tasks < 2 ^ 63 = c.known.ensures now can.table.tasks.rising sees in
    let kept = filled c.new-memory.result.index c.new-memory.ensures.counts now c.args.all.now can c.requires.all in
    let counts = c.in_ok-put_back_all.ensures.counts now can fits sees (subst (λ zs. Counts (has_id zs) now c.new-memory.result.index) (sym c.tasks.ensures) kept) in
    record { sees = sees; counts = counts }
