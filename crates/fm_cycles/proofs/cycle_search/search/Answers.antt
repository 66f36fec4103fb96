use Rattle.std.proofs.Common.{◌≡◌, ◌∙◌, ◌<◌, ◌^◌, List, Option, [], None, refl, ap, sym, subst, length, get_or, rules, arith}
use Rattle.std.specs.Prelude.{ℕ}
use Rattle.std.proofs.lemmas.List.Elements.{All-nil}
use lib.ListN.{replicate}
use lib.Signed.{◌<ℤ◌}
use Rattle.std.specs.declared.vec.Vec.{Vec}
use Rattle.std.specs.declared.alloc.Global.{Global}
use Rattle.fm_cycles.specs.Walks.{IsNegativeCycle}
use Rattle.fm_cycles.specs.Residual.{residual}
use Rattle.fm_cycles.specs.Found.{costs_in, AreNegative}
use Rattle.fm_cycles.specs.inner.Labels.{HasFallen, IsCorrectedWithin, costs_of, parents_of}
use Rattle.fm_cycles.specs.inner.ParentGraph.{HasRoot, AreCyclesOf}
use Rattle.fm_cycles.specs.declared.indexed_arcs.ResidualArc.{ResidualArc}
use Rattle.fm_cycles.proofs.Searched.{start, above, quickened, done, again, none_at, none_fell, some_fell, no_items}
use Rattle.fm_cycles.proofs.cycle_search.search.Goals as goal

pub rounds-init : goal.rounds-init
rounds-init c =
    let no : Option ResidualArc = None in
    let items : c.in_ok-parents.parents.items ≡ replicate c.args.nodes no = c.in_ok-parents.ensures.items_if_clones_equal (λ y h. search (rules, h)) in
    let sized : length c.in_ok-parents.parents.items ≡ c.args.nodes = search rules in
    start c.args.arcs.now c.args.units.now c.args.nodes c.requires.arcs (costs_in c.args.first.items) _ (λ v. refl)
    (λ v. ap (λ (xs : List (Option ResidualArc)). get_or xs v None) items ∙ none_at no refl c.args.nodes v) c.requires.sized sized c.requires.small

pub relax_by_queue-requires-clause-labels : goal.relax_by_queue-requires-clause-labels
relax_by_queue-requires-clause-labels c = (costs_in c.args.first.items, c.rounds.invariant.grown)

pub relax_by_queue-requires-clause-low : goal.relax_by_queue-requires-clause-low
relax_by_queue-requires-clause-low c = above c.args.arcs.now c.args.units.now c.args.nodes c.requires.arcs c.requires.few (costs_in c.args.first.items) c.rounds.labels c.rounds.sweeps c.rounds.invariant

pub sweep-requires-clause-low : goal.sweep-requires-clause-low
sweep-requires-clause-low c =
    let more : IsCorrectedWithin (residual c.args.arcs.now c.args.units.now) (2 ^ 64) c.rounds.labels c.relax_by_queue.new.labels = search (rules, c.relax_by_queue.ensures) in
    (quickened c.args.arcs.now c.args.units.now c.args.nodes c.requires.arcs c.requires.few (costs_in c.args.first.items) c.rounds.labels c.relax_by_queue.new.labels c.rounds.sweeps c.rounds.invariant more).low

pub returns-then-is_none : goal.returns-then-is_none
returns-then-is_none c =
    let g = residual c.args.arcs.now c.args.units.now in
    let nodes = c.args.nodes in
    let now = c.relax_by_queue.new.labels in
    let new = c.sweep.new.labels in
    let none : c.new-none.result.items ≡ [] = c.new-none.ensures.items in
    let more : IsCorrectedWithin g (2 ^ 64) c.rounds.labels now = search (rules, c.relax_by_queue.ensures) in
    let grown = quickened c.args.arcs.now c.args.units.now nodes c.requires.arcs c.requires.few (costs_in c.args.first.items) c.rounds.labels now c.rounds.sweeps c.rounds.invariant more in
    let kept : length new.costs.items ≡ length now.costs.items = search (rules, c.sweep.ensures.costs) in
    let fallen : HasFallen new.fell nodes (costs_of now) (costs_of new) = subst (λ n. HasFallen new.fell n (costs_of now) (costs_of new)) grown.sized (search (rules, c.sweep.ensures.fell)) in
    record {
      sized = kept ∙ grown.sized;
      negative = subst (λ (cs : List (Vec ResidualArc Global)). AreNegative g cs) (sym none) (All-nil (λ (cycle : Vec ResidualArc Global). IsNegativeCycle g cycle.items));
      potentials = λ _. done c.args.arcs.now c.args.units.now nodes c.requires.arcs (costs_in c.args.first.items) now new c.rounds.sweeps grown c.sweep.ensures.swept fallen (none_fell new.fell (c.if-is_none.ensures));
    }

pub rounds-preserved : goal.rounds-preserved
rounds-preserved c =
    let g = residual c.args.arcs.now c.args.units.now in
    let nodes = c.args.nodes in
    let now = c.relax_by_queue.new.labels in
    let new = c.sweep.new.labels in
    let more : IsCorrectedWithin g (2 ^ 64) c.rounds.labels now = search (rules, c.relax_by_queue.ensures) in
    let grown = quickened c.args.arcs.now c.args.units.now nodes c.requires.arcs c.requires.few (costs_in c.args.first.items) c.rounds.labels now c.rounds.sweeps c.rounds.invariant more in
    let kept : length new.costs.items ≡ length now.costs.items = search (rules, c.sweep.ensures.costs) in
    let kept2 : length new.parents.items ≡ length now.costs.items = search (rules, c.sweep.ensures.parents) in
    let fallen : HasFallen new.fell (length now.costs.items) (costs_of now) (costs_of new) = search (rules, c.sweep.ensures.fell) in
    let end = some_fell new.fell (c.if-is_none.ensures) in
    let fell : (end.0 < length now.costs.items) × (costs_of new end.0 <ℤ costs_of now end.0) = subst (λ (o : Option ℕ). HasFallen o (length now.costs.items) (costs_of now) (costs_of new)) end.1 fallen in
    let cycles : AreCyclesOf g (parents_of new) (length new.parents.items) c.in_ok-cycles.cycles.items = search (rules, c.in_ok-cycles.ensures) in
    let none : c.in_ok-cycles.cycles.items ≡ [] = no_items c.in_ok-cycles.cycles.items (search rules) in
    let sized : length new.costs.items ≡ nodes = kept ∙ grown.sized in
    let parents : length new.parents.items ≡ nodes = kept2 ∙ grown.sized in
    let within = grown.sized in
    let rooted : (v : ℕ) → v < nodes → HasRoot g nodes (parents_of new) v = subst (λ n. (v : ℕ) → v < n → HasRoot g n (parents_of new) v) parents (cycles.rooted none) in
    again c.args.arcs.now c.args.units.now nodes c.requires.arcs (costs_in c.args.first.items) now new c.rounds.sweeps grown c.sweep.ensures.swept
    c.requires.small rooted end.0 (let h = fell.0 in omega arith) fell.1 sized parents
