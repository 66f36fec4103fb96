use Rattle.std.proofs.Common.{◌≡◌, ◌∙◌, ◌<◌, ◌+◌, ◌^◌, ℕ, List, Some, ap, sym, subst, length, get_or, rules, arith}
use Rattle.std.specs.Prelude.{vec_len, slice_get, slice_index, slice_set}
use Rattle.std.proofs.lemmas.List.{get_or_default}
use Rattle.std.proofs.lemmas.Option.{slice_get-get_or}
use Rattle.fm_cycles.specs.declared.indexed_arcs.IndexedArc.{IndexedArc}
use Rattle.fm_indexed.specs.inner.ArcEnds.{node_at_end}
use Rattle.fm_indexed.proofs.Summed.{AddUp, add_one, skip_one, add_fits}
use Rattle.fm_indexed.proofs.Ends.{end_below}
use Rattle.fm_indexed.proofs.sums.sums_of.Goals as goal
use Rattle.fm_indexed.proofs.sums.sums_of.Goals.{then-sent-ne0, else-sent-ne0}

abbrev none : IndexedArc
none = record { from = 0; to = 0; capacity = 0; cost = 0 }

pub overflow_add-index_mut : goal.overflow_add-index_mut
overflow_add-index_mut c =
    let arcs = c.args.numbered.now.arcs.items in
    let i = c.loop-place.place in
    let a = get_or c.deref-arc-items.result.now i none in
    let is : c.deref-arc-items.result.now ≡ c.args.numbered.now.arcs.items = search rules in
    let there : slice_get c.args.numbered.now.arcs.items i ≡ Some a = subst (λ (bs : List IndexedArc). slice_get bs i ≡ Some a) is (slice_get-get_or c.deref-arc-items.result.now i none (omega arith)) in
    let known = c.args.numbered.now.formed.ends i a there in
    let at_end = end_below c.args.end a c.args.numbered.now.places.end (known.0, known.1) in
    let sent : c.from.result ≡ slice_index c.args.units.now i = search rules in
    let within : node_at_end c.args.end a < length c.loop-place.sums.items = search (rules, at_end) in
    let read : c.index_mut.result.now ≡ get_or c.loop-place.sums.items (node_at_end c.args.end a) c.index_mut.result.now = search rules in
    let value : c.index_mut.result.now ≡ slice_index c.loop-place.sums.items (node_at_end c.args.end a) = read ∙ get_or_default c.loop-place.sums.items (node_at_end c.args.end a) c.index_mut.result.now 0 within in
    let few : length c.args.numbered.now.arcs.items < 2 ^ 63 = search rules in
    let each : (k : ℕ) → slice_index c.args.units.now k < 2 ^ 64 = λ k. let h = c.type_inv.units k in omega arith in
    let fits = add_fits (node_at_end c.args.end) c.args.numbered.now.places.end arcs c.args.units.now i a c.from.result c.loop-place.sums.items there sent at_end few each c.loop-place.invariant.add_up in
    omega arith

pub loop-place-preserved : goal.loop-place-preserved
loop-place-preserved c =
    let arcs = c.args.numbered.now.arcs.items in
    let units = c.args.units.now in
    let nodes = c.args.numbered.now.places.end in
    let sums = c.loop-place.sums.items in
    let i = c.loop-place.place in
    let a = get_or c.deref-arc-items.result.now i none in
    let is : c.deref-arc-items.result.now ≡ c.args.numbered.now.arcs.items = search rules in
    let there : slice_get c.args.numbered.now.arcs.items i ≡ Some a = subst (λ (bs : List IndexedArc). slice_get bs i ≡ Some a) is (slice_get-get_or c.deref-arc-items.result.now i none (omega arith)) in
    let known = c.args.numbered.now.formed.ends i a there in
    let at_end = end_below c.args.end a c.args.numbered.now.places.end (known.0, known.1) in
    let within : node_at_end c.args.end a < length c.loop-place.sums.items = search (rules, at_end) in
    elim c.if-sent-ne0.branch [
      | then-sent-ne0 w ↦
          let was = w.index_mut.result.now in
          let node = w.end_of.result in
          let here : node ≡ node_at_end c.args.end a = search rules in
          let sent : w.from.result ≡ slice_index units i = w.from.ensures ∙ c.at-sent.ensures in
          let below : node < length sums = subst (λ n. n < length sums) (sym here) within in
          let read : was ≡ get_or sums node was = search (rules, w.index_mut.ensures) in
          let value : was ≡ slice_index sums node = read ∙ get_or_default sums node was 0 below in
          let put = ap (λ n. slice_set sums node (n + w.from.result)) value ∙ ap (λ n. slice_set sums n (slice_index sums n + w.from.result)) here in
          record {
            sized = ap (λ s. vec_len s) w.sums-is ∙ c.loop-place.invariant.sized;
            add_up = subst (λ s. AddUp (node_at_end c.args.end) nodes arcs units (i + 1) s.items) (sym w.sums-is)
                (add_one (node_at_end c.args.end) nodes arcs units i a w.from.result sums (slice_set sums node (was + w.from.result)) there sent within put c.loop-place.invariant.add_up);
          }
      | else-sent-ne0 w ↦
          record {
            sized = ap (λ s. vec_len s) w.sums-is ∙ c.loop-place.invariant.sized;
            add_up = subst (λ s. AddUp (node_at_end c.args.end) nodes arcs units (i + 1) s.items) (sym w.sums-is)
                (skip_one (node_at_end c.args.end) nodes arcs units i a sums there (sym c.at-sent.ensures ∙ w.if-sent-ne0.false) c.loop-place.invariant.add_up);
          }
    ]
