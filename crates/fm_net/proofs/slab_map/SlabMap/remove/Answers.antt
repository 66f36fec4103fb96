use Rattle.std.proofs.Common.{sym, ap, ◌∙◌, arith}
use Rattle.std.specs.BTreeMap.{is_at}
use Rattle.std.specs.Map.{remove_entry}
use Rattle.slab.specs.Slab.{get}
use Rattle.fm_lattice.specs.Maps.{lookup}
use Rattle.fm_net.specs.Cells.{pairs_in_cells}
use Rattle.fm_net.proofs.Shown.{rising_said, stands, value_stands, removed_in_cells, removed_shown, shown_absent, nothing_stands}
use Rattle.fm_net.proofs.slab_map.SlabMap.remove.Goals as goal

pub remove-requires-in-Some : goal.remove-requires-in-Some
remove-requires-in-Some g c =
    let at = get c.self.inside.cells in
    let es = c.self.inside.places.entries in
    stands g.K.Ord.cmp g.met.K.Ord.total at at c.in-Some.place c.args.key.now es es c.self.invariant.indexed (sym c.in-Some.ensures.value)

pub invariant_of-self : goal.invariant_of-self
invariant_of-self g c =
    let u = c.remove-in-Some.ensures.updates in
    record {
      indexed = removed_in_cells g.K.Ord.cmp g.met.K.Ord.total (get c.self.inside.cells) (get c.remove-in-Some.new.self) c.in-Some.place c.args.key.now c.self.inside.places.entries c.remove.new.self.entries c.self.invariant.indexed (sym c.in-Some.ensures.value)
          (record { changed = u.changed; others = u.others }) c.in-Some.ensures.entries (rising_said g.K.Ord.cmp c.remove.new.self.entries c.in-Some.ensures.ordered);
      no_more = omega (arith, c.self.invariant.no_more, c.remove-in-Some.ensures.len, c.in-Some.ensures.len);
    }

pub returns-in-Some-clause-without : goal.returns-in-Some-clause-without
returns-in-Some-clause-without g c =
    let u = c.remove-in-Some.ensures.updates in
    removed_shown g.K.Ord.cmp g.met.K.Ord.total (get c.self.inside.cells) (get c.remove-in-Some.new.self) c.in-Some.place c.args.key.now c.self.inside.places.entries c.remove.new.self.entries c.self.invariant.indexed (sym c.in-Some.ensures.value)
    (record { changed = u.changed; others = u.others }) c.in-Some.ensures.entries
    ∙ ap (remove_entry (is_at (g.K.Ord.cmp c.args.key.now))) c.self.view_is

pub returns-in-Some-clause-stood : goal.returns-in-Some-clause-stood
returns-in-Some-clause-stood g c =
    let at = get c.self.inside.cells in
    let es = c.self.inside.places.entries in
    value_stands g.K.Ord.cmp g.met.K.Ord.total at at c.in-Some.place c.args.key.now es es c.self.invariant.indexed (sym c.in-Some.ensures.value) c.remove-in-Some.result c.remove-in-Some.ensures.value
    ∙ ap (lookup g.K.Ord.cmp c.args.key.now) c.self.view_is

pub returns-in-None-clause-without : goal.returns-in-None-clause-without
returns-in-None-clause-without g c =
    let at = get c.self.inside.cells in
    ap (λ es. pairs_in_cells at es) c.in-None.ensures.unchanged
    ∙ sym (shown_absent g.K.Ord.cmp g.met.K.Ord.total at c.args.key.now c.self.inside.places.entries c.self.invariant.indexed.cells (sym c.in-None.ensures.value))
    ∙ ap (remove_entry (is_at (g.K.Ord.cmp c.args.key.now))) c.self.view_is

pub returns-in-None-clause-stood : goal.returns-in-None-clause-stood
returns-in-None-clause-stood g c =
    nothing_stands g.K.Ord.cmp g.met.K.Ord.total (get c.self.inside.cells) c.args.key.now c.self.inside.places.entries c.self.invariant.indexed (sym c.in-None.ensures.value)
    ∙ ap (lookup g.K.Ord.cmp c.args.key.now) c.self.view_is
