use Rattle.std.proofs.Common.{◌≡◌, List, subst, length, rules}
use Rattle.fm_cycles.specs.declared.indexed_arcs.IndexedArc.{IndexedArc}
use Rattle.fm_cycles.specs.Units.{AreWithin, HaveSameBalance}
use Rattle.fm_indexed.proofs.Kept.{still_flow}
use Rattle.fm_indexed.proofs.improved.improved.Goals as goal

pub returns-clause-flow : goal.returns-clause-flow
returns-clause-flow c =
    let arcs = c.args.numbered.now.arcs.items in
    let old = c.args.units.items in
    let new = c.in_ok-improved.improved.0.items in
    let is : c.deref.result.now ≡ c.args.numbered.now.arcs.items = search rules in
    let found = c.in_ok-improved.ensures in
    let all : (length new ≡ length arcs) × AreWithin arcs new × HaveSameBalance arcs old new =
    subst (λ (bs : List IndexedArc). (length new ≡ length bs) × AreWithin bs new × HaveSameBalance bs old new) is (found.sized, found.within, found.kept) in
    still_flow c.args.numbered.now.places arcs old new c.args.numbered.now.formed c.requires.flow all.0 all.1 all.2
