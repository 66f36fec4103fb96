use Rattle.std.proofs.Common.{◌≡◌, ◌∙◌, [], ◌∷◌, ◌++◌, List, refl, ap, sym, subst, rules}
use Rattle.fm_records.specs.Sets.{IsMember}
use Rattle.fm_net.specs.declared.node.Node.{Node}
use Rattle.fm_cycles.specs.declared.indexed_arcs.IndexedArc.{IndexedArc}
use Rattle.fm_indexed.specs.Numbered.{NetArc, AreArcsOf}
use Rattle.fm_indexed.proofs.Formed.{arcs_more, ends_stand}
use Rattle.fm_indexed.proofs.Naming.{append_one}
use Rattle.fm_indexed.proofs.numbering.arcs_of.Goals as goal

pub index_of-from-requires-clause-stands : goal.index_of-from-requires-clause-stands
index_of-from-requires-clause-stands c =
    let arc : NetArc = c.in-Some.arc.now in
    let done = c.loop-arc.invariant.2.0 in
    let split : c.args.network.now.arcs ≡ done ++ arc ∷ c.next.new.self = c.loop-arc.invariant.2.1 ∙ ap (λ (arcs : List NetArc). done ++ arcs) c.in-Some.ensures.steps in
    subst (λ (nodes : List Node). IsMember c.in-Some.arc.now.0.0 nodes) (sym c.requires.nodes) (ends_stand c.args.network.now c.known.ensures done arc c.next.new.self split).0

pub index_by-to-requires-clause-stands : goal.index_by-to-requires-clause-stands
index_by-to-requires-clause-stands c =
    let arc : NetArc = c.in-Some.arc.now in
    let done = c.loop-arc.invariant.2.0 in
    let split : c.args.network.now.arcs ≡ done ++ arc ∷ c.next.new.self = c.loop-arc.invariant.2.1 ∙ ap (λ (arcs : List NetArc). done ++ arcs) c.in-Some.ensures.steps in
    subst (λ (nodes : List Node). IsMember c.in-Some.arc.now.0.1 nodes) (sym c.requires.nodes) (ends_stand c.args.network.now c.known.ensures done arc c.next.new.self split).1

pub loop-arc-preserved : goal.loop-arc-preserved
loop-arc-preserved c =
    let arc : NetArc = c.in-Some.arc.now in
    let a : IndexedArc = record { from = c.index_of-from.result; to = c.index_by-to.result; capacity = c.in-Some.arc.now.1.0; cost = c.in-Some.arc.now.1.1 } in
    let done = c.loop-arc.invariant.2.0 in
    let split : c.args.network.now.arcs ≡ done ++ arc ∷ c.next.new.self = c.loop-arc.invariant.2.1 ∙ ap (λ (arcs : List NetArc). done ++ arcs) c.in-Some.ensures.steps in (
      tt,
      tt,
      (
        done ++ arc ∷ [],
        split ∙ append_one done arc c.next.new.self,
        subst (λ (numbers : List IndexedArc). AreArcsOf c.args.nodes.now (done ++ arc ∷ []) numbers) (sym {A = List IndexedArc} c.in_ok-push.ensures.items)
            (arcs_more c.args.nodes.now done c.loop-arc.arcs.items arc a c.loop-arc.invariant.2.2 (record { from = c.index_of-from.ensures; to = c.index_by-to.ensures; capacity = refl; cost = refl })),
      ),
    )

pub loop-arc-init : goal.loop-arc-init
loop-arc-init c =
    let none : List NetArc = [] in
    let whole : c.args.network.now.arcs ≡ c.into_iter-arc-iterator.result = search rules in
    (tt, tt, (none, whole, subst (λ (numbers : List IndexedArc). AreArcsOf c.args.nodes.now none numbers) (sym {A = List IndexedArc} c.in_ok-arcs.ensures.items) tt))
