use Rattle.std.proofs.Common.{◌≡◌, ◌∷◌, rules, ◌∙◌}
use Rattle.std.specs.Prelude.{not, ◌&&◌, is_some, option_map}
use Rattle.fm_records.specs.Options.{when, and_then}
use Rattle.fm_net.specs.declared.node.Node.{Node}
use Rattle.fm_net.specs.declared.edit.Edit.TheVariants.{DropArc}
use Rattle.fm_net.specs.Edits.{joins, has_arc}
use Rattle.fm_net.specs.Touched.{put_at}
use Rattle.fm_edit.specs.inner.EditorFacts.{arc_by}
use Rattle.fm_edit.proofs.Each.{stepped_kept, stepped_made}
use Rattle.fm_edit.proofs.editor_state.EditorState.add_arcs.Goals as goal

pub loop-pair-preserved : goal.loop-pair-preserved
loop-pair-preserved c =
    let net = c.args.network.now in
    let arc = arc_by c.args.self.now in
    let x = c.in-Some.pair.now in
    let next : c.loop-pair.pair-iterator ≡ x ∷ c.next.new.self = search rules in
    record {
      place = c.in_ok-add_arc.ensures.last;
      going = stepped_kept (λ (e : Node × Node). DropArc e.0 e.1) (λ (e : Node × Node). joins net e && not (is_some (arc e.0 e.1))) c.loop-pair.going.items c.add_arc.new.going.items c.loop-pair.pair-iterator c.next.new.self x next c.in_ok-add_arc.ensures.going ∙ c.loop-pair.invariant.going;
      coming = stepped_made (λ (e : Node × Node). option_map (put_at e)
          (and_then (λ v. when (not (has_arc net (e, v))) v) (arc e.0 e.1))) c.loop-pair.coming.items c.add_arc.new.coming.items
          c.loop-pair.pair-iterator c.next.new.self x next c.in_ok-add_arc.ensures.coming ∙ c.loop-pair.invariant.coming;
    }
