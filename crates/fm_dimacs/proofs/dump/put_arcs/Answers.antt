use Rattle.std.proofs.Common.{◌++◌, ◌∙◌, append_assoc, ap, sym}
use Rattle.std.specs.List.{flat_map}
use Rattle.fm_dimacs.specs.Text.{arc_line}
use Rattle.fm_dimacs.proofs.Sent.{appends_more, stopped_later}
use Rattle.fm_dimacs.proofs.dump.put_arcs.Goals as goal

pub returns-in_err-put_arc : goal.returns-in_err-put_arc
returns-in_err-put_arc g c =
    let i = c.loop-arc.invariant.2 in
    let lines = arc_line c.args.nodes.now in
    stopped_later _ _ _ _ _ _ _ _ _ i.sent (lines c.in-Some.arc.now) (flat_map lines c.next.new.self) c.from_residual-in_err-put_arc.ensures.1
    (i.whole ∙ ap (λ arcs. i.sent ++ flat_map lines arcs) c.in-Some.ensures.steps) i.appended i.fails_not c.in_err-put_arc.ensures

pub loop-arc-preserved : goal.loop-arc-preserved
loop-arc-preserved g c =
    let i = c.loop-arc.invariant.2 in
    let lines = arc_line c.args.nodes.now in
    let line = lines c.in-Some.arc.now in (
      tt,
      tt,
      record {
        sent = i.sent ++ line;
        whole = i.whole ∙ ap (λ arcs. i.sent ++ flat_map lines arcs) c.in-Some.ensures.steps ∙ sym (append_assoc i.sent line _);
        appended = appends_more _ _ _ _ _ i.appended c.in_ok-put_arc.ensures.0;
        fails_not = c.in_ok-put_arc.ensures.1 ∙ i.fails_not;
      },
    )
