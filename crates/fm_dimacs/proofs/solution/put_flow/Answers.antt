use Rattle.std.proofs.Common.{◌++◌, ◌∙◌, append_assoc, ap, sym}
use Rattle.std.specs.List.{flat_map}
use Rattle.fm_certificate.specs.Flows.{units_in}
use Rattle.fm_dimacs.specs.Solution.{flow_line}
use Rattle.fm_dimacs.proofs.Sent.{appends_more, stopped_later}
use Rattle.fm_dimacs.proofs.solution.put_flow.Goals as goal

pub returns-in_err-put_units : goal.returns-in_err-put_units
returns-in_err-put_units g c =
    let i = c.loop-arc.invariant.2 in
    let lines = flow_line c.args.nodes.now (units_in c.args.flow.now) in
    stopped_later _ _ _ _ _ _ _ _ _ i.sent (lines c.in-Some.arc.now) (flat_map lines c.next.new.self) c.from_residual-in_err-put_units.ensures.1
    (i.whole ∙ ap (λ arcs. i.sent ++ flat_map lines arcs) c.in-Some.ensures.steps) i.appended i.fails_not c.in_err-put_units.ensures

pub loop-arc-preserved : goal.loop-arc-preserved
loop-arc-preserved g c =
    let i = c.loop-arc.invariant.2 in
    let lines = flow_line c.args.nodes.now (units_in c.args.flow.now) in
    let line = lines c.in-Some.arc.now in (
      tt,
      tt,
      record {
        sent = i.sent ++ line;
        whole = i.whole ∙ ap (λ arcs. i.sent ++ flat_map lines arcs) c.in-Some.ensures.steps ∙ sym (append_assoc i.sent line _);
        appended = appends_more _ _ _ _ _ i.appended c.in_ok-put_units.ensures.0;
        fails_not = c.in_ok-put_units.ensures.1 ∙ i.fails_not;
      },
    )
