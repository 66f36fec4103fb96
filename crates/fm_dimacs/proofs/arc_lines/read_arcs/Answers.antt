-- Each arc leads on from those before it; if none comes next, the line is broken.
use Rattle.std.proofs.Common.{◌≡◌, ◌+◌, ◌++◌, ◌∷◌, [], refl, sym, ap, ◌∙◌, subst, arith}
use Rattle.fm_net.specs.inner.NetworkIter.{arc_entry}
use Rattle.fm_dimacs.specs.inner.Scan.{IsAfter}
use Rattle.fm_dimacs.proofs.Arcs.{arc_broken, arc_leads, arc_room, is_after_last, last_ends, last_more}
use Rattle.fm_dimacs.proofs.arc_lines.read_arcs.Goals as goal

pub returns-in_default-clause-err : goal.returns-in_default-clause-err
returns-in_default-clause-err c =
    let inv = c.loop-done.invariant in
    arc_broken c.args.nodes.now c.loop-done.network.arcs c.args.left c.loop-done.done c.args.lines (c.args.lines + c.loop-done.done + 1) c.loop-done.last c.args.text.now c.loop-done.rest.now refl c.loop-done-test.true inv.last inv.leads c.in_default.ensures.none

pub put-requires-clause-last : goal.put-requires-clause-last
put-requires-clause-last c = is_after_last c.loop-done.network.arcs (arc_entry c.in-Some.arc) (subst (λ ends. IsAfter ends (arc_entry c.in-Some.arc)) c.loop-done.invariant.last c.in-Some.ensures.some.1)

pub loop-done-preserved : goal.loop-done-preserved
loop-done-preserved c =
    let inv = c.loop-done.invariant in
    let arc = arc_entry c.in-Some.arc in
    let arcs : c.put.new.network.arcs ≡ c.loop-done.network.arcs ++ (arc ∷ []) = ap (λ net. net.arcs) c.in_ok-put.ensures in
    let line = arc_room c.args.nodes.now arc c.loop-done.rest.now c.in-Some.behind.now c.in-Some.ensures.some.2 in
    record {
      nodes = ap (λ net. net.nodes) c.in_ok-put.ensures ∙ inv.nodes;
      leads = arc_leads c.args.nodes.now c.loop-done.network.arcs c.put.new.network.arcs c.args.left c.loop-done.done
          c.loop-done.last c.args.text.now c.loop-done.rest.now c.in-Some.behind.now arc c.loop-done-test.true inv.last
          inv.leads c.in-Some.ensures.some.0 c.in-Some.ensures.some.1 c.in-Some.ensures.some.2 arcs;
      last = sym (last_more c.loop-done.network.arcs arc) ∙ ap last_ends (sym arcs);
      room = omega (arith, line, inv.room);
    }
