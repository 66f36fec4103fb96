-- The arc comes last, so that it is put at the end.
use Rattle.std.proofs.Common.{ap, ◌∙◌}
use Rattle.fm_net.specs.inner.NetworkIter.{arc_entry}
use Rattle.fm_dimacs.proofs.Arcs.{put_last}
use Rattle.fm_dimacs.proofs.arc_lines.put.Goals as goal

pub returns : goal.returns
returns c =
    let old = c.args.network.now in
    let arc = arc_entry c.args.arc.now in
    c.in_ok-put_arc.ensures.ok ∙ ap (λ arcs. record { nodes = old.nodes; arcs = arcs }) (put_last old.arcs arc.0.0 arc.0.1 arc.1 c.known.ensures.arcs_rise c.requires.last)
