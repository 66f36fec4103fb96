use Rattle.std.proofs.Common.{◌≡◌, ◌∙◌}
use Rattle.fm_dimacs.proofs.Sent.{prefix_sent}
use Rattle.fm_dimacs.proofs.solution.write_solution.Goals as goal

pub returns-clause-err : goal.returns-clause-err
returns-clause-err g c =
    let nodes : c.deref.result.now ≡ c.args.network.now.nodes = c.deref.ensures.value ∙ c.in_ok-nodes.ensures in
    prefix_sent c.put_text.result _ _ _ _ _ (rw nodes at c.put_text.ensures)
