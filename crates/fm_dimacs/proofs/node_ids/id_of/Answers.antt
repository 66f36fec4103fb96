use Rattle.fm_dimacs.proofs.Placed.{found, not_found}
use Rattle.fm_dimacs.proofs.node_ids.id_of.Goals as goal

pub returns-in-Ok : goal.returns-in-Ok
returns-in-Ok c = found _ c.args.node.now c.in-Ok.at c.requires c.in-Ok.ensures.bound c.in-Ok.ensures.position

pub returns-in-Err : goal.returns-in-Err
returns-in-Err c = not_found _ c.args.node.now _ c.requires c.in-Err.ensures.position
