use Rattle.fm_flow.proofs.solve.anew.Goals as goal

pub first_flow-requires : goal.first_flow-requires
first_flow-requires c = record { unscheduled = c.law_unscheduled.ensures c.args.network.now c.args.numbered.now.places c.args.numbered.now.arcs.items c.known.ensures c.requires.built c.requires.numbered }
