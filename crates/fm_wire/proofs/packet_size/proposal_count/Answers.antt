use Rattle.std.proofs.Common.{arith}
use Rattle.fm_wire.proofs.Sizes.{few_proposals}
use Rattle.fm_wire.proofs.packet_size.proposal_count.Goals as goal

pub returns-clause-fits : goal.returns-clause-fits
returns-clause-fits c = omega (arith, c.loop-entries.invariant.few, c.loop-entries.invariant.so_far, few_proposals c.args.value.now c.known.ensures)
