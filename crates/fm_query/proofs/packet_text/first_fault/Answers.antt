use Rattle.std.proofs.Common.{sym, ◌∙◌, arith}
use Rattle.fm_wire.proofs.PacketLaws.{spelled_where_none}
use Rattle.fm_query.proofs.packet_text.first_fault.Goals as goal

pub returns-clause-none : goal.returns-clause-none
returns-clause-none c = λ none. spelled_where_none c.args.bytes.now (λ i. omega (arith, c.type_inv.bytes i)) (sym c.fault_of.ensures ∙ none)
