use Rattle.std.proofs.Common.{◌≡◌, None, sym, arith}
use Rattle.fm_wire.specs.Grammar.{fault}
use Rattle.fm_wire.proofs.PacketLaws.{spelled_where_none, none_where_spelled, found_spelled, found_packet}
use Rattle.fm_wire.proofs.reading.decode.Goals as goal

pub returns-in-Some-clause-exact : goal.returns-in-Some-clause-exact
returns-in-Some-clause-exact c = (spelled_where_none c.args.bytes.now (λ i. omega (arith, c.type_inv.bytes i)), none_where_spelled c.args.bytes.now)

pub returns-in-Ok-clause-exact : goal.returns-in-Ok-clause-exact
returns-in-Ok-clause-exact c = (spelled_where_none c.args.bytes.now (λ i. omega (arith, c.type_inv.bytes i)), none_where_spelled c.args.bytes.now)

pub returns-in-Err-Memory-clause-exact : goal.returns-in-Err-Memory-clause-exact
returns-in-Err-Memory-clause-exact c = (spelled_where_none c.args.bytes.now (λ i. omega (arith, c.type_inv.bytes i)), none_where_spelled c.args.bytes.now)

pub returns-in-Err-Fault-clause-exact : goal.returns-in-Err-Fault-clause-exact
returns-in-Err-Fault-clause-exact c = (spelled_where_none c.args.bytes.now (λ i. omega (arith, c.type_inv.bytes i)), none_where_spelled c.args.bytes.now)

pub returns-in-Ok-clause-spelling : goal.returns-in-Ok-clause-spelling
returns-in-Ok-clause-spelling c =
    let found = c.in-Ok.ensures.found in
    let none : fault c.args.bytes.now ≡ None = sym c.in_default.ensures in
    found_spelled c.args.bytes.now found.0 c.in-Ok.packet found.1 (λ i. omega (arith, c.type_inv.bytes i)) found.2 none

pub returns-in-Ok-clause-packet : goal.returns-in-Ok-clause-packet
returns-in-Ok-clause-packet c =
    let found = c.in-Ok.ensures.found in
    found_packet c.args.bytes.now found.0 c.in-Ok.packet found.1 (λ i. omega (arith, c.type_inv.bytes i)) found.2 c.in-Ok.ensures.value
