use Rattle.std.proofs.lemmas.Result.{err_from_is_err_and}
use Rattle.fm_wire.proofs.Parts.{version_fails, finds_packet}
use Rattle.fm_wire.proofs.reading.packet_at.Goals as goal

pub returns-in_err-version-clause-found : goal.returns-in_err-version-clause-found
returns-in_err-version-clause-found c =
    let p = err_from_is_err_and c.from_residual.result c.from_residual.ensures.1 in
    rw (p.1, p.2) (version_fails c.args.bytes.now c.in_err-version.field-0.0 c.in_err-version.ensures)

pub returns-clause-found : goal.returns-clause-found
returns-clause-found c = finds_packet c.body_at.result c.args.bytes.now c.in_ok-version.version c.in_ok-version.rest.now c.in_ok-version.ensures c.body_at.ensures.found
