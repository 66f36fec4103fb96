use Rattle.std.proofs.Common.{◌≡◌, ◌∙◌, refl, sym, subst}
use Rattle.std.proofs.lemmas.Result.{err_from_is_err_and}
use Rattle.fm_wire.specs.Grammar.{body, packet}
use Rattle.fm_wire.specs.inner.Decoding.{DecodesTo, rest_of}
use Rattle.fm_wire.proofs.Parts.{packet_rest}
use Rattle.fm_wire.proofs.reading.rest_of_packet.Goals as goal

pub returns-in_err-version : goal.returns-in_err-version
returns-in_err-version c =
    let p = err_from_is_err_and c.from_residual.result c.from_residual.ensures.1 in
    rw (p.1, p.2) (packet_rest c.args.bytes.now ∙ rw c.in_err-version.ensures refl)

pub returns : goal.returns
returns c =
    let last : rest_of (packet.read c.args.bytes.now) ≡ rest_of ((body c.in_ok-version.version).read c.in_ok-version.rest.now) = packet_rest c.args.bytes.now ∙ rw c.in_ok-version.ensures refl in
    subst (DecodesTo (λ rest. rest.now) c.rest_of_body.result) (sym last) c.rest_of_body.ensures
