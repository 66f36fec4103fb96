use Rattle.std.proofs.Common.{◌≡◌, ◌∙◌, refl, sym, subst}
use Rattle.std.proofs.lemmas.Result.{err_from_is_err_and}
use Rattle.fm_wire.specs.Grammar.{body, entry_list}
use Rattle.fm_wire.specs.inner.Decoding.{DecodesTo, rest_of}
use Rattle.fm_wire.proofs.Parts.{body_rest}
use Rattle.fm_wire.proofs.reading.rest_of_body.Goals as goal

pub returns-in_err-rest-3 : goal.returns-in_err-rest-3
returns-in_err-rest-3 c =
    let p = err_from_is_err_and c.from_residual-in_err-rest-3.result c.from_residual-in_err-rest-3.ensures.1 in
    rw (p.1, p.2) (body_rest c.args.version c.args.bytes.now ∙ rw (c.in_ok-rest.ensures.header, c.in_ok-rest-2.ensures, c.in_err-rest-3.ensures) refl)

pub returns-in_err-rest-4 : goal.returns-in_err-rest-4
returns-in_err-rest-4 c =
    let p = err_from_is_err_and c.from_residual-in_err-rest-4.result c.from_residual-in_err-rest-4.ensures.1 in
    rw (p.1, p.2) (body_rest c.args.version c.args.bytes.now ∙ rw (c.in_ok-rest.ensures.header, c.in_ok-rest-2.ensures, c.in_ok-rest-3.ensures, c.in_err-rest-4.ensures) refl)

pub returns : goal.returns
returns c =
    let last : rest_of ((body c.args.version).read c.args.bytes.now) ≡ rest_of (entry_list.read c.in_ok-rest-4.rest.now) =
    body_rest c.args.version c.args.bytes.now ∙ rw (c.in_ok-rest.ensures.header, c.in_ok-rest-2.ensures, c.in_ok-rest-3.ensures, c.in_ok-rest-4.ensures) refl in
    subst (DecodesTo (λ rest. rest.now) c.rest_of_map-4.result) (sym last) c.rest_of_map-4.ensures

pub returns-in_err-rest : goal.returns-in_err-rest
returns-in_err-rest c =
    let p = err_from_is_err_and c.from_residual.result c.from_residual.ensures.1 in
    rw (p.1, p.2) (body_rest c.args.version c.args.bytes.now ∙ rw c.in_err-rest.ensures.header refl)

pub returns-in_err-rest-2 : goal.returns-in_err-rest-2
returns-in_err-rest-2 c =
    let p = err_from_is_err_and c.from_residual-in_err-rest-2.result c.from_residual-in_err-rest-2.ensures.1 in
    rw (p.1, p.2) (body_rest c.args.version c.args.bytes.now ∙ rw (c.in_ok-rest.ensures.header, c.in_err-rest-2.ensures) refl)
