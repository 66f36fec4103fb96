-- The problem line, the demand and the supplies, and the arcs lead on from each other.
use Rattle.std.proofs.Common.{◌≡◌, ◌+◌, [], length, refl, sym, ap, subst, arith}
use Rattle.fm_dimacs.specs.Syntax.{Comments, Body, Reaches, unit_lines}
use Rattle.fm_dimacs.proofs.Lasting.{leads_on}
use Rattle.fm_dimacs.proofs.Reader.{fault_behind, fault_passed}
use Rattle.fm_dimacs.proofs.read.read_body.Goals as goal

pub returns-in_err-units-clause-err : goal.returns-in_err-units-clause-err
returns-in_err-units-clause-err c =
    let nodes = c.args.nodes.now in
    let left = c.in_ok-left.left in
    let refusal = c.in_err-units.field-0.0 in
    fault_passed c.from_residual-in_err-units.result refusal (length nodes) (Comments nodes) c.args.text.now c.from_residual-in_err-units.ensures.1
    (fault_behind (length nodes) 1 (length nodes + 1) (Comments nodes) (Body nodes (unit_lines nodes) [] left) c.args.text.now c.in_ok-left.rest.now refusal refl c.in_ok-left.ensures.ok (c.in_err-units.ensures.err left))

pub returns-in_err-read_arcs-clause-err : goal.returns-in_err-read_arcs-clause-err
returns-in_err-read_arcs-clause-err c =
    let nodes = c.args.nodes.now in
    let left = c.in_ok-left.left in
    let refusal = c.in_err-read_arcs.field-0.0 in
    let first = leads_on 1 c.in_ok-units.units (Comments nodes) (Body nodes (unit_lines nodes) [] left) (Body nodes [] [] left) c.args.text.now c.in_ok-left.rest.now c.in_ok-units.rest.now c.in_ok-left.ensures.ok (c.in_ok-units.ensures.ok left) in
    fault_passed c.from_residual-in_err-read_arcs.result refusal (length nodes) (Comments nodes) c.args.text.now c.from_residual-in_err-read_arcs.ensures.1
    (fault_behind (length nodes) (1 + c.in_ok-units.units) (length nodes + 1 + c.in_ok-units.units) (Comments nodes) (Body nodes [] [] left) c.args.text.now c.in_ok-units.rest.now refusal (omega arith) first c.in_err-read_arcs.ensures.err)

pub returns-clause-ok : goal.returns-clause-ok
returns-clause-ok c =
    let nodes = c.args.nodes.now in
    let left = c.in_ok-left.left in
    let arcs = c.read_arcs.new.network.arcs in
    let first = leads_on 1 c.in_ok-units.units (Comments nodes) (Body nodes (unit_lines nodes) [] left) (Body nodes [] [] left) c.args.text.now c.in_ok-left.rest.now c.in_ok-units.rest.now c.in_ok-left.ensures.ok (c.in_ok-units.ensures.ok left) in
    let whole = leads_on (1 + c.in_ok-units.units) left (Comments nodes) (Body nodes [] [] left) (Body nodes [] arcs 0) c.args.text.now c.in_ok-units.rest.now [] first c.in_ok-read_arcs.ensures.ok in
    let same : nodes ≡ c.read_arcs.new.network.nodes = sym (ap (λ net. net.nodes) c.in_ok-read_arcs.ensures.nodes) in
    (1 + c.in_ok-units.units + left, subst (λ ns. Reaches (1 + c.in_ok-units.units + left) (Comments nodes) c.args.text.now (Body ns [] arcs 0) []) same whole)
