-- A supply leads on from those before it, and is broken if it is not the next one.
use Rattle.std.proofs.Common.{◌≡◌, ◌+◌, ◌++◌, [], drop, refl, sym, ap, subst, ◌∙◌, arith}
use Rattle.fm_dimacs.specs.Text.{supply_line}
use Rattle.fm_dimacs.specs.Syntax.{Body, Reaches, IsFault, with_line, supplies_from}
use Rattle.fm_dimacs.proofs.Lasting.{leads_on}
use Rattle.fm_dimacs.proofs.Reader.{supplies_at, fault_behind, fault_passed}
use Rattle.fm_dimacs.proofs.read.read_supplies.Goals as goal

pub returns-in_err-more-clause-err : goal.returns-in_err-more-clause-err
returns-in_err-more-clause-err c = λ left.
    let nodes = c.args.nodes.now in
    let text = c.args.text.now in
    let rest = c.loop-i.rest.now in
    let i = c.loop-i.i in
    let units = supplies_from (i + 1 + 1) (drop (i + 1) nodes) in
    let line : c.as_bytes.result.now ≡ supply_line (i + 1) c.index-nodes-i.result = c.as_bytes.ensures.value ∙ c.in_ok-write_supply.ensures.ok ∙ ap (λ t. t ++ supply_line (i + 1) c.index-nodes-i.result) c.clear.ensures.bytes in
    let here : with_line c.as_bytes.result.now units ≡ supplies_from (i + 1) (drop i nodes) = ap (λ l. with_line l units) line ∙ sym (supplies_at (i + 1) i nodes c.index-nodes-i.result c.loop-i-test.true c.index-nodes-i.is) in
    let refusal = c.in_err-more.field-0.0 in
    let fault = subst (λ us. IsFault (c.args.lines + c.loop-i.count) (Body nodes us [] left) rest refusal) here (c.in_err-more.ensures.err nodes units left) in
    let start = Body nodes (supplies_from 1 nodes) [] left in
    fault_passed c.from_residual-in_err-more.result refusal c.args.lines start text c.from_residual-in_err-more.ensures.1
    (fault_behind c.args.lines c.loop-i.count (c.args.lines + c.loop-i.count) start (Body nodes (supplies_from (i + 1) (drop i nodes)) [] left) text rest refusal refl (c.loop-i.invariant.leads left) fault)

pub loop-i-preserved : goal.loop-i-preserved
loop-i-preserved c =
    let nodes = c.args.nodes.now in
    let text = c.args.text.now in
    let rest = c.loop-i.rest.now in
    let i = c.loop-i.i in
    let units = supplies_from (i + 1 + 1) (drop (i + 1) nodes) in
    let line : c.as_bytes.result.now ≡ supply_line (i + 1) c.index-nodes-i.result = c.as_bytes.ensures.value ∙ c.in_ok-write_supply.ensures.ok ∙ ap (λ t. t ++ supply_line (i + 1) c.index-nodes-i.result) c.clear.ensures.bytes in
    let here : with_line c.as_bytes.result.now units ≡ supplies_from (i + 1) (drop i nodes) = ap (λ l. with_line l units) line ∙ sym (supplies_at (i + 1) i nodes c.index-nodes-i.result c.loop-i-test.true c.index-nodes-i.is) in
    record {
      leads = λ left.
          let next = subst (λ us. Reaches c.in_ok-more.more (Body nodes us [] left) rest (Body nodes units [] left) c.in_ok-more.behind.now) here (c.in_ok-more.ensures.ok nodes units left) in
          leads_on c.loop-i.count c.in_ok-more.more (Body nodes (supplies_from 1 nodes) [] left) (Body nodes (supplies_from (i + 1) (drop i nodes)) [] left) (Body nodes units [] left) text rest c.in_ok-more.behind.now (c.loop-i.invariant.leads left) next;
      room = omega (arith, c.in_ok-more.ensures.room, c.loop-i.invariant.room);
    }
