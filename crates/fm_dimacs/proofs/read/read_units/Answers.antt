-- The demand comes first, then the supplies.
use Rattle.std.proofs.Common.{◌≡◌, ◌+◌, ◌++◌, [], refl, subst, ◌∙◌}
use Rattle.std.specs.Prelude.{count_by}
use Rattle.fm_dimacs.specs.Text.{is_task_node, demand_line}
use Rattle.fm_dimacs.specs.Syntax.{Body, Reaches, IsFault, with_line, supplies_from, unit_lines}
use Rattle.fm_dimacs.proofs.Lasting.{leads_on}
use Rattle.fm_dimacs.proofs.Reader.{fault_behind, fault_passed}
use Rattle.fm_dimacs.proofs.read.read_units.Goals as goal

pub returns-in_err-demands-clause-err : goal.returns-in_err-demands-clause-err
returns-in_err-demands-clause-err c = λ left.
    let nodes = c.args.nodes.now in
    let line : c.as_bytes.result.now ≡ demand_line (count_by is_task_node nodes) = c.as_bytes.ensures.value ∙ c.in_ok-write_demand.ensures.ok ∙ (λ i. c.new-line.ensures.bytes i ++ demand_line (c.count_tasks.ensures i)) in
    let refusal = c.in_err-demands.field-0.0 in
    let fault = subst (λ l. IsFault c.args.lines (Body nodes (with_line l (supplies_from 1 nodes)) [] left) c.args.text.now refusal) line (c.in_err-demands.ensures.err nodes (supplies_from 1 nodes) left) in
    fault_passed c.from_residual-in_err-demands.result refusal c.args.lines (Body nodes (unit_lines nodes) [] left) c.args.text.now c.from_residual-in_err-demands.ensures.1 fault

pub returns-in_err-supplies-clause-err : goal.returns-in_err-supplies-clause-err
returns-in_err-supplies-clause-err c = λ left.
    let nodes = c.args.nodes.now in
    let line : c.as_bytes.result.now ≡ demand_line (count_by is_task_node nodes) = c.as_bytes.ensures.value ∙ c.in_ok-write_demand.ensures.ok ∙ (λ i. c.new-line.ensures.bytes i ++ demand_line (c.count_tasks.ensures i)) in
    let start = Body nodes (unit_lines nodes) [] left in
    let mid = Body nodes (supplies_from 1 nodes) [] left in
    let first = subst (λ l. Reaches c.in_ok-demands.demands (Body nodes (with_line l (supplies_from 1 nodes)) [] left) c.args.text.now mid c.in_ok-demands.rest.now) line (c.in_ok-demands.ensures.ok nodes (supplies_from 1 nodes) left) in
    let refusal = c.in_err-supplies.field-0.0 in
    fault_passed c.from_residual-in_err-supplies.result refusal c.args.lines start c.args.text.now c.from_residual-in_err-supplies.ensures.1
    (fault_behind c.args.lines c.in_ok-demands.demands (c.args.lines + c.in_ok-demands.demands) start mid c.args.text.now c.in_ok-demands.rest.now refusal refl first (c.in_err-supplies.ensures.err left))

pub returns-clause-ok : goal.returns-clause-ok
returns-clause-ok c = λ left.
    let nodes = c.args.nodes.now in
    let line : c.as_bytes.result.now ≡ demand_line (count_by is_task_node nodes) = c.as_bytes.ensures.value ∙ c.in_ok-write_demand.ensures.ok ∙ (λ i. c.new-line.ensures.bytes i ++ demand_line (c.count_tasks.ensures i)) in
    let mid = Body nodes (supplies_from 1 nodes) [] left in
    let first = subst (λ l. Reaches c.in_ok-demands.demands (Body nodes (with_line l (supplies_from 1 nodes)) [] left) c.args.text.now mid c.in_ok-demands.rest.now) line (c.in_ok-demands.ensures.ok nodes (supplies_from 1 nodes) left) in
    leads_on c.in_ok-demands.demands c.in_ok-supplies.supplies (Body nodes (unit_lines nodes) [] left) mid (Body nodes [] [] left) c.args.text.now c.in_ok-demands.rest.now c.in_ok-supplies.rest.now first (c.in_ok-supplies.ensures.ok left)
