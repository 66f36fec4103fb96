use Rattle.std.proofs.Common.{◌+◌, length, refl, sym, ◌∙◌, arith}
use Rattle.std.proofs.lemmas.Bool.{eqb-false}
use Rattle.fm_records.proofs.TableLaws.{some_none}
use Rattle.fm_dimacs.proofs.Reader.{problem_leads, problem_broken}
use Rattle.fm_dimacs.proofs.read.read_problem.Goals as goal

pub returns-in-Some-clause-ok : goal.returns-in-Some-clause-ok
returns-in-Some-clause-ok c =
    let nodes = c.args.nodes.now in
    let some = eqb-false (length nodes) 0 (sym c.is_empty.ensures ∙ c.if-is_empty.false) in
    problem_leads nodes c.args.text.now (c.in-Some.found.0, c.in-Some.found.1.now) (omega arith) c.in-Some.ensures

pub returns-in-None-clause-err : goal.returns-in-None-clause-err
returns-in-None-clause-err c =
    let nodes = c.args.nodes.now in
    problem_broken nodes c.args.text.now (length nodes + 1) refl (omega arith) c.requires.no_node (λ arcs behind some e. some_none (arcs, behind) (sym e ∙ c.in-None.ensures))
