use Rattle.std.proofs.Common.{◌∙◌, sym}
use Rattle.fm_dimacs.proofs.Reader.{unit_leads, unit_room, unit_broken}
use Rattle.fm_dimacs.proofs.read.read_unit.Goals as goal

pub returns-in-Some-clause-ok : goal.returns-in-Some-clause-ok
returns-in-Some-clause-ok c = unit_leads c.args.line.now c.args.text.now c.in-Some.rest.now (sym c.is_empty.ensures ∙ c.if-is_empty.false) c.in-Some.ensures

pub returns-in-None-clause-err : goal.returns-in-None-clause-err
returns-in-None-clause-err c = unit_broken c.args.line.now c.args.text.now c.args.lines (sym c.is_empty.ensures ∙ c.if-is_empty.false) c.in-None.ensures

pub returns-in-Some-clause-room : goal.returns-in-Some-clause-room
returns-in-Some-clause-room c = unit_room c.args.line.now c.args.text.now c.in-Some.rest.now (sym c.is_empty.ensures ∙ c.if-is_empty.false) c.in-Some.ensures
