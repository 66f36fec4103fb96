use Rattle.std.proofs.Common.{◌≡◌, None, option_map, ap, sym, rules}
use Rattle.fm_records.specs.Ops.{op_fault}
use Rattle.fm_script.specs.declared.script_fault.StepFault.TheVariants as step
use Rattle.fm_script.proofs.Faults.{field-named}
use Rattle.fm_script.proofs.find_fault.out_of_range.Goals as goal

pub returns-in-Ok : goal.returns-in-Ok
returns-in-Ok c =
    let fault : op_fault c.args.op.now ≡ None = search rules in
    ap (option_map (λ x. step.OutOfRange x)) (sym fault)

pub returns-in-Err : goal.returns-in-Err
returns-in-Err c = field-named _ c.in-Err.refusal _ c.in-Err.ensures.err c.field_in.ensures
