use Rattle.fm_script.proofs.Faults.{told-step, form-refused}
use Rattle.fm_script.proofs.Asking.{form-script}
use Rattle.fm_script.proofs.fault_laws.law_form.Goals as goal

pub returns-clause-step : goal.returns-clause-step
returns-clause-step c = told-step

pub returns-clause-script : goal.returns-clause-script
returns-clause-script c = form-script

pub returns-clause-named : goal.returns-clause-named
returns-clause-named c = form-refused
