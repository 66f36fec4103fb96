use Rattle.std.proofs.Common.{◌∙◌, sym}
use Rattle.fm_round.proofs.Shut.{open_requests, open_tasks, no_requests, no_tasks}
use Rattle.fm_round.proofs.machine_holdings.held_by.Goals as goal

pub returns-in-Some-clause-requests : goal.returns-in-Some-clause-requests
returns-in-Some-clause-requests c k is_for = open_requests k c.args.tally.now is_for c.args.machine c.in-Some.open (sym c.get.ensures ∙ c.in-Some.is)

pub returns-in-Some-clause-tasks : goal.returns-in-Some-clause-tasks
returns-in-Some-clause-tasks c k is_for = open_tasks k c.args.tally.now is_for c.args.machine c.in-Some.open (sym c.get.ensures ∙ c.in-Some.is)

pub returns-in-None-clause-requests : goal.returns-in-None-clause-requests
returns-in-None-clause-requests c k is_for = no_requests k c.args.tally.now is_for c.args.machine (sym c.get.ensures ∙ c.in-None.is)

pub returns-in-None-clause-tasks : goal.returns-in-None-clause-tasks
returns-in-None-clause-tasks c k is_for = no_tasks k c.args.tally.now is_for c.args.machine (sym c.get.ensures ∙ c.in-None.is)
