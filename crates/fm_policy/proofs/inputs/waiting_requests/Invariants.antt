use Rattle.std.proofs.Common.{drop}
use Rattle.std.specs.List.{filter_map}
use Rattle.fm_policy.specs.inner.Inputs.{waiting_request}
use Rattle.fm_policy.proofs.Named.{AllNamed}
use Rattle.fm_policy.proofs.inputs.waiting_requests.Given as goal

abbrev pub invariant-loop-entry : goal.invariant-loop-entry
invariant-loop-entry l = AllNamed (filter_map waiting_request l.tasks) l.requests.keys (filter_map waiting_request (drop l.entry-index l.tasks))
