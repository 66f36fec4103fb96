use Rattle.std.proofs.Common.{ap, ◌∙◌, sym}
use Rattle.fm_know.specs.Mutators.{next_version}
use Rattle.fm_know.proofs.AfterTelling.{some_of, state_told, incarnation_told}
use Rattle.fm_know.proofs.knowledge.Knowledge.next_machine.Goals as goal

pub returns-clause-told : goal.returns-clause-told
returns-clause-told c below = state_told c.args.self.now c.known.ensures.table c.args.id c.args.incarnation _ c.args.writer c.args.up c.args.slots c.args.nic (ap next_version (sym c.state_version.ensures) ∙ some_of _ _ _ c.in_ok-version.ensures) below

pub returns-clause-present : goal.returns-clause-present
returns-clause-present c below = incarnation_told c.args.self.now c.known.ensures.table c.args.id c.args.incarnation _ c.args.writer c.args.up c.args.slots c.args.nic (ap next_version (sym c.state_version.ensures) ∙ some_of _ _ _ c.in_ok-version.ensures) below
