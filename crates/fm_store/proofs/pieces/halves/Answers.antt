use Rattle.std.proofs.Common.{◌∙◌}
use Rattle.fm_records.specs.Table.{Table}
use Rattle.fm_store.proofs.Halving.{halves_can_be}
use Rattle.fm_store.proofs.pieces.halves.Goals as goal

pub of-front-requires : goal.of-front-requires
of-front-requires c =
    let front : Table = record { jobs = c.in_ok-jobs.jobs.0; tasks = c.in_ok-tasks.tasks.0; machines = c.in_ok-machines.machines.0; proposals = c.in_ok-proposals.proposals.0 } in
    let behind : Table = record { jobs = c.in_ok-jobs.jobs.1; tasks = c.in_ok-tasks.tasks.1; machines = c.in_ok-machines.machines.1; proposals = c.in_ok-proposals.proposals.1 } in
    (halves_can_be front behind c.args.value.now (c.in_ok-jobs.ensures.both ∙ c.jobs.ensures) (c.in_ok-tasks.ensures.both ∙ c.tasks.ensures)
    (c.in_ok-machines.ensures.both ∙ c.machines.ensures) (c.in_ok-proposals.ensures.both ∙ c.proposals.ensures) c.known.ensures).0

pub of-behind-requires : goal.of-behind-requires
of-behind-requires c =
    let front : Table = record { jobs = c.in_ok-jobs.jobs.0; tasks = c.in_ok-tasks.tasks.0; machines = c.in_ok-machines.machines.0; proposals = c.in_ok-proposals.proposals.0 } in
    let behind : Table = record { jobs = c.in_ok-jobs.jobs.1; tasks = c.in_ok-tasks.tasks.1; machines = c.in_ok-machines.machines.1; proposals = c.in_ok-proposals.proposals.1 } in
    (halves_can_be front behind c.args.value.now (c.in_ok-jobs.ensures.both ∙ c.jobs.ensures) (c.in_ok-tasks.ensures.both ∙ c.tasks.ensures)
    (c.in_ok-machines.ensures.both ∙ c.machines.ensures) (c.in_ok-proposals.ensures.both ∙ c.proposals.ensures) c.known.ensures).1
