use Rattle.std.proofs.Common.{◌≡◌, Ok, ap, sym, subst, ◌∙◌, arith}
use Rattle.std.proofs.lemmas.Result.{err_from_is_err_and}
use Rattle.fm_records.specs.Ids.{is_coordinator}
use Rattle.fm_records.proofs.RangeLaws.{when_value}
use Rattle.fm_records.specs.Ranges.{CanBe}
use Rattle.fm_records.specs.Table.{Table}
use Rattle.fm_wire.specs.Grammar.{Listed, lists_of, flat_of}
use Rattle.fm_wire.proofs.Parts.{ReadHeader, ReadJobs, ReadTasks, ReadMachines, reads_body, header_fails, jobs_fail, tasks_fail, machines_fail, entries_fail}
use Rattle.fm_wire.proofs.PacketLawful.{body_lawful}
use Rattle.fm_wire.proofs.PacketLaws.{found_can_be}
use Rattle.fm_wire.proofs.reading.body_at.Goals as goal

pub returns-in_err-sender-clause-found : goal.returns-in_err-sender-clause-found
returns-in_err-sender-clause-found c =
    let p = err_from_is_err_and c.from_residual.result c.from_residual.ensures.1 in
    rw (p.1, p.2) (header_fails c.args.version c.args.bytes.now c.in_err-sender.field-0.0 c.in_err-sender.ensures.header)

pub returns-in_err-jobs-clause-found : goal.returns-in_err-jobs-clause-found
returns-in_err-jobs-clause-found c =
    let p = err_from_is_err_and c.from_residual-in_err-jobs.result c.from_residual-in_err-jobs.ensures.1 in
    let before : ReadHeader c.args.bytes.now (c.in_ok-sender.sender, c.in_ok-sender.number) c.in_ok-sender.rest.now = record { header = c.in_ok-sender.ensures.header } in
    rw (p.1, p.2) (jobs_fail c.args.version c.in_err-jobs.field-0.0 c.args.bytes.now (c.in_ok-sender.sender, c.in_ok-sender.number) c.in_ok-sender.rest.now before c.in_err-jobs.ensures)

pub returns-in_err-tasks-clause-found : goal.returns-in_err-tasks-clause-found
returns-in_err-tasks-clause-found c =
    let p = err_from_is_err_and c.from_residual-in_err-tasks.result c.from_residual-in_err-tasks.ensures.1 in
    let before : ReadJobs c.args.bytes.now (c.in_ok-sender.sender, c.in_ok-sender.number) c.in_ok-jobs.jobs c.in_ok-jobs.rest.now = record { after = c.in_ok-sender.rest.now; before = record { header = c.in_ok-sender.ensures.header }; jobs = c.in_ok-jobs.ensures } in
    rw (p.1, p.2) (tasks_fail c.args.version c.in_err-tasks.field-0.0 c.args.bytes.now (c.in_ok-sender.sender, c.in_ok-sender.number) c.in_ok-jobs.jobs c.in_ok-jobs.rest.now before c.in_err-tasks.ensures)

pub returns-in_err-machines-clause-found : goal.returns-in_err-machines-clause-found
returns-in_err-machines-clause-found c =
    let p = err_from_is_err_and c.from_residual-in_err-machines.result c.from_residual-in_err-machines.ensures.1 in
    let before : ReadTasks c.args.version c.args.bytes.now (c.in_ok-sender.sender, c.in_ok-sender.number) c.in_ok-jobs.jobs
    c.in_ok-tasks.tasks c.in_ok-tasks.rest.now = record {
      after = c.in_ok-jobs.rest.now;
      before = record {
        after = c.in_ok-sender.rest.now;
        before = record { header = c.in_ok-sender.ensures.header };
        jobs =
            c.in_ok-jobs.ensures;
      };
      tasks = c.in_ok-tasks.ensures;
    } in
    rw (p.1, p.2) (machines_fail c.args.version c.in_err-machines.field-0.0 c.args.bytes.now (c.in_ok-sender.sender, c.in_ok-sender.number) c.in_ok-jobs.jobs c.in_ok-tasks.tasks c.in_ok-tasks.rest.now before c.in_err-machines.ensures)

pub returns-in_err-entries-clause-found : goal.returns-in_err-entries-clause-found
returns-in_err-entries-clause-found c =
    let p = err_from_is_err_and c.from_residual-in_err-entries.result c.from_residual-in_err-entries.ensures.1 in
    let before : ReadMachines c.args.version c.args.bytes.now (c.in_ok-sender.sender, c.in_ok-sender.number) c.in_ok-jobs.jobs
    c.in_ok-tasks.tasks c.in_ok-machines.machines c.in_ok-machines.rest.now = record {
      after = c.in_ok-tasks.rest.now;
      before = record {
        after = c.in_ok-jobs.rest.now;
        before = record {
          after = c.in_ok-sender.rest.now;
          before = record { header = c.in_ok-sender.ensures.header };
          jobs =
              c.in_ok-jobs.ensures;
        };
        tasks = c.in_ok-tasks.ensures;
      };
      machines = c.in_ok-machines.ensures;
    } in
    rw (p.1, p.2) (entries_fail c.args.version c.in_err-entries.field-0.0 c.args.bytes.now (c.in_ok-sender.sender, c.in_ok-sender.number) c.in_ok-jobs.jobs c.in_ok-tasks.tasks c.in_ok-machines.machines c.in_ok-machines.rest.now before c.in_err-entries.ensures)

pub of-requires : goal.of-requires
of-requires c =
    let before : ReadMachines c.args.version c.args.bytes.now (c.in_ok-sender.sender, c.in_ok-sender.number) c.in_ok-jobs.jobs
    c.in_ok-tasks.tasks c.in_ok-machines.machines c.in_ok-machines.rest.now = record {
      after = c.in_ok-tasks.rest.now;
      before = record {
        after = c.in_ok-jobs.rest.now;
        before = record {
          after = c.in_ok-sender.rest.now;
          before = record { header = c.in_ok-sender.ensures.header };
          jobs =
              c.in_ok-jobs.ensures;
        };
        tasks = c.in_ok-tasks.ensures;
      };
      machines = c.in_ok-machines.ensures;
    } in
    let w : Listed = record { sender = c.in_ok-sender.sender; number = c.in_ok-sender.number; jobs = c.in_ok-jobs.jobs; tasks = c.in_ok-tasks.tasks; machines = c.in_ok-machines.machines; entries = c.in_ok-entries.entries } in
    let read = reads_body c.args.version c.args.bytes.now (c.in_ok-sender.sender, c.in_ok-sender.number) c.in_ok-jobs.jobs c.in_ok-tasks.tasks c.in_ok-machines.machines c.in_ok-machines.rest.now c.in_ok-entries.entries c.in_ok-entries.field-0-1.now before c.in_ok-entries.ensures in
    let took = (body_lawful c.args.version).takes c.args.bytes.now w c.in_ok-entries.field-0-1.now (λ i. omega (arith, c.type_inv.bytes i)) read in
    found_can_be c.args.version w c.in_ok-proposals.proposals took.has c.in_ok-proposals.ensures.entries c.in_ok-proposals.ensures.full

pub returns-clause-found : goal.returns-clause-found
returns-clause-found c =
    let before : ReadMachines c.args.version c.args.bytes.now (c.in_ok-sender.sender, c.in_ok-sender.number) c.in_ok-jobs.jobs
    c.in_ok-tasks.tasks c.in_ok-machines.machines c.in_ok-machines.rest.now = record {
      after = c.in_ok-tasks.rest.now;
      before = record {
        after = c.in_ok-jobs.rest.now;
        before = record {
          after = c.in_ok-sender.rest.now;
          before = record { header = c.in_ok-sender.ensures.header };
          jobs =
              c.in_ok-jobs.ensures;
        };
        tasks = c.in_ok-tasks.ensures;
      };
      machines = c.in_ok-machines.ensures;
    } in
    let read = reads_body c.args.version c.args.bytes.now (c.in_ok-sender.sender, c.in_ok-sender.number) c.in_ok-jobs.jobs c.in_ok-tasks.tasks c.in_ok-machines.machines c.in_ok-machines.rest.now c.in_ok-entries.entries c.in_ok-entries.field-0-1.now before c.in_ok-entries.ensures in
    let w : Listed = record { sender = c.in_ok-sender.sender; number = c.in_ok-sender.number; jobs = c.in_ok-jobs.jobs; tasks = c.in_ok-tasks.tasks; machines = c.in_ok-machines.machines; entries = c.in_ok-entries.entries } in
    let sender : c.in_ok-sender.sender ≡ c.unwrap.result = when_value (is_coordinator c.in_ok-sender.sender) c.in_ok-sender.sender c.unwrap.result (sym c.new.ensures ∙ c.unwrap.ensures) in
    let value = c.of.ensures in
    let same : w ≡ lists_of (record { sender = c.unwrap.result; number = c.in_ok-sender.number; value = c.of.result }) = λ i.
    record {
      sender = sender i;
      number = c.in_ok-sender.number;
      jobs = (sym value i).jobs;
      tasks = (sym value i).tasks;
      machines = (sym value i).machines;
      entries = (sym c.in_ok-proposals.ensures.entries ∙ ap flat_of
          (ap (λ (k : Table). k.proposals) (sym value))) i;
    } in
    (c.in_ok-entries.field-0-1.now, read ∙ (λ i. Ok (same i, c.in_ok-entries.field-0-1.now)))

pub returns-clause-value : goal.returns-clause-value
returns-clause-value c =
    let before : ReadMachines c.args.version c.args.bytes.now (c.in_ok-sender.sender, c.in_ok-sender.number) c.in_ok-jobs.jobs
    c.in_ok-tasks.tasks c.in_ok-machines.machines c.in_ok-machines.rest.now = record {
      after = c.in_ok-tasks.rest.now;
      before = record {
        after = c.in_ok-jobs.rest.now;
        before = record {
          after = c.in_ok-sender.rest.now;
          before = record { header = c.in_ok-sender.ensures.header };
          jobs =
              c.in_ok-jobs.ensures;
        };
        tasks = c.in_ok-tasks.ensures;
      };
      machines = c.in_ok-machines.ensures;
    } in
    let w : Listed = record { sender = c.in_ok-sender.sender; number = c.in_ok-sender.number; jobs = c.in_ok-jobs.jobs; tasks = c.in_ok-tasks.tasks; machines = c.in_ok-machines.machines; entries = c.in_ok-entries.entries } in
    let read = reads_body c.args.version c.args.bytes.now (c.in_ok-sender.sender, c.in_ok-sender.number) c.in_ok-jobs.jobs c.in_ok-tasks.tasks c.in_ok-machines.machines c.in_ok-machines.rest.now c.in_ok-entries.entries c.in_ok-entries.field-0-1.now before c.in_ok-entries.ensures in
    let took = (body_lawful c.args.version).takes c.args.bytes.now w c.in_ok-entries.field-0-1.now (λ i. omega (arith, c.type_inv.bytes i)) read in
    subst CanBe (sym c.of.ensures) (found_can_be c.args.version w c.in_ok-proposals.proposals took.has c.in_ok-proposals.ensures.entries c.in_ok-proposals.ensures.full)
