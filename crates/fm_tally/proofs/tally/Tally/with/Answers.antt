use Rattle.std.proofs.Common.{◌∙◌, ap}
use Rattle.std.specs.Ordering.{nat_cmp}
use Rattle.fm_lattice.specs.Maps.{lookup}
use Rattle.fm_records.specs.Facts.{open_state}
use Rattle.fm_net.proofs.NetworkLaws.{mapped_from, open_entry}
use Rattle.fm_tally.specs.declared.tally.OpenMachine.{OpenMachine}
use Rattle.fm_tally.specs.Tallies.{open_machine_at}
use Rattle.fm_tally.proofs.Rows.{lookup_rows}
use Rattle.fm_tally.proofs.tally.Tally.with.Goals as goal

pub returns : goal.returns
returns c =
    let k = c.args.knowledge.now in
    record {
      tasks = c.in_ok-tasks.ensures.tasks;
      machines = λ m.
          ap (lookup nat_cmp m) c.in_ok-machines.ensures
          ∙ lookup_rows (open_machine_at k) k.machines m (λ (w : OpenMachine) e. let s = mapped_from _ (open_state k m) w e in let v = open_entry k m s.0 s.1 in (v.0, v.1));
    }
