use Rattle.std.proofs.Common.{ℕ, ◌<◌, ◌^◌, List, length, ◌++◌, ap, subst, ◌∙◌}
use Rattle.fm_records.specs.declared.records.JobReg.{JobReg}
use Rattle.fm_records.specs.declared.records.Spot.{Spot}
use Rattle.fm_records.specs.Table.{TaskValue, MachineValue}
use Rattle.fm_wire.specs.declared.version.Version.TheVariants.{Fdg2}
use Rattle.fm_wire.specs.Grammar.{lists_of, flat_of, jobs, task_list, machines, entry_list}
use Rattle.fm_wire.proofs.Parts.{spelled_parts}
use Rattle.fm_wire.proofs.writing.encode.Goals as goal

pub returns-clause-spelling : goal.returns-clause-spelling
returns-clause-spelling c =
    let proposals = c.in_ok-entries_in.ensures ∙ ap flat_of c.proposals.ensures in
    spelled_parts (lists_of c.args.packet.now) c.new-bytes.result.items c.put_u32.new.out.items c.put_header.new.out.items c.put_map.new.out.items c.put_map-2.new.out.items c.put_map-3.new.out.items c.put_map-5.new.out.items
    c.new-bytes.ensures.items c.in_ok-put_u32.ensures c.in_ok-put_header.ensures.ok
    (c.in_ok-put_map.ensures.ok ∙ ap (λ z. c.put_header.new.out.items ++ jobs.spell z) c.jobs.ensures)
    (c.in_ok-put_map-2.ensures.ok ∙ ap (λ z. c.put_map.new.out.items ++ (task_list Fdg2).spell z) c.tasks.ensures)
    (c.in_ok-put_map-3.ensures.ok ∙ ap (λ z. c.put_map-2.new.out.items ++ machines.spell z) c.machines.ensures)
    (c.in_ok-put_map-4.ensures.ok ∙ ap (λ z. c.put_map-3.new.out.items ++ entry_list.spell z) proposals)

pub returns-clause-packet : goal.returns-clause-packet
returns-clause-packet c = λ _.
    let proposals = c.in_ok-entries_in.ensures ∙ ap flat_of c.proposals.ensures in
    record {
      sender = c.in_ok-put_header.ensures.sender;
      number = c.in_ok-put_header.ensures.number;
      value = c.known.ensures;
      jobs = subst (λ (es : List (ℕ × JobReg)). length es < 2 ^ 64) c.jobs.ensures c.in_ok-put_map.ensures.fits;
      tasks = subst (λ (es : List (ℕ × TaskValue)). length es < 2 ^ 64) c.tasks.ensures c.in_ok-put_map-2.ensures.fits;
      machines = subst (λ (es : List (ℕ × MachineValue)). length es < 2 ^ 64) c.machines.ensures c.in_ok-put_map-3.ensures.fits;
      entries = subst (λ (es : List (((ℕ × ℕ) × ℕ) × Spot)). length es < 2 ^ 64) proposals c.in_ok-put_map-4.ensures.fits;
    }
