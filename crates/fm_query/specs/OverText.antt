-- The machines whose held tasks request more than their bandwidth, as lines (this project's profile).
use Rattle.std.specs.Prelude.{ℕ, List, ◌++◌, codes, decimal}
use Rattle.std.specs.List.{flat_map}
use Rattle.fm_records.specs.Ids.{id_text}
use Rattle.fm_records.specs.Table.{Table}
use Rattle.fm_relief.specs.declared.held_task.HeldTask.{HeldTask}
use Rattle.fm_relief.specs.declared.relief.OverfullMachine.{OverfullMachine}
use Rattle.fm_relief.specs.Relief.{relief_of}
use Rattle.fm_query.specs.TextLines.{text_of_lines}

-- over MACHINE HELD NIC: what the tasks that it holds request, and its bandwidth
abbrev pub over_line : OverfullMachine → List ℕ
over_line o = codes "over " ++ (id_text o.machine ++ (codes " " ++ (decimal o.held ++ (codes " " ++ (decimal o.nic ++ codes "\n")))))

-- preempt TASK ATTEMPT REQUEST PRICE
abbrev pub relief_text : HeldTask → List ℕ
relief_text t = codes "preempt " ++ (id_text t.task ++ (codes " " ++ (decimal t.attempt ++ (codes " " ++ (decimal t.request ++ (codes " " ++ decimal t.price))))))

-- the line of a machine, and those of the tasks that its relief preempts
abbrev pub over_lines : OverfullMachine → List ℕ
over_lines o = over_line o ++ text_of_lines relief_text o.preempts

-- those of each machine that the relief of what is known concerns
abbrev pub over_text : Table → List ℕ
over_text k = flat_map over_lines (relief_of k)
