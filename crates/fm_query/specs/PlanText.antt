-- The texts of plans and of stops (this project's profile).
use Rattle.std.specs.Prelude.{◌≡◌, ℕ, List, ◌++◌, codes, decimal}
use Rattle.fm_records.specs.Ids.{id_text}
use Rattle.fm_records.specs.Table.{Table}
use Rattle.fm_round.specs.declared.plan.Place.{Place}
use Rattle.fm_round.specs.declared.plan.Preempt.{Preempt}
use Rattle.fm_round.specs.declared.plan.Plan.{Plan}
use Rattle.fm_round.specs.declared.plan.Stop.{Stop}
use Rattle.fm_round.specs.Schedules.{IsPlanOf}
use Rattle.fm_round.specs.Stopping.{stops_of}
use Rattle.fm_query.specs.TextLines.{text_of_lines}

-- run the task on the machine at its incarnation
abbrev pub place_text : Place → List ℕ
place_text p = codes "place " ++ (id_text p.task ++ (codes " " ++ (id_text p.machine ++ (codes " " ++ decimal p.incarnation))))

-- let the task's attempt run no longer
abbrev pub preempt_text : Preempt → List ℕ
preempt_text p = codes "preempt " ++ (id_text p.task ++ (codes " " ++ decimal p.attempt))

-- a line for each place, and then for each preempt
abbrev pub plan_text : Plan → List ℕ
plan_text plan = text_of_lines place_text plan.places ++ text_of_lines preempt_text plan.preempts

-- the text is that of the plan of a least flow of the network of what is known
pub record IsPlanText (k : Table) (text : List ℕ) : Type 0 where
  pub plan : Plan
  pub plan_of : IsPlanOf k plan
  pub is : text ≡ plan_text plan

-- an entry that is to run no longer: the task, its attempt, the machine and incarnation that it names
abbrev pub stop_text : Stop → List ℕ
stop_text s =
    codes "stop " ++ (id_text s.task ++ (codes " " ++ (decimal s.attempt ++ (codes " " ++ (id_text s.machine ++ (codes " " ++ decimal s.incarnation))))))

-- the entries of the coordinator that are to run no longer, a line each
abbrev pub stops_text : Table → ℕ → List ℕ
stops_text k coordinator = text_of_lines stop_text (stops_of k coordinator)
