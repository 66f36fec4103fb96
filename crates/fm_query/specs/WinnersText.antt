-- The text that says who won (this project's profile).
use Rattle.std.specs.Prelude.{ℕ, ◌==◌, List, [], ◌++◌, cond, codes, decimal, Option, Some, None, option_map}
use Rattle.std.specs.List.{flat_map}
use Rattle.fm_know.specs.declared.facts.Winner.{Winner}
use Rattle.fm_know.specs.Winners.{as_winner}
use Rattle.fm_records.specs.Ids.{id_text}
use Rattle.fm_records.specs.Table.{Table}
use Rattle.fm_records.specs.Facts.{attempt_of, winner_of, holder_of}

-- whether a machine holds the task
abbrev pub held_text : Option ℕ → List ℕ
held_text None = codes " free\n"
held_text (Some machine) = codes " held\n"

-- a task, its attempt, the coordinator that won it, the machine and incarnation that it named, and whether one holds it
abbrev pub won_text : ℕ → ℕ → Winner → Option ℕ → List ℕ
won_text task attempt winner holder =
    id_text task ++ (codes " " ++ (decimal attempt ++ (codes " " ++ (decimal winner.coordinator ++ (codes " "
    ++ (id_text winner.machine ++ (codes " " ++ (decimal winner.incarnation ++ held_text holder))))))))

abbrev pub won_line : Table → ℕ × ℕ → Option Winner → List ℕ
won_line k at None = []
won_line k at (Some winner) = won_text at.0 at.1 winner (holder_of k at.0)

-- the line of a task's attempt, if it is the present one and has a winner
abbrev pub attempt_line : Table → ℕ × ℕ → List ℕ
attempt_line k at = cond (at.1 == attempt_of k at.0) (won_line k at (option_map as_winner (winner_of k at.0 at.1))) []

-- the lines of all attempts that have a proposal, by task
abbrev pub winners_text : Table → List ℕ
winners_text k = flat_map (λ e. attempt_line k e.0) k.proposals
