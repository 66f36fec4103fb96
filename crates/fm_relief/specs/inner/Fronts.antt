-- Fronts of lists of tasks: those without which the others fit.
use Rattle.std.specs.Prelude.{ℕ, cond, nat_lt, List, [], ◌∷◌, sum_by}
use Rattle.fm_relief.specs.declared.held_task.HeldTask.{HeldTask}

-- the tasks before the first that fits with all behind it
abbrev pub front : ℕ → List HeldTask → List HeldTask
front nic [] = []
front nic (x ∷ xs) = cond (nat_lt nic (sum_by (λ e. e.request) (x ∷ xs))) (x ∷ front nic xs) []
