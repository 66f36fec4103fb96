use Rattle.std.proofs.Common.{ℕ, ◌≤◌, List, length, subst}
use Rattle.fm_records.proofs.Rows.{row_few}
use Rattle.fm_records.proofs.prefer.Prefer.entries.Goals as goal

pub returns-clause-few : goal.returns-clause-few
returns-clause-few c = subst (λ (l : List (ℕ × ℕ)). length l ≤ 4) c.self.view_is (row_few c.self.inside.len c.self.inside.row c.self.invariant)
