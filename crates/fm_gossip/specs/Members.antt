-- What contracts see of the members of a fleet (this project's profile).
use Rattle.std.specs.Prelude.{ℕ, ◌==◌, not, List, map, filter}
use Rattle.fm_records.specs.declared.ops.Op.{Op}
use Rattle.fm_gossip.specs.Served.{Task, member_task}

-- a coordinator's number, how many entries its history may have, and the operations that it is to be told
pub record MemberModel : Type 0 where
  pub number : ℕ
  pub limit : ℕ
  pub tells : List Op

abbrev pub member : ℕ → ℕ → List Op → MemberModel
member number limit tells = record { number = number; limit = limit; tells = tells }

abbrev pub member_number : MemberModel → ℕ
member_number m = m.number

-- the numbers but for this one, in order
abbrev pub but_for : ℕ → List ℕ → List ℕ
but_for n ns = filter (λ k. not (k == n)) ns

-- what a member is to do among members with these numbers: a packet comes from each of the others
abbrev pub task_of : List ℕ → ℕ → MemberModel → Task
task_of numbers rounds m = member_task m.number m.limit m.tells (but_for m.number numbers) rounds

-- what each member is to do
abbrev pub member_tasks : ℕ → List MemberModel → List Task
member_tasks rounds ms = map (task_of (map member_number ms) rounds) ms
