-- The part of a plan that a coordinator carries out (this project's profile).
use Rattle.std.specs.Prelude.{◌≡◌, ◌⊎◌, ℕ, Bool, true, false, cond, nat_lt, ◌==◌, List, [], ◌∷◌, ◌++◌, Option, Some, None, filter, map, count_by}
use Rattle.std.specs.List.{list_any, range_with_len, slice_index_or}
use Rattle.fm_records.specs.Options.{passes}
use Rattle.fm_records.specs.Table.{Table}
use Rattle.fm_records.specs.Facts.{spec_of}
use Rattle.fm_round.specs.declared.plan.Place.{Place}
use Rattle.fm_round.specs.declared.plan.Plan.{Plan}
use Rattle.fm_share.specs.declared.writers.Writers.{Writers}
use Rattle.fm_share.specs.declared.share.Share.{Share}

-- the number is listed
abbrev pub is_in : ℕ → List ℕ → Bool
is_in n listed = list_any (λ m. m == n) listed

-- the number is in the set
abbrev pub is_writer : Writers → ℕ → Bool
is_writer writers n = slice_index_or writers.is_listed n false

-- the set of the numbers that are listed, none of which is above 64
unfoldable pub writers_of : List ℕ → Writers
writers_of listed = record { is_listed = map (λ n. is_in n listed) (range_with_len 0 65) }

-- one of the writers wrote the task's spec, which is known
abbrev pub is_written_by : Table → Writers → ℕ → Bool
is_written_by k writers t = passes (λ s. is_writer writers s.writer) (spec_of k t)

-- the task is one of the writers', if writers are named
abbrev pub has_task : Table → Option Writers → ℕ → Bool
has_task k None t = true
has_task k (Some writers) t = is_written_by k writers t

-- the places on the machine
abbrev pub on_machine : ℕ → List Place → List Place
on_machine m = filter (λ p. p.machine == m)

-- how many of the places are on the machine
abbrev pub count_on : ℕ → List Place → ℕ
count_on m = count_by (λ p. p.machine == m)

-- of the later places, those before which fewer than `each` are on their machine
abbrev pub first_on_each : ℕ → List Place → List Place → List Place
first_on_each each before [] = []
first_on_each each before (p ∷ later) =
    let rest = first_on_each each (before ++ p ∷ []) later in
    cond (nat_lt (count_on p.machine before) each) (p ∷ rest) rest

-- at most so many places on each machine, the first ones; all of them if there is no limit
abbrev pub at_most_on_each : Option ℕ → List Place → List Place
at_most_on_each None places = places
at_most_on_each (Some each) places = first_on_each each [] places

-- the part of a plan that a share is: the places and the preempts of its writers' tasks, in their order, and of these
-- places at most so many on each machine
abbrev pub share_of : Table → Share → Plan → Plan
share_of k share plan = record {
  places = at_most_on_each share.each (filter (λ p. has_task k share.writers p.task) plan.places);
  preempts = filter (λ p. has_task k share.writers p.task) plan.preempts;
}

-- all of a plan
abbrev pub whole : Share
whole = record { writers = None; each = None }

-- the first list is the second with some of its items left out, or none
abbrev pub IsSublist : {A : Type 0} → List A → List A → Type 0
IsSublist [] ys = Unit {0}
IsSublist (x ∷ xs) [] = ⊥
IsSublist (x ∷ xs) (y ∷ ys) = ((x ≡ y) × IsSublist xs ys) ⊎ IsSublist (x ∷ xs) ys
