-- What a delta calls to be looked up is dirty.
use Rattle.std.specs.Prelude.{◌≡◌, ℕ, true, ◌||◌, List, [], ◌∷◌, ◌++◌, map, refl}
use Rattle.std.specs.Ordering.{nat_cmp}
use Rattle.std.specs.Cmp.{nat_cmp_total}
use Rattle.std.proofs.Common.{ap, inl, inr, subst}
use Rattle.fm_lattice.specs.laws.ChainLaws.{nat_same}
use Rattle.fm_records.specs.Options.{passes}
use Rattle.fm_records.specs.Sets.{IsMember}
use Rattle.fm_records.specs.Table.{Table}
use Rattle.fm_records.specs.Facts.{attempt_of}
use Rattle.fm_net.proofs.ListLaws.{has_member}
use Rattle.fm_policy.specs.Changes.{Keys}
use Rattle.fm_edit.specs.declared.look.Key.{Key}
use Rattle.fm_edit.specs.declared.look.Key.TheVariants.{Job, Task, Machine, Winner}
use Rattle.fm_edit.specs.Dirty.{has_id, job_of_task, won_machine, dirty_task}
use Rattle.fm_edit.specs.Lookups.{looks_of, IsDirtyKey}

-- a fact of each of the first and of each of the second is one of each of both
pub each_of_both : {Y : Type 0} (P : Y → Type 0) (xs ys : List Y) → ((y : Y) → IsMember y xs → P y) → ((y : Y) → IsMember y ys → P y) → (y : Y) → IsMember y (xs ++ ys) → P y
each_of_both P [] ys p q y h = q y h
each_of_both P (x ∷ xs) ys p q y h = elim h [ inl is ↦ p y (inl is) | inr later ↦ each_of_both P xs ys (λ z g. p z (inr g)) q y later ]

module _ {X Y : Type 0} (P : Y → Type 0) where
  pub each_mapped : (f : X → Y) (xs : List X) → ((x : X) → IsMember x xs → P (f x)) → (y : Y) → IsMember y (map f xs) → P y
  each_mapped f [] p y h = absurd h
  each_mapped f (x ∷ xs) p y h = elim h [ inl is ↦ subst P is (p x (inl refl)) | inr later ↦ each_mapped f xs (λ z g. p z (inr g)) y later ]

module _ (k after : Table) (keys : Keys) (turned : List ℕ) where
  told : (keys : List ℕ) (q : ℕ) → IsMember q keys → has_id keys q ≡ true
  told keys q h = has_member nat_cmp nat_cmp_total nat_same q keys h

  told_is_dirty : (t : ℕ) → IsMember t keys.tasks → dirty_task k after keys turned t ≡ true
  told_is_dirty t h =
      ap (λ b. b || passes (has_id keys.jobs) (job_of_task k t) || passes (has_id keys.jobs) (job_of_task after t) || passes (has_id turned) (won_machine k t) || passes (has_id turned) (won_machine after t))
      (told keys.tasks t h)

  pub looks_are_dirty : (x : Key) → IsMember x (looks_of after keys) → IsDirtyKey k after keys turned x
  looks_are_dirty =
      each_of_both (IsDirtyKey k after keys turned) (map Machine keys.machines) _
      (each_mapped (IsDirtyKey k after keys turned) Machine keys.machines (λ m h. inl (told keys.machines m h)))
      (each_of_both (IsDirtyKey k after keys turned) (map Job keys.jobs) _
      (each_mapped (IsDirtyKey k after keys turned) Job keys.jobs (λ j h. inl (told keys.jobs j h)))
      (each_of_both (IsDirtyKey k after keys turned) (map Task keys.tasks) _
      (each_mapped (IsDirtyKey k after keys turned) Task keys.tasks told_is_dirty)
      (each_mapped (IsDirtyKey k after keys turned) (λ t. Winner t (attempt_of after t)) keys.tasks told_is_dirty)))
