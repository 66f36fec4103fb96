-- A walk over the tasks that changed, beside the tasks of an earlier table.
use Rattle.std.proofs.Common.{◌≡◌, ◌∙◌, ◌++◌, ◌∷◌, [], ℕ, List, cond, Option, Some, None, filter, option_map, sym, ap, subst, refl, append_assoc, inl, inr}
use Rattle.std.specs.List.{cons_option}
use Rattle.std.specs.Ordering.{nat_cmp, is_eq}
use Rattle.std.specs.Cmp.{nat_cmp_total}
use Rattle.std.specs.declared.cmp.Ordering.{Ordering}
use Rattle.std.specs.declared.cmp.Ordering.TheVariants.{Less, Equal, Greater}
use Rattle.std.proofs.lemmas.Cmp.{tied_itself}
use Rattle.fm_lattice.specs.laws.ChainLaws.{by_cases, nat_same}
use Rattle.fm_lattice.specs.Maps.{lookup, IsRising}
use Rattle.fm_records.specs.Options.{and_then, or_else}
use Rattle.fm_records.specs.Orders.{attempt_cmp}
use Rattle.fm_records.specs.Sets.{IsMember}
use Rattle.fm_records.specs.Table.{Table, TaskValue}
use Rattle.fm_records.specs.Rising.{Rises, IsBelowAll}
use Rattle.fm_records.specs.declared.records.Spot.{Spot}
use Rattle.fm_records.specs.Know.{initial_progress}
use Rattle.fm_records.specs.Facts.{head_option}
use Rattle.fm_tally.specs.declared.unfinished.UnfinishedTask.{UnfinishedTask}
use Rattle.fm_tally.specs.inner.Sides.{is_under, is_over}
use Rattle.fm_tally.specs.Tallies.{unfinished_spec}
use Rattle.fm_tally.specs.Unfinished.{task_with, unfinished_at, AreUnfinished, AreBehind}
use Rattle.fm_tally.proofs.Sides.{AreUnder, told_at, rising_told, lookup_told, told_split, under_told}

-- an unfinished task by its record and the entries for its attempts
abbrev pub shape : Option TaskValue → (ℕ → Option (List (ℕ × Spot))) → Option UnfinishedTask
shape o entries =
    option_map (λ s. task_with s (option_map (λ w. w.1) (head_option (or_else [] (entries (or_else initial_progress (option_map (λ (v : TaskValue). v.1) o)).attempt)))))
    (and_then unfinished_spec o)

unchanged : (k now : Table) (t : ℕ) → lookup nat_cmp t now.tasks ≡ lookup nat_cmp t k.tasks
    → ((a : ℕ) → lookup attempt_cmp (t, a) now.proposals ≡ lookup attempt_cmp (t, a) k.proposals) → unfinished_at now t ≡ unfinished_at k t
unchanged k now t told entries = λ i. shape (told i) (λ a. entries a i)

-- the pairs are those of the table but at the keys to come
pub record IsFollowing (k : Table) (keys : List ℕ) (found rest : List (ℕ × UnfinishedTask)) : Type 0 where
  pub rising : IsRising nat_cmp (found ++ rest)
  pub keys_rise : Rises nat_cmp keys
  pub under : (y : ℕ) → IsMember y keys → AreUnder y found
  pub right : (q : ℕ) → (IsMember q keys → ⊥) → lookup nat_cmp q (found ++ rest) ≡ unfinished_at k q

pub following_begins : (k : Table) (keys : List ℕ) (tasks : List (ℕ × UnfinishedTask)) → IsRising nat_cmp tasks → AreBehind k keys tasks → IsFollowing k keys [] tasks
following_begins k keys tasks rising behind = record {
  rising = rising;
  keys_rise = behind.rises;
  under = λ y m. tt;
  right = λ q apart. behind.are q ∙ sym (unchanged behind.before k q (behind.same_tasks q apart) (λ a. behind.same_proposals q a apart));
}

member_over : (x y : ℕ) (keys : List ℕ) → IsBelowAll nat_cmp x keys → IsMember y keys → nat_cmp x y ≡ Less
member_over x y [] b m = absurd m
member_over x y (z ∷ keys) b m = elim m [ inl is ↦ subst (λ w. nat_cmp x w ≡ Less) is b.0 | inr later ↦ member_over x y keys b.1 later ]

joined : (x : ℕ) (xs : List (ℕ × UnfinishedTask)) (o : Option UnfinishedTask) (ys : List (ℕ × UnfinishedTask)) → (xs ++ cons_option (option_map (λ v. (x, v)) o) []) ++ ys ≡ xs ++ cons_option (option_map (λ v. (x, v)) o) ys
joined x xs None ys = append_assoc xs [] ys
joined x xs (Some v) ys = append_assoc xs ((x, v) ∷ []) ys

module _ (k : Table) (x : ℕ) (keys : List ℕ) (found rest : List (ℕ × UnfinishedTask)) (following : IsFollowing k (x ∷ keys) found rest) where
  abbrev new : List (ℕ × UnfinishedTask)
  new = told_at x (unfinished_at k x) (found ++ rest)

  apart_from : (q : ℕ) (r : Ordering) → nat_cmp q x ≡ r → (r ≡ Equal → ⊥) → x ≡ q → ⊥
  apart_from q r is differ same = differ (sym is ∙ ap (nat_cmp q) same ∙ tied_itself nat_cmp_total q)

  right_after : (q : ℕ) → (IsMember q keys → ⊥) → lookup nat_cmp q new ≡ unfinished_at k q
  right_after q apart =
      let told = lookup_told q x (unfinished_at k x) (found ++ rest) following.rising in
      told ∙ by_cases (nat_cmp q x) (λ r. nat_cmp q x ≡ r → cond (is_eq r) (unfinished_at k x) (lookup nat_cmp q (found ++ rest)) ≡ unfinished_at k q)
      (λ _ less. following.right q (λ m. elim m [ inl is ↦ apart_from q Less less (λ e. let no : ⊥ = cc in no) is | inr later ↦ apart later ]))
      (λ _ same. ap (unfinished_at k) (sym (nat_same q x same)))
      (λ _ greater. following.right q (λ m. elim m [ inl is ↦ apart_from q Greater greater (λ e. let no : ⊥ = cc in no) is | inr later ↦ apart later ]))
      refl

  -- the next key is told
  pub following_on : (found3 rest2 : List (ℕ × UnfinishedTask))
      → found3 ≡ (found ++ filter (is_under x) rest) ++ cons_option (option_map (λ v. (x, v)) (unfinished_at k x)) []
      → rest2 ≡ filter (is_over x) rest
      → IsFollowing k keys found3 rest2
  following_on found3 rest2 is left =
      let o = unfinished_at k x in
      let under = following.under x (inl refl) in
      let whole : found3 ++ rest2 ≡ new =
      ap (λ xs. xs ++ rest2) is ∙ ap (λ ys. ((found ++ filter (is_under x) rest) ++ cons_option (option_map (λ v. (x, v)) o) []) ++ ys) left
      ∙ joined x (found ++ filter (is_under x) rest) o (filter (is_over x) rest) ∙ sym (told_split x o found rest under) in
      record {
        rising = subst (IsRising nat_cmp) (sym whole) (rising_told x o (found ++ rest) following.rising);
        keys_rise = following.keys_rise.1;
        under = λ y m. subst (AreUnder y) (sym is) (under_told x y o found rest (member_over x y keys following.keys_rise.0 m) under);
        right = λ q apart. ap (lookup nat_cmp q) whole ∙ right_after q apart;
      }

pub following_ends : (k : Table) (found rest : List (ℕ × UnfinishedTask)) → IsFollowing k [] found rest → AreUnfinished k (found ++ rest)
following_ends k found rest following q = following.right q (λ m. m)
