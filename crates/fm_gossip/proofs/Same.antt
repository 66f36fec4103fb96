-- Coordinators that exchanged all that they know, know the same: each took in what all had taken in.
use Rattle.std.proofs.Common.{◌≡◌, ◌⊎◌, ◌==◌, ℕ, not, cond, true, false, List, [], ◌∷◌, ◌++◌, map, refl, sym, ap, ◌∙◌, subst, inl, inr, append_assoc}
use Rattle.std.proofs.lemmas.List.{append-nil}
use Rattle.std.proofs.lemmas.Bool.{eqb-true}
use Rattle.fm_records.specs.declared.ops.Op.{Op}
use Rattle.fm_records.specs.Sets.{IsMember}
use Rattle.fm_records.specs.Table.{Table}
use Rattle.fm_records.specs.Know.{table_of}
use Rattle.fm_records.specs.Joined.{table_join}
use Rattle.fm_records.proofs.UnionLaws.{know_append}
use Rattle.fm_records.proofs.SetExtensionality.{know_same}
use Rattle.fm_coord.specs.declared.entry.Call.TheVariants as call
use Rattle.fm_coord.specs.declared.entry.Reply.TheVariants as reply
use Rattle.fm_coord.specs.Numbers.{AreDistinct}
use Rattle.fm_coord.specs.States.{State, IsCoordinator, history_entry, took, replay_of}
use Rattle.fm_world.specs.Listings.{AreCoordinators, number_in}
use Rattle.fm_gossip.specs.Exchanges.{whole_packet, cut_off, merged_in, of_others, told_by_others, after_exchange}
use Rattle.fm_gossip.specs.AfterExchange.{KnowSame}

-- members of lists

module _ {R : Type 0} where
  pub left : (x : R) (xs ys : List R) → IsMember x xs → IsMember x (xs ++ ys)
  left x [] ys m = absurd m
  left x (y ∷ xs) ys (inl e) = inl e
  left x (y ∷ xs) ys (inr m) = inr (left x xs ys m)

  pub right : (x : R) (xs ys : List R) → IsMember x ys → IsMember x (xs ++ ys)
  right x [] ys m = m
  right x (y ∷ xs) ys m = inr (right x xs ys m)

  pub either : (x : R) (xs ys : List R) → IsMember x (xs ++ ys) → IsMember x xs ⊎ IsMember x ys
  either x [] ys m = inr m
  either x (y ∷ xs) ys (inl e) = inl (inl e)
  either x (y ∷ xs) ys (inr m) = elim (either x xs ys m) [ inl a ↦ inl (inr a) | inr b ↦ inr b ]

pub mapped : {A B : Type 0} (f : A → B) (xs : List A) (x : A) → IsMember x xs → IsMember (f x) (map f xs)
mapped f [] x m = absurd m
mapped f (y ∷ xs) x (inl e) = inl (ap f e)
mapped f (y ∷ xs) x (inr m) = inr (mapped f xs x m)

came_from : {A B : Type 0} (f : A → B) (xs : List A) (y : B) → IsMember y (map f xs) → (x : A) × IsMember x xs × (f x ≡ y)
came_from f [] y m = absurd m
came_from f (x ∷ xs) y (inl e) = (x, inl refl, e)
came_from f (x ∷ xs) y (inr m) = let r = came_from f xs y m in (r.0, inr r.1, r.2)

-- coordinators one by one

pub of_member : (ss : List State) (s : State) → AreCoordinators ss → IsMember s ss → IsCoordinator s
of_member [] s c m = absurd m
of_member (x ∷ xs) s c (inl e) = subst IsCoordinator e c.0
of_member (x ∷ xs) s c (inr m) = of_member xs s c.1 m

same_one : (ss : List State) (r s : State) → AreDistinct (map number_in ss) → IsMember r ss → IsMember s ss → r.number ≡ s.number → r ≡ s
same_one [] r s d m k e = absurd m
same_one (x ∷ xs) r s d (inl a) (inl b) e = sym a ∙ b
same_one (x ∷ xs) r s d (inl a) (inr k) e = absurd (d.0 (subst (λ n. IsMember n (map number_in xs)) (sym e ∙ sym (ap number_in a)) (mapped number_in xs s k)))
same_one (x ∷ xs) r s d (inr m) (inl b) e = absurd (d.0 (subst (λ n. IsMember n (map number_in xs)) (e ∙ sym (ap number_in b)) (mapped number_in xs r m)))
same_one (x ∷ xs) r s d (inr m) (inr k) e = same_one xs r s d.1 m k e

-- what a coordinator took in, and what those of other numbers did
abbrev taken_of : State → List Op
taken_of s = (replay_of s).taken

abbrev of_rest : ℕ → List State → List Op
of_rest n [] = []
of_rest n (s ∷ ss) = cond (not (s.number == n)) (taken_of s ++ of_rest n ss) (of_rest n ss)

joined : (k l : Table) (S T : List Op) → k ≡ table_of S → l ≡ table_of T → table_join k l ≡ table_of (S ++ T)
joined k l S T a b = (λ i. table_join (a i) (b i)) ∙ sym (know_append S T)

-- merging the packets of the others comes to knowing what they took in
knows_more : (n : ℕ) (ss : List State) → AreCoordinators ss → (t : State) (S : List Op) → t.knowledge ≡ table_of S
    → (merged_in t (of_others n (map whole_packet ss))).knowledge ≡ table_of (S ++ of_rest n ss)
knows_more n [] c t S h = h ∙ ap table_of (sym (append-nil S))
knows_more n (s ∷ ss) c t S h =
    elim (not (s.number == n)) as (λ b. (merged_in t (cond b (whole_packet s ∷ of_others n (map whole_packet ss)) (of_others n (map whole_packet ss)))).knowledge ≡ table_of (S ++ cond b (taken_of s ++ of_rest n ss) (of_rest n ss))) [
      | true ↦
          knows_more n ss c.1 (took t s.knowledge (history_entry 0 (call.Merge (whole_packet s)) reply.Nothing)) (S ++ taken_of s) (joined t.knowledge s.knowledge S (taken_of s) h c.0.stands.knowledge)
          ∙ ap table_of (append_assoc S (taken_of s) (of_rest n ss))
      | false ↦ knows_more n ss c.1 t S h
    ]

-- one of the coordinators took the operation in
abbrev IsTaken : Op → List State → Type 0
IsTaken x ss = (r : State) × IsMember r ss × IsMember x (taken_of r)

from_rest : (n : ℕ) (ss : List State) (x : Op) → IsMember x (of_rest n ss) → IsTaken x ss
from_rest n [] x m = absurd m
from_rest n (s ∷ ss) x m =
    let later : IsTaken x ss → IsTaken x (s ∷ ss) = λ r. (r.0, inr r.1, r.2) in
    elim (not (s.number == n)) as (λ b. IsMember x (cond b (taken_of s ++ of_rest n ss) (of_rest n ss)) → IsTaken x (s ∷ ss)) [
      | true ↦ λ h. elim (either x (taken_of s) (of_rest n ss) h) [ inl a ↦ (s, inl refl, a) | inr b ↦ later (from_rest n ss x b) ]
      | false ↦ λ h. later (from_rest n ss x h)
    ] m

to_rest : (n : ℕ) (ss : List State) (r : State) (x : Op) → (r.number == n) ≡ false → IsMember r ss → IsMember x (taken_of r) → IsMember x (of_rest n ss)
to_rest n [] r x e m k = absurd m
to_rest n (s ∷ ss) r x e (inl a) k =
    let other : true ≡ not (s.number == n) = sym (ap not (ap (λ z. z.number == n) a ∙ e)) in
    subst (λ b. IsMember x (cond b (taken_of s ++ of_rest n ss) (of_rest n ss))) other (left x (taken_of s) (of_rest n ss) (subst (λ z. IsMember x (taken_of z)) (sym a) k))
to_rest n (s ∷ ss) r x e (inr m) k =
    let later = to_rest n ss r x e m k in
    elim (not (s.number == n)) as (λ b. IsMember x (cond b (taken_of s ++ of_rest n ss) (of_rest n ss))) [ true ↦ right x (taken_of s) (of_rest n ss) later | false ↦ later ]

module _ (ss : List State) (c : AreCoordinators ss) (d : AreDistinct (map number_in ss)) where
  -- its own operations and those of the others are all that were taken in
  from_all : (s : State) → IsMember s ss → (x : Op) → IsMember x (taken_of s ++ of_rest s.number ss) → IsTaken x ss
  from_all s m x h = elim (either x (taken_of s) (of_rest s.number ss) h) [ inl a ↦ (s, m, a) | inr b ↦ from_rest s.number ss x b ]

  to_all : (s : State) → IsMember s ss → (x : Op) → IsTaken x ss → IsMember x (taken_of s ++ of_rest s.number ss)
  to_all s m x (r, k, h) =
      elim (r.number == s.number) as (λ b. (r.number == s.number) ≡ b → IsMember x (taken_of s ++ of_rest s.number ss)) [
        | true ↦ λ e. left x (taken_of s) (of_rest s.number ss) (subst (λ z. IsMember x (taken_of z)) (same_one ss r s d k m (eqb-true r.number s.number e)) h)
        | false ↦ λ e. right x (taken_of s) (of_rest s.number ss) (to_rest s.number ss r x e k h)
      ] refl

  -- a coordinator after the exchange knows the operations of one before and those of the others
  knows_all : (u : State) → IsMember u (after_exchange ss) → (s : State) × IsMember s ss × (u.knowledge ≡ table_of (taken_of s ++ of_rest s.number ss))
  knows_all u m =
      let last = came_from (told_by_others (map whole_packet ss)) (map cut_off ss) u m in
      let first = came_from cut_off ss last.0 last.1 in
      let s = first.0 in
      let more = knows_more s.number ss c (cut_off s) (taken_of s) (of_member ss s c first.1).stands.knowledge in
      (s, first.1, sym (ap (λ z. z.knowledge) (ap (told_by_others (map whole_packet ss)) first.2 ∙ last.2)) ∙ more)

  pub know_same_after : KnowSame (after_exchange ss)
  know_same_after u v mu mv =
      let a = knows_all u mu in
      let b = knows_all v mv in
      a.2
      ∙ know_same (taken_of a.0 ++ of_rest a.0.number ss) (taken_of b.0 ++ of_rest b.0.number ss) (λ x h. to_all b.0 b.1 x (from_all a.0 a.1 x h), λ x h. to_all a.0 a.1 x (from_all b.0 b.1 x h))
      ∙ sym b.2
