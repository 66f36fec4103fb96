-- Coordinators at their places, and the replicas that they stand for.
use Rattle.std.proofs.Common.{◌≡◌, ◌<◌, ◌≤◌, ◌==◌, ℕ, zero, suc, Bool, true, false, cond, List, [], ◌∷◌, Option, Some, None, length, map, get_or, slice_set, position, refl, sym, ap, ◌∙◌, subst, arith, ltb-false}
use Rattle.std.specs.List.{position_or_len}
use Rattle.std.proofs.lemmas.List.Quantifiers.{position-Some}
use Rattle.std.proofs.lemmas.List.Sums.{fails_before_first}
use Rattle.fm_coord.proofs.StepLaws.{test_failed}
use Rattle.fm_coord.specs.Events.{Replica}
use Rattle.fm_coord.specs.States.{State, WithKeeper, Represents}
use Rattle.fm_world.specs.Worlds.{with_number, changed_at}
use Rattle.fm_world.specs.Represents.{state_of, number_of, AllStand, state_with}

-- a coordinator with the number stands for a replica with the number
pub record Stood (o : Option Replica) (s : State) : Type 0 where
  pub replica : Replica
  pub at : o ≡ Some replica
  pub stands : Represents s replica

stood_by : (b : Bool) (x s : State) (r : Replica) (os : Option State) (ors : Option Replica) → cond b (Some x) os ≡ Some s → Represents x r → (os ≡ Some s → Stood ors s) → Stood (cond b (Some r) ors) s
stood_by true x s r os ors e st rest = let same : x ≡ s = cc in record { replica = r; at = refl; stands = subst (λ t. Represents t r) same st }
stood_by false x s r os ors e st rest = rest e

absent_by : (b : Bool) (x : State) (r : Replica) (os : Option State) (ors : Option Replica) → cond b (Some x) os ≡ None → (os ≡ None → ors ≡ None) → cond b (Some r) ors ≡ None
absent_by true x r os ors e rest = absurd (let no : ⊥ = cc in no)
absent_by false x r os ors e rest = rest e

module _ (n : ℕ) where
  pub nowhere : {N : Type 0} (cs : List (WithKeeper N)) → ((k : ℕ) (d : WithKeeper N) → k < length cs → (number_of (get_or cs k d) == n) ≡ false) → state_with (map state_of cs) n ≡ None
  nowhere [] h = refl
  nowhere (c ∷ cs) h =
      ap (λ b. cond b (Some c.state) (state_with (map state_of cs) n)) (h 0 c (omega arith))
      ∙ nowhere cs (λ k d lt. h (suc k) d (omega arith))

  pub found : {N : Type 0} (cs : List (WithKeeper N)) (i : ℕ) (d : WithKeeper N) → i < length cs → (number_of (get_or cs i d) == n) ≡ true → ((k : ℕ) → k < i → (number_of (get_or cs k d) == n) ≡ false) → state_with (map state_of cs) n ≡ Some (state_of (get_or cs i d))
  found [] i d h is before = absurd (omega arith)
  found (c ∷ cs) zero d h is before = ap (λ b. cond b (Some c.state) (state_with (map state_of cs) n)) is
  found (c ∷ cs) (suc i) d h is before =
      ap (λ b. cond b (Some c.state) (state_with (map state_of cs) n)) (before 0 (omega arith))
      ∙ found cs i d (omega arith) is (λ k lt. before (suc k) (omega arith))

  pub stood : (ss : List State) (rs : List Replica) → AllStand ss rs → (s : State) → state_with ss n ≡ Some s → Stood (with_number rs n) s
  stood [] rs h s e = absurd (let no : ⊥ = cc in no)
  stood (x ∷ ss) [] h s e = absurd h
  stood (x ∷ ss) (r ∷ rs) h s e =
      subst (λ m. Stood (cond (m == n) (Some r) (with_number rs n)) s) h.0.number
      (stood_by (x.number == n) x s r (state_with ss n) (with_number rs n) e h.0 (stood ss rs h.1 s))

  pub absent : (ss : List State) (rs : List Replica) → AllStand ss rs → state_with ss n ≡ None → with_number rs n ≡ None
  absent [] [] h e = refl
  absent [] (r ∷ rs) h e = absurd h
  absent (x ∷ ss) [] h e = absurd h
  absent (x ∷ ss) (r ∷ rs) h e =
      subst (λ m. cond (m == n) (Some r) (with_number rs n) ≡ None) h.0.number
      (absent_by (x.number == n) x r (state_with ss n) (with_number rs n) e (absent ss rs h.1))

  pub put_back : {N : Type 0} (cs : List (WithKeeper N)) (rs : List Replica) (i : ℕ) (d new : WithKeeper N)
      (change : Replica → Replica) → AllStand (map state_of cs) rs → i < length cs → (number_of (get_or cs i d) == n) ≡ true →
      ((k : ℕ) → k < i → (number_of (get_or cs k d) == n) ≡ false) →
      ((r : Replica) → with_number rs n ≡ Some r → Represents new.state (change r)) → AllStand
      (map state_of (slice_set cs i new)) (changed_at n change rs)
  put_back [] rs i d new change h lt is before st = absurd (omega arith)
  put_back (c ∷ cs) [] i d new change h lt is before st = absurd h
  put_back (c ∷ cs) (r ∷ rs) zero d new change h lt is before st =
      let e : (r.number == n) ≡ true = ap (λ m. m == n) (sym h.0.number) ∙ is in
      subst (λ b. AllStand (new.state ∷ map state_of cs) (cond b (change r ∷ rs) (r ∷ changed_at n change rs))) (sym e)
      (st r (ap (λ b. cond b (Some r) (with_number rs n)) e), h.1)
  put_back (c ∷ cs) (r ∷ rs) (suc i) d new change h lt is before st =
      let e : (r.number == n) ≡ false = ap (λ m. m == n) (sym h.0.number) ∙ before 0 (omega arith) in
      subst (λ b. AllStand (c.state ∷ map state_of (slice_set cs i new)) (cond b (change r ∷ rs) (r ∷ changed_at n change rs))) (sym e)
      (h.0, put_back cs rs i d new change h.1 (omega arith) is (λ k lt. before (suc k) (omega arith)) (λ q at. st q (ap (λ b. cond b (Some r) (with_number rs n)) e ∙ at)))

pub same_states : {N : Type 0} (cs : List (WithKeeper N)) (i : ℕ) (d new : WithKeeper N) → i < length cs → new.state ≡ (get_or cs i d).state → map state_of (slice_set cs i new) ≡ map state_of cs
same_states [] i d new lt h = absurd (omega arith)
same_states (c ∷ cs) zero d new lt h = ap (λ (s : State). s ∷ map state_of cs) h
same_states (c ∷ cs) (suc i) d new lt h = ap (λ (ss : List State). c.state ∷ ss) (same_states cs i d new (omega arith) h)

-- the first of the coordinators that has the number
pub found_at : {N : Type 0} (cs : List (WithKeeper N)) (n i : ℕ) (c : WithKeeper N) → Some i ≡ position (λ d. number_of d == n) cs → c ≡ get_or cs i c → state_with (map state_of cs) n ≡ Some c.state
found_at {N = N} cs n i c at is =
    let place = position-Some (λ d. number_of d == n) cs i c (sym at) in
    found n cs i c place.0 place.1 place.2 ∙ ap (λ (d : WithKeeper N). Some d.state) (sym is)

pub missing : {N : Type 0} (cs : List (WithKeeper N)) (n : ℕ) → None ≡ position (λ d. number_of d == n) cs → state_with (map state_of cs) n ≡ None
missing cs n none =
    let far : length cs ≤ position_or_len (λ d. number_of d == n) cs = ltb-false (position_or_len (λ d. number_of d == n) cs) (length cs) (test_failed _ _ _ (sym none)) in
    nowhere n cs (λ k d lt. fails_before_first (λ d. number_of d == n) cs k d (omega arith))
