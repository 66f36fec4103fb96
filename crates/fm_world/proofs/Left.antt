-- The numbers of the coordinators that are left, from the first on.
use Rattle.std.proofs.Common.{◌≡◌, ◌<◌, ◌≤◌, ◌++◌, ◌∷◌, [], ◌∙◌, ℕ, List, length, map, sym, ap, rules}
use Rattle.std.specs.Prelude.{cond}
use Rattle.std.proofs.lemmas.Bool.{lt-ltb, le-ltb}
use Rattle.std.proofs.lemmas.List.{append-nil, append_assoc}
use Rattle.fm_coord.specs.States.{State}
use Rattle.fm_world.specs.inner.Sweeps.{left_at}

-- of no coordinators none is left
pub left_none : {C : Type 0} (f : C → State) (xs : List C) (ns : List ℕ) → length xs ≡ 0 → (l : List ℕ) → l ≡ l ++ left_at (map f xs) ns
left_none f [] ns is l = sym (append-nil l)
left_none f (x ∷ xs) ns is l = search rules

-- nor from no places on
pub left_nowhere : {C : Type 0} (f : C → State) (xs : List C) (ns : List ℕ) → length ns ≡ 0 → (l : List ℕ) → l ≡ l ++ left_at (map f xs) ns
left_nowhere f [] ns is l = sym (append-nil l)
left_nowhere f (x ∷ xs) [] is l = sym (append-nil l)
left_nowhere f (x ∷ xs) (n ∷ ns) is l = search rules

-- the first has entries from its place on
pub left_first : {C : Type 0} (f : C → State) (x : C) (xs : List C) (n : ℕ) (ns l : List ℕ) → n < length (f x).history → (l ++ (f x).number ∷ []) ++ left_at (map f xs) ns ≡ l ++ left_at (map f (x ∷ xs)) (n ∷ ns)
left_first f x xs n ns l has =
    append_assoc l ((f x).number ∷ []) (left_at (map f xs) ns)
    ∙ ap (λ b. l ++ cond b ((f x).number ∷ left_at (map f xs) ns) (left_at (map f xs) ns)) (sym (lt-ltb n (length (f x).history) has))

-- it has none
pub left_further : {C : Type 0} (f : C → State) (x : C) (xs : List C) (n : ℕ) (ns l : List ℕ) → length (f x).history ≤ n → l ++ left_at (map f xs) ns ≡ l ++ left_at (map f (x ∷ xs)) (n ∷ ns)
left_further f x xs n ns l has = ap (λ b. l ++ cond b ((f x).number ∷ left_at (map f xs) ns) (left_at (map f xs) ns)) (sym (le-ltb n (length (f x).history) has))
