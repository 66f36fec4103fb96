-- The seats of a request, as a walk over a flow finds them, never fall; nor do the machines of its tasks, where they go in turn.
use Rattle.std.proofs.Common.{◌≡◌, ◌∙◌, ap, sym, subst, refl, inl, inr, ℕ, ◌<◌, ◌≤◌, zero, suc, true, false, cond, ◌==◌, List, [], ◌∷◌, ◌++◌, Some, eqb-true, arith}
use Rattle.std.specs.Prelude.{map, zip}
use Rattle.std.specs.List.{cons_option}
use Rattle.std.specs.Ordering.{nat_cmp, is_eq, ordering_then}
use Rattle.std.specs.Cmp.{ranked, nat_cmp_total}
use Rattle.std.specs.declared.cmp.Ordering.TheVariants.{Less, Equal, Greater}
use Rattle.std.proofs.lemmas.Cmp.{tied_itself}
use Rattle.std.proofs.lemmas.List.Elements.{filter_map-append}
use Rattle.fm_lattice.specs.laws.ChainLaws.{by_cases, nat_same}
use Rattle.fm_lattice.specs.Maps.{lookup, IsBelow, IsRising}
use Rattle.fm_records.specs.Options.{when}
use Rattle.fm_records.specs.Sets.{IsMember}
use Rattle.fm_records.specs.Rising.{IsBelowAll, Rises}
use Rattle.fm_net.specs.declared.node.Node.{Node}
use Rattle.fm_net.specs.declared.node.Node.TheVariants.{Request, Machine}
use Rattle.fm_net.specs.Nodes.{node_cmp, ends_cmp}
use Rattle.fm_net.specs.laws.NodeOrder.{node_total}
use Rattle.fm_round.specs.PlanOfFlow.{ArcUnits, seats_in, seats, machines_of}
use Rattle.fm_paths.proofs.Orders.{AreFrom, NeverFalls}

module _ (r : ℕ) where
  -- seats of one arc, before others
  seats_from : (n q m u : ℕ) (xs : List ℕ) → (q ≡ r → n ≤ m) → AreFrom n xs → AreFrom n (machines_of r (seats_in ((Request q, Machine m), u)) ++ xs)
  seats_from n q m zero xs le from = from
  seats_from n q m (suc u) xs le from =
      let rest = seats_from n q m u xs le from in
      elim (q == r) as (λ b. (q == r) ≡ b → AreFrom n (cons_option (when b m) (machines_of r (seats_in ((Request q, Machine m), u))) ++ xs)) [
        | true ↦ λ e. (le (eqb-true q r e), rest)
        | false ↦ λ _. rest
      ] refl

  seats_fall : (q m u : ℕ) (xs : List ℕ) → (q ≡ r → AreFrom m xs) → NeverFalls xs → NeverFalls (machines_of r (seats_in ((Request q, Machine m), u)) ++ xs)
  seats_fall q m zero xs from falls = falls
  seats_fall q m (suc u) xs from falls =
      let rest = seats_fall q m u xs from falls in
      elim (q == r) as (λ b. (q == r) ≡ b → NeverFalls (cons_option (when b m) (machines_of r (seats_in ((Request q, Machine m), u))) ++ xs)) [
        | true ↦ λ e. (seats_from m q m u xs (λ _. omega arith) (from (eqb-true q r e)), rest)
        | false ↦ λ _. rest
      ] refl

  one_from : (n : ℕ) (e : (Node × Node) × ℕ) (xs : List ℕ) → ((m : ℕ) → e.0 ≡ (Request r, Machine m) → n ≤ m) → AreFrom n xs → AreFrom n (machines_of r (seats_in e) ++ xs)
  one_from n ((Request q, Machine m), u) xs le from = seats_from n q m u xs (λ is. le m (λ i. (Request (is i), Machine m))) from
  one_from n _ xs le from = from

  one_falls : (e : (Node × Node) × ℕ) (xs : List ℕ) → ((m : ℕ) → e.0 ≡ (Request r, Machine m) → AreFrom m xs) → NeverFalls xs → NeverFalls (machines_of r (seats_in e) ++ xs)
  one_falls ((Request q, Machine m), u) xs from falls = seats_fall q m u xs (λ is. from m (λ i. (Request (is i), Machine m))) falls
  one_falls _ xs from falls = falls

  beside : (m n : ℕ) → ends_cmp (Request r, Machine m) (Request r, Machine n) ≡ Less → m ≤ n
  beside m n h =
      let less : nat_cmp m n ≡ Less = ap (λ o. ordering_then o (node_cmp (Machine m) (Machine n))) (sym (tied_itself node_total (Request r))) ∙ h in
      let lt : m < n = ranked m n Less (sym less) in
      omega arith

  split : (e : (Node × Node) × ℕ) (f : ArcUnits) → machines_of r (seats_in e ++ seats f) ≡ machines_of r (seats_in e) ++ machines_of r (seats f)
  split e f = filter_map-append (λ s. when (s.request == r) s.machine) (seats_in e) (seats f)

  behind_from : (m : ℕ) (f : ArcUnits) → IsBelow ends_cmp (Request r, Machine m) f → AreFrom m (machines_of r (seats f))
  behind_from m [] below = tt
  behind_from m (e ∷ f) below = subst (AreFrom m) (sym (split e f)) (one_from m e (machines_of r (seats f)) (λ n is. beside m n (subst (λ x. ends_cmp (Request r, Machine m) x ≡ Less) is below.0)) (behind_from m f below.1))

  pub seats_never_fall : (f : ArcUnits) → IsRising ends_cmp f → NeverFalls (machines_of r (seats f))
  seats_never_fall [] rises = tt
  seats_never_fall (e ∷ f) rises = subst NeverFalls (sym (split e f)) (one_falls e (machines_of r (seats f)) (λ m is. behind_from m f (subst (λ x. IsBelow ends_cmp x f) is rises.0)) (seats_never_fall f rises.1))

-- numbers of tasks that rise
module _ (g : ℕ → ℕ) where
  mapped_from : (t : ℕ) (ts : List ℕ) → IsBelowAll nat_cmp t ts → ((u : ℕ) → IsMember u ts → t < u → g t ≤ g u) → AreFrom (g t) (map g ts)
  mapped_from t [] below in_turn = tt
  mapped_from t (u ∷ ts) below in_turn = (in_turn u (inl refl) (ranked t u Less (sym below.0)), mapped_from t ts below.1 (λ v m. in_turn v (inr m)))

  pub mapped_never_fall : (ts : List ℕ) → Rises nat_cmp ts → ((t u : ℕ) → IsMember t ts → IsMember u ts → t < u → g t ≤ g u) → NeverFalls (map g ts)
  mapped_never_fall [] rises in_turn = tt
  mapped_never_fall (t ∷ ts) rises in_turn = (mapped_from t ts rises.0 (λ u m. in_turn t u (inl refl) (inr m)), mapped_never_fall ts rises.1 (λ u v m n. in_turn u v (inr m) (inr n)))

  -- each of them beside its number
  pub paired_with : (t : ℕ) (ts : List ℕ) → IsMember t ts → lookup nat_cmp t (zip ts (map g ts)) ≡ Some (g t)
  paired_with t [] m = absurd m
  paired_with t (u ∷ ts) m =
      let rest = paired_with t ts in
      let tie : u ≡ t → nat_cmp t u ≡ Equal = λ is. ap (nat_cmp t) is ∙ tied_itself nat_cmp_total t in
      by_cases (nat_cmp t u) (λ o. nat_cmp t u ≡ o → cond (is_eq o) (Some (g u)) (lookup nat_cmp t (zip ts (map g ts))) ≡ Some (g t))
      (λ _ e. elim m [ inl is ↦ let no : Less ≡ Equal = sym e ∙ tie is in absurd (let bad : ⊥ = cc in bad) | inr later ↦ rest later ])
      (λ _ e. ap (λ x. Some (g x)) (sym (nat_same t u e)))
      (λ _ e. elim m [ inl is ↦ let no : Greater ≡ Equal = sym e ∙ tie is in absurd (let bad : ⊥ = cc in bad) | inr later ↦ rest later ])
      refl
