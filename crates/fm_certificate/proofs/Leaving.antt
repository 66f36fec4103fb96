-- The arcs that leave a node lie side by side: none before the first that is not below the node, and none after the
-- first above.
use Rattle.std.proofs.Common.{◌≡◌, ◌≤◌, ◌<◌, ◌∙◌, ap, sym, refl, ℕ, zero, suc, ◌+◌, Bool, true, false, cond, List, [], ◌∷◌, length, drop, get_or, inl, inr, arith}
use Rattle.std.specs.List.Sorted.{IsPartitionedBy}
use Rattle.std.specs.Ordering.{is_lt, ordering_then}
use Rattle.std.specs.declared.cmp.Ordering.TheVariants.{Less, Equal}
use Rattle.std.proofs.lemmas.Bool.{cases_order}
use Rattle.std.proofs.lemmas.Cmp.{tied_itself}
use Rattle.std.proofs.lemmas.List.Sums.{sum_by-cons}
use Rattle.fm_lattice.specs.laws.ChainLaws.{by_cases, greater_less}
use Rattle.fm_lattice.specs.Maps.{IsBelow, IsRising}
use Rattle.fm_lattice.proofs.Places.{rising_at}
use Rattle.fm_net.specs.declared.node.Node.{Node}
use Rattle.fm_net.specs.Nodes.{node_cmp, ends_cmp}
use Rattle.fm_net.specs.laws.NodeOrder.{node_exact, node_total, ends_exact, ends_total}
use Rattle.fm_net.specs.NetworkEquality.{same_node}
use Rattle.fm_certificate.specs.Totals.{Entry, source, units_at}
use Rattle.fm_certificate.specs.inner.Outflow.{NoneBelow}
use Rattle.fm_certificate.proofs.Alike.{same_itself, other_node}
use Rattle.fm_lattice.proofs.Behind.{less_of}

-- if ends rise, so do their sources, or stay
still_below : (a b : Node × Node) (n : Node) → ends_cmp a b ≡ Less → node_cmp b.0 n ≡ Less → node_cmp a.0 n ≡ Less
still_below a b n rise less =
    by_cases (node_cmp a.0 b.0) (λ o. ordering_then o (node_cmp a.1 b.1) ≡ Less → node_cmp a.0 n ≡ Less)
    (λ below _. node_total.trans a.0 b.0 n below less)
    (λ same _. ap (λ m. node_cmp m n) (node_exact a.0 b.0 same) ∙ less)
    (λ _ no. absurd (cc))
    rise

still_above : (a b : Node × Node) (n : Node) → node_cmp n a.0 ≡ Less → ends_cmp a b ≡ Less → node_cmp n b.0 ≡ Less
still_above a b n less rise =
    by_cases (node_cmp a.0 b.0) (λ o. ordering_then o (node_cmp a.1 b.1) ≡ Less → node_cmp n b.0 ≡ Less)
    (λ below _. node_total.trans n a.0 b.0 less below)
    (λ same _. ap (node_cmp n) (sym (node_exact a.0 b.0 same)) ∙ less)
    (λ _ no. absurd (cc))
    rise

-- whether the arc leaves a node below
abbrev pub is_below : Node → Entry → Bool
is_below n e = is_lt (node_cmp e.0.0 n)

pub parted : (n : Node) (es : List Entry) → IsRising ends_cmp es → IsPartitionedBy (is_below n) es
parted n es rises i j d le lt below =
    elim (cases_order i j) [
      | inl e ↦ ap (λ k. is_below n (get_or es k d)) e ∙ below
      | inr (inl less) ↦ ap is_lt (still_below (get_or es i d).0 (get_or es j d).0 n (rising_at ends_cmp ends_total ends_exact es i j d rises less lt) (less_of _ below))
      | inr (inr more) ↦ absurd (omega arith)
    ]

module _ (n : Node) where
  abbrev here : Entry → ℕ
  here e = cond (same_node e.0.0 n) e.1 0

  elsewhere : (e : Entry) → (e.0.0 ≡ n → ⊥) → here e ≡ 0
  elsewhere e h = rw (other_node e.0.0 n h) refl

  below_other : (m : Node) → node_cmp m n ≡ Less → m ≡ n → ⊥
  below_other m less is = let no : Less ≡ Equal = sym less ∙ ap (λ k. node_cmp k n) is ∙ tied_itself node_total n in absurd (cc)

  above_other : (m : Node) → node_cmp n m ≡ Less → m ≡ n → ⊥
  above_other m less is = let no : Less ≡ Equal = sym less ∙ ap (node_cmp n) is ∙ tied_itself node_total n in absurd (cc)

  none_below : (es : List Entry) → ((j : ℕ) (d : Entry) → j < length es → is_below n (get_or es j d) ≡ false) → NoneBelow n es
  none_below [] h = tt
  none_below (e ∷ es) h = (λ less. let no : true ≡ false = ap is_lt (sym less) ∙ h 0 e (omega arith) in absurd (cc), none_below es (λ j d lt. h (suc j) d (omega arith)))

  pub rest_none_below : (es : List Entry) (i : ℕ) → ((j : ℕ) (d : Entry) → i ≤ j → j < length es → is_below n (get_or es j d) ≡ false) → NoneBelow n (drop i es)
  rest_none_below [] zero h = tt
  rest_none_below [] (suc i) h = tt
  rest_none_below (e ∷ es) zero h = none_below (e ∷ es) (λ j d lt. h j d (omega arith) lt)
  rest_none_below (e ∷ es) (suc i) h = rest_none_below es i (λ j d le lt. h (suc j) d (omega arith) (omega arith))

  -- what is below has no part in the sum
  pub rest_sum : (es : List Entry) (i : ℕ) → i ≤ length es → ((j : ℕ) (d : Entry) → j < i → is_below n (get_or es j d) ≡ true) → units_at source (drop i es) n ≡ units_at source es n
  rest_sum [] zero le h = refl
  rest_sum [] (suc i) le h = refl
  rest_sum (e ∷ es) zero le h = refl
  rest_sum (e ∷ es) (suc i) le h =
      let rest = rest_sum es i (omega arith) (λ j d lt. h (suc j) d (omega arith)) in
      let first = elsewhere e (below_other e.0.0 (less_of _ (h 0 e (omega arith)))) in
      omega (arith, sum_by-cons here e es)

  -- nothing leaves the node behind an arc of a node above
  above_sum : (k : Node × Node) (es : List Entry) → node_cmp n k.0 ≡ Less → IsBelow ends_cmp k es → units_at source es n ≡ 0
  above_sum k [] less below = refl
  above_sum k (e ∷ es) less below =
      let rest = above_sum k es less below.1 in
      let first = elsewhere e (above_other e.0.0 (still_above k e.0 n less below.0)) in
      omega (arith, sum_by-cons here e es)

  pub ended : (e : Entry) (es : List Entry) → IsRising ends_cmp (e ∷ es) → NoneBelow n (e ∷ es) → (e.0.0 ≡ n → ⊥) → units_at source (e ∷ es) n ≡ 0
  ended e es rises from other =
      let less : node_cmp n e.0.0 ≡ Less =
      by_cases (node_cmp n e.0.0) (λ o. node_cmp n e.0.0 ≡ o → node_cmp n e.0.0 ≡ Less)
      (λ l _. l)
      (λ same _. absurd (other (sym (node_exact n e.0.0 same))))
      (λ greater _. absurd (from.0 (greater_less node_cmp node_total n e.0.0 greater)))
      refl
      in
      let rest = above_sum e.0 es less rises.0 in
      let first = elsewhere e other in
      omega (arith, sum_by-cons here e es)

  -- an arc of the node, and the rest
  pub one_more : (e : Entry) (es : List Entry) → e.0.0 ≡ n → units_at source (e ∷ es) n ≡ e.1 + units_at source es n
  one_more e es is =
      let first : here e ≡ e.1 = ap (λ m. cond (same_node e.0.0 m) e.1 0) (sym is) ∙ rw (same_itself e.0.0) refl in
      omega (arith, sum_by-cons here e es)

pub rising_drop : (es : List Entry) (i : ℕ) → IsRising ends_cmp es → IsRising ends_cmp (drop i es)
rising_drop [] zero r = tt
rising_drop [] (suc i) r = tt
rising_drop (e ∷ es) zero r = r
rising_drop (e ∷ es) (suc i) r = rising_drop es i r.1
