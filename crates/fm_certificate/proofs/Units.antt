-- What putting units on an arc does to what leaves and enters the nodes.
use Rattle.std.proofs.Common.{◌≡◌, ◌≤◌, ◌<◌, ◌∙◌, ap, refl, ℕ, ◌+◌, ◌*◌, ◌^◌, true, false, cond, Some, None, List, [], ◌∷◌, length, arith}
use Rattle.std.specs.Prelude.{Option, unwrap_or}
use Rattle.std.specs.Ordering.{is_eq}
use Rattle.std.proofs.lemmas.List.Sums.{sum_by-cons}
use Rattle.fm_lattice.specs.Chains.{by_order}
use Rattle.fm_lattice.specs.laws.ChainLaws.{by_cases}
use Rattle.fm_lattice.specs.Maps.{lookup, put, keep_new, IsRising, AreValues}
use Rattle.fm_lattice.specs.laws.MapLaws.{lookup_below, below_trans, rising_put}
use Rattle.fm_records.specs.Options.{or_else}
use Rattle.fm_net.specs.declared.node.Node.{Node}
use Rattle.fm_net.specs.Nodes.{ends_cmp, node_cmp}
use Rattle.fm_net.specs.laws.NodeOrder.{ends_exact, ends_total}
use Rattle.fm_net.specs.NetworkEquality.{same_node}
use Rattle.fm_certificate.specs.Totals.{Entry, target, units_at, total_in, IsTotalled}
use Rattle.fm_certificate.proofs.Alike.{same_itself}

abbrev fits : ℕ → Type 0
fits units = units < 2 ^ 64

-- the map with the units in their place
abbrev pub with_units : Node × Node → ℕ → List Entry → List Entry
with_units k units es = put ends_cmp keep_new k units es

pub fits_put : (k : Node × Node) (units : ℕ) (es : List Entry) → units < 2 ^ 64 → AreValues fits es → AreValues fits (with_units k units es)
fits_put k units [] u f = (u, tt)
fits_put k units (e ∷ es) u f =
    by_cases (ends_cmp k e.0) (λ o. AreValues fits (by_order o ((k, units) ∷ e ∷ es) ((e.0, units) ∷ es) (e ∷ with_units k units es)))
    (λ _. (u, f)) (λ _. (u, f.1)) (λ _. (f.0, fits_put k units es u f.1))

-- the units of the map on the arc
abbrev pub units_on : Node × Node → List Entry → ℕ
units_on k es = or_else 0 (lookup ends_cmp k es)

module _ (end : Node × Node → Node) (n : Node) where
  abbrev at : Node × Node → ℕ → ℕ
  at k units = cond (same_node (end k) n) units 0

  abbrev here : Entry → ℕ
  here e = at e.0 e.1

  nothing : (k : Node × Node) → at k 0 ≡ 0
  nothing k = let no : ℕ = 0 in elim (same_node (end k) n) as (λ b. cond b no no ≡ no) [ true ↦ refl | false ↦ refl ]

  pub units_put : (k : Node × Node) (units : ℕ) (es : List Entry) → IsRising ends_cmp es → units_at end (with_units k units es) n + at k (units_on k es) ≡ units_at end es n + at k units
  units_put k units [] r = omega (arith, nothing k)
  units_put k units (e ∷ es) r =
      let rest = units_put k units es r.1 in
      by_cases (ends_cmp k e.0) (λ o. units_at end (by_order o ((k, units) ∷ e ∷ es) ((e.0, units) ∷ es) (e ∷ with_units k units es)) n + at k (or_else 0 (cond (is_eq o) (Some e.1) (lookup ends_cmp k es))) ≡ units_at end (e ∷ es) n + at k units)
      (λ less.
      let none : lookup ends_cmp k es ≡ None = lookup_below ends_cmp ends_total ends_exact k es (below_trans ends_cmp ends_total ends_exact k e.0 es less r.0) in
      rw none (omega (arith, sum_by-cons here (k, units) (e ∷ es), nothing k)))
      (λ same.
      let is : k ≡ e.0 = ends_exact k e.0 same in
      rw is (omega (arith, sum_by-cons here (e.0, units) es, sum_by-cons here e es)))
      (λ _. omega (arith, sum_by-cons here e (with_units k units es), sum_by-cons here e es))

  at_le : (k : Node × Node) (units : ℕ) → at k units ≤ units
  at_le k units = elim (same_node (end k) n) as (λ b. cond b units 0 ≤ units) [ true ↦ omega arith | false ↦ omega arith ]

  pub units_bound : (es : List Entry) → AreValues fits es → units_at end es n ≤ 2 ^ 64 * length es
  units_bound [] f = omega arith
  units_bound (e ∷ es) f =
      let rest = units_bound es f.1 in
      let first = f.0 in
      omega (arith, sum_by-cons here e es, at_le e.0 e.1)

-- the units of an arc are part of what leaves its source, and of what enters its target
pub units_part : (end : Node × Node → Node) (k : Node × Node) (es : List Entry) → units_on k es ≤ units_at end es (end k)
units_part end k [] = omega arith
units_part end k (e ∷ es) =
    let rest = units_part end k es in
    let all = sum_by-cons (here end (end k)) e es in
    by_cases (ends_cmp k e.0) (λ o. or_else 0 (cond (is_eq o) (Some e.1) (lookup ends_cmp k es)) ≤ units_at end (e ∷ es) (end k))
    (λ _. omega arith)
    (λ same.
    let is : at end (end k) e.0 e.1 ≡ e.1 = ap (λ (q : Node × Node). cond (same_node (end e.0) (end q)) e.1 0) (ends_exact k e.0 same) ∙ rw (same_itself (end e.0)) refl in
    omega arith)
    (λ _. omega arith)

-- a flow's totals after a put
pub flow_put : (es : List Entry) (entering entering2 : List (Node × ℕ)) (k : Node × Node) (units old : ℕ) → IsTotalled es entering → IsRising node_cmp entering2 → units < 2 ^ 64 → old ≡ units_on k es
    → ((n : Node) → total_in entering2 n + cond (same_node k.1 n) old 0 ≡ total_in entering n + cond (same_node k.1 n) units 0)
    → IsTotalled (with_units k units es) entering2
flow_put es entering entering2 k units old flow order u was came = record {
  rises = rising_put ends_cmp ends_total ends_exact keep_new k units es flow.rises;
  fits = fits_put k units es u flow.fits;
  in_order = order;
  enters = λ n. let change = rw was at came n in let before = flow.enters n in omega (arith, units_put target n k units es flow.rises);
}

-- what `unwrap_or` gives
pub or_zero : (o : Option ℕ) → unwrap_or o 0 ≡ or_else 0 o
or_zero None = refl
or_zero (Some n) = refl

pub part_of : (es : List Entry) (k : Node × Node) (old : ℕ) (totals : List (Node × ℕ)) (end : Node × Node → Node) → old ≡ units_on k es → total_in totals (end k) ≡ units_at end es (end k) → old ≤ total_in totals (end k)
part_of es k old totals end was is = let part = units_part end k es in omega arith
