-- The nodes that something enters, in order, with what does.
use Rattle.std.proofs.Common.{◌≡◌, ◌∙◌, ap, sym, refl, ℕ, zero, suc, ◌<◌, true, false, cond, List, [], ◌∷◌, Some, None, drop, length, get_or, nat_eq, ne_eqb, arith}
use Rattle.std.specs.Prelude.{slice_get, slice_index}
use Rattle.std.specs.Ordering.{is_eq}
use Rattle.std.specs.Cmp.{unsigned_Decides}
use Rattle.std.specs.declared.cmp.Ordering.TheVariants.{Less, Equal}
use Rattle.std.proofs.lemmas.Cmp.{tied_itself}
use Rattle.fm_lattice.specs.laws.ChainLaws.{by_cases}
use Rattle.fm_lattice.specs.Maps.{lookup, IsBelow, IsRising}
use Rattle.fm_records.specs.Options.{or_else}
use Rattle.fm_records.specs.Rising.{IsBelowAll, Rises}
use Rattle.fm_net.specs.declared.node.Node.{Node}
use Rattle.fm_net.specs.Nodes.{node_cmp}
use Rattle.fm_net.specs.laws.NodeOrder.{node_exact, node_total}
use Rattle.fm_certificate.specs.Totals.{total_in}
use Rattle.fm_indexed.specs.inner.Named.{entered_by}
use Rattle.fm_indexed.proofs.Placed.{earlier_less}

nothing_left : (nodes : List Node) → entered_by nodes [] ≡ []
nothing_left [] = refl
nothing_left (n ∷ nodes) = refl

-- a node that nothing enters is passed by
pub passed_by : (nodes : List Node) (sums : List ℕ) (i : ℕ) → slice_index sums i ≡ 0 → entered_by (drop i nodes) (drop i sums) ≡ entered_by (drop (suc i) nodes) (drop (suc i) sums)
passed_by [] sums zero none = refl
passed_by [] sums (suc i) none = refl
passed_by (n ∷ nodes) [] zero none = sym (nothing_left nodes)
passed_by (n ∷ nodes) [] (suc i) none = nothing_left (drop i nodes) ∙ sym (nothing_left (drop (suc i) nodes))
passed_by (n ∷ nodes) (s ∷ sums) zero none = rw none refl
passed_by (n ∷ nodes) (s ∷ sums) (suc i) none = passed_by nodes sums i none

-- and one that something enters is taken up
pub taken_up : (nodes : List Node) (sums : List ℕ) (i : ℕ) (n : Node) → i < length nodes → n ≡ get_or nodes i n → (slice_index sums i ≡ 0 → ⊥) → entered_by (drop i nodes) (drop i sums) ≡ (n, slice_index sums i) ∷ entered_by (drop (suc i) nodes) (drop (suc i) sums)
taken_up [] sums i n less is some = absurd (omega arith)
taken_up (m ∷ nodes) [] zero n less is some = absurd (some refl)
taken_up (m ∷ nodes) [] (suc i) n less is some = absurd (some refl)
taken_up (m ∷ nodes) (s ∷ sums) zero n less is some = rw (ne_eqb s 0 some) (ap (λ (k : Node). (k, s) ∷ entered_by nodes sums) (sym is))
taken_up (m ∷ nodes) (s ∷ sums) (suc i) n less is some = taken_up nodes sums i n (omega arith) is some

below_entered : (n : Node) (nodes : List Node) (sums : List ℕ) → IsBelowAll node_cmp n nodes → IsBelow node_cmp n (entered_by nodes sums)
below_entered n [] sums b = tt
below_entered n (m ∷ nodes) [] b = tt
below_entered n (m ∷ nodes) (s ∷ sums) b =
    let rest = below_entered n nodes sums b.1 in
    elim (nat_eq s 0) as (λ t. IsBelow node_cmp n (cond t (entered_by nodes sums) ((m, s) ∷ entered_by nodes sums))) [ true ↦ rest | false ↦ (b.0, rest) ]

pub entered_rise : (nodes : List Node) (sums : List ℕ) → Rises node_cmp nodes → IsRising node_cmp (entered_by nodes sums)
entered_rise [] sums r = tt
entered_rise (n ∷ nodes) [] r = tt
entered_rise (n ∷ nodes) (s ∷ sums) r =
    let rest = entered_rise nodes sums r.1 in
    elim (nat_eq s 0) as (λ t. IsRising node_cmp (cond t (entered_by nodes sums) ((n, s) ∷ entered_by nodes sums))) [ true ↦ rest | false ↦ (below_entered n nodes sums r.0, rest) ]

-- The sum of a node is the one at its place, and 0 if it has none.

none_there : {A P : Type 0} {x : A} → None ≡ Some x → P
none_there e = absurd (let no : ⊥ = cc in no)

first_total : (m n : Node) (s : ℕ) (es : List (Node × ℕ)) → m ≡ n → total_in ((m, s) ∷ es) n ≡ s
first_total m n s es is = ap (λ (k : Node). total_in ((k, s) ∷ es) n) is ∙ rw (tied_itself node_total n) refl

other_total : (m n : Node) (s : ℕ) (es : List (Node × ℕ)) → (m ≡ n → ⊥) → total_in ((m, s) ∷ es) n ≡ total_in es n
other_total m n s es other =
    by_cases (node_cmp n m) (λ o. or_else 0 (cond (is_eq o) (Some s) (lookup node_cmp n es)) ≡ total_in es n)
    (λ _. refl)
    (λ e. absurd (other (sym (node_exact n m e))))
    (λ _. refl)

pub no_total : (n : Node) (nodes : List Node) (sums : List ℕ) → ((v : ℕ) → slice_get nodes v ≡ Some n → ⊥) → total_in (entered_by nodes sums) n ≡ 0
no_total n [] sums none = refl
no_total n (m ∷ nodes) [] none = refl
no_total n (m ∷ nodes) (s ∷ sums) none =
    let rest = no_total n nodes sums (λ v at. none (suc v) at) in
    let other : m ≡ n → ⊥ = λ is. none 0 (ap (λ k. Some k) is) in
    elim (nat_eq s 0) as (λ t. total_in (cond t (entered_by nodes sums) ((m, s) ∷ entered_by nodes sums)) n ≡ 0) [
      | true ↦ rest
      | false ↦ other_total m n s (entered_by nodes sums) other ∙ rest
    ]

less_other : (m n : Node) → node_cmp m n ≡ Less → m ≡ n → ⊥
less_other m n less is = let no : Less ≡ Equal = sym less ∙ ap (node_cmp m) (sym is) ∙ tied_itself node_total m in absurd (cc)

pub total_there : (nodes : List Node) (sums : List ℕ) (v : ℕ) (n : Node) → Rises node_cmp nodes → slice_get nodes v ≡ Some n → total_in (entered_by nodes sums) n ≡ slice_index sums v
total_there [] sums v n rises at = none_there at
total_there (m ∷ nodes) [] v n rises at = refl
total_there (m ∷ nodes) (s ∷ sums) zero n rises at =
    let is : m ≡ n = cc in
    let later : (v : ℕ) → slice_get nodes v ≡ Some n → ⊥ = λ v there. less_other m n (earlier_less (m ∷ nodes) 0 (suc v) m n rises refl there (omega arith)) is in
    elim (nat_eq s 0) as (λ t. nat_eq s 0 ≡ t → total_in (cond t (entered_by nodes sums) ((m, s) ∷ entered_by nodes sums)) n ≡ s) [
      | true ↦ λ e. no_total n nodes sums later ∙ sym ((unsigned_Decides s 0).0 e)
      | false ↦ λ _. first_total m n s (entered_by nodes sums) is
    ] refl
total_there (m ∷ nodes) (s ∷ sums) (suc v) n rises at =
    let rest = total_there nodes sums v n rises.1 at in
    let other = less_other m n (earlier_less (m ∷ nodes) 0 (suc v) m n rises refl at (omega arith)) in
    elim (nat_eq s 0) as (λ t. total_in (cond t (entered_by nodes sums) ((m, s) ∷ entered_by nodes sums)) n ≡ slice_index sums v) [
      | true ↦ rest
      | false ↦ other_total m n s (entered_by nodes sums) other ∙ rest
    ]
