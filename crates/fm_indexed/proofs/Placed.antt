-- Nodes at places of a list that rises: where each kind begins, and that a place has one node and a node one place.
use Rattle.std.proofs.Common.{◌≡◌, ◌∙◌, ap, sym, refl, inl, inr, ℕ, zero, suc, ◌+◌, ◌<◌, ◌≤◌, true, false, cond, List, [], ◌∷◌, Some, None, length, filter, nat_eq, nat_lt, lt-ltb, le-ltb, eq-eqb, ne_eqb, arith}
use Rattle.std.specs.Prelude.{slice_get}
use Rattle.std.specs.declared.cmp.Ordering.TheVariants.{Less, Equal}
use Rattle.std.proofs.lemmas.Bool.{cases_lt}
use Rattle.std.proofs.lemmas.Cmp.{tied_itself}
use Rattle.fm_records.specs.Sets.{IsMember}
use Rattle.fm_records.specs.Rising.{IsBelowAll, Rises}
use Rattle.fm_net.specs.declared.node.Node.{Node}
use Rattle.fm_net.specs.declared.node.Node.TheVariants.{Sink, Unscheduled, Request, Machine, Task}
use Rattle.fm_net.specs.Nodes.{kind, node_cmp}
use Rattle.fm_net.specs.laws.NodeOrder.{node_total}
use Rattle.fm_net.specs.NetworkEquality.{same_node}
use Rattle.fm_certificate.proofs.Alike.{same_itself, other_node}
use Rattle.fm_indexed.specs.NodeRanges.{count_below}

none_there : {A P : Type 0} {x : A} → None ≡ Some x → P
none_there e = absurd (let no : ⊥ = cc in no)

-- a member stands at a place
pub place_of_member : {A : Type 0} → (x : A) (xs : List A) → IsMember x xs → (i : ℕ) × (slice_get xs i ≡ Some x)
place_of_member x [] m = absurd m
place_of_member x (y ∷ ys) m = elim m [
  | inl is ↦ (0, ap (λ z. Some z) is)
  | inr later ↦ let rest = place_of_member x ys later in (suc rest.0, rest.1)
]

-- what stands at a place is a member
pub member_at : {A : Type 0} → (xs : List A) (i : ℕ) (x : A) → slice_get xs i ≡ Some x → IsMember x xs
member_at [] i x at = none_there at
member_at (y ∷ ys) zero x at = inl (let is : y ≡ x = cc in is)
member_at (y ∷ ys) (suc i) x at = inr (member_at ys i x at)

-- a node of a lower kind comes first
kind_le : (m n : Node) → node_cmp m n ≡ Less → kind m ≤ kind n
kind_le Sink n e = omega arith
kind_le (Unscheduled a) Sink e = absurd (let no : ⊥ = cc in no)
kind_le (Unscheduled a) (Unscheduled b) e = omega arith
kind_le (Unscheduled a) (Request b) e = omega arith
kind_le (Unscheduled a) (Machine b) e = omega arith
kind_le (Unscheduled a) (Task b) e = omega arith
kind_le (Request a) Sink e = absurd (let no : ⊥ = cc in no)
kind_le (Request a) (Unscheduled b) e = absurd (let no : ⊥ = cc in no)
kind_le (Request a) (Request b) e = omega arith
kind_le (Request a) (Machine b) e = omega arith
kind_le (Request a) (Task b) e = omega arith
kind_le (Machine a) Sink e = absurd (let no : ⊥ = cc in no)
kind_le (Machine a) (Unscheduled b) e = absurd (let no : ⊥ = cc in no)
kind_le (Machine a) (Request b) e = absurd (let no : ⊥ = cc in no)
kind_le (Machine a) (Machine b) e = omega arith
kind_le (Machine a) (Task b) e = omega arith
kind_le (Task a) Sink e = absurd (let no : ⊥ = cc in no)
kind_le (Task a) (Unscheduled b) e = absurd (let no : ⊥ = cc in no)
kind_le (Task a) (Request b) e = absurd (let no : ⊥ = cc in no)
kind_le (Task a) (Machine b) e = absurd (let no : ⊥ = cc in no)
kind_le (Task a) (Task b) e = omega arith

below_at : (m : Node) (ms : List Node) (i : ℕ) (n : Node) → IsBelowAll node_cmp m ms → slice_get ms i ≡ Some n → node_cmp m n ≡ Less
below_at m [] i n b at = none_there at
below_at m (x ∷ xs) zero n b at = let is : x ≡ n = cc in ap (node_cmp m) (sym is) ∙ b.0
below_at m (x ∷ xs) (suc i) n b at = below_at m xs i n b.1 at

-- an earlier node is less
pub earlier_less : (ns : List Node) (i j : ℕ) (m n : Node) → Rises node_cmp ns → slice_get ns i ≡ Some m → slice_get ns j ≡ Some n → i < j → node_cmp m n ≡ Less
earlier_less [] i j m n rises at_m at_n less = none_there at_m
earlier_less (x ∷ xs) i zero m n rises at_m at_n less = absurd (omega arith)
earlier_less (x ∷ xs) zero (suc j) m n rises at_m at_n less = let is : x ≡ m = cc in ap (λ k. node_cmp k n) (sym is) ∙ below_at x xs j n rises.0 at_n
earlier_less (x ∷ xs) (suc i) (suc j) m n rises at_m at_n less = earlier_less xs i j m n rises.1 at_m at_n (omega arith)

less_other : (m n : Node) → node_cmp m n ≡ Less → m ≡ n → ⊥
less_other m n less is = let no : Less ≡ Equal = sym less ∙ ap (node_cmp m) (sym is) ∙ tied_itself node_total m in absurd (cc)

-- nodes are one if their places are
pub one_place : (ns : List Node) (i j : ℕ) (m n : Node) → Rises node_cmp ns → slice_get ns i ≡ Some m → slice_get ns j ≡ Some n → same_node m n ≡ nat_eq i j
one_place ns i j m n rises at_m at_n = elim (cases_lt i j) [
  | inl before ↦
      other_node m n (less_other m n (earlier_less ns i j m n rises at_m at_n before)) ∙ sym (ne_eqb i j (λ e. absurd (omega arith)))
  | inr not_before ↦ elim (cases_lt j i) [
    | inl behind ↦
        other_node m n (λ is. less_other n m (earlier_less ns j i n m rises at_n at_m behind) (sym is)) ∙ sym (ne_eqb i j (λ e. absurd (omega arith)))
    | inr not_behind ↦
        let same : i ≡ j = omega arith in
        let both : Some m ≡ Some n = sym at_m ∙ ap (slice_get ns) same ∙ at_n in
        let is : m ≡ n = cc in
        ap (same_node m) (sym is) ∙ same_itself m ∙ sym (eq-eqb i j same)
  ]
]

count_cons : (r : ℕ) (m : Node) (ms : List Node) → count_below r (m ∷ ms) ≡ cond (nat_lt (kind m) r) 1 0 + count_below r ms
count_cons r m ms = elim (nat_lt (kind m) r) as (λ b. length (cond b (m ∷ filter (λ n. nat_lt (kind n) r) ms) (filter (λ n. nat_lt (kind n) r) ms)) ≡ cond b 1 0 + count_below r ms) [ true ↦ omega arith | false ↦ omega arith ]

none_below : (r : ℕ) (m : Node) (ms : List Node) → IsBelowAll node_cmp m ms → r ≤ kind m → count_below r ms ≡ 0
none_below r m [] b high = refl
none_below r m (x ∷ xs) b high =
    let le = kind_le m x b.0 in
    let no : cond {A = ℕ} (nat_lt (kind x) r) 1 0 ≡ 0 = ap (λ t. cond {A = ℕ} t 1 0) (le-ltb (kind x) r (omega arith)) in
    let rest = none_below r m xs b.1 high in
    omega (arith, count_cons r x xs)

-- before where the kinds from r on begin stand those of lower kinds, and none behind
pub low_before : (r : ℕ) (ns : List Node) (i : ℕ) (n : Node) → Rises node_cmp ns → slice_get ns i ≡ Some n → kind n < r → i < count_below r ns
low_before r [] i n rises at low = none_there at
low_before r (m ∷ ms) zero n rises at low =
    let is : m ≡ n = cc in
    let same : kind m ≡ kind n = ap kind is in
    let one : cond {A = ℕ} (nat_lt (kind m) r) 1 0 ≡ 1 = ap (λ t. cond {A = ℕ} t 1 0) (lt-ltb (kind m) r (omega arith)) in
    omega (arith, count_cons r m ms)
low_before r (m ∷ ms) (suc i) n rises at low =
    let le = kind_le m n (below_at m ms i n rises.0 at) in
    let one : cond {A = ℕ} (nat_lt (kind m) r) 1 0 ≡ 1 = ap (λ t. cond {A = ℕ} t 1 0) (lt-ltb (kind m) r (omega arith)) in
    let rest = low_before r ms i n rises.1 at low in
    omega (arith, count_cons r m ms)

pub high_behind : (r : ℕ) (ns : List Node) (i : ℕ) (n : Node) → Rises node_cmp ns → slice_get ns i ≡ Some n → r ≤ kind n → count_below r ns ≤ i
high_behind r [] i n rises at high = none_there at
high_behind r (m ∷ ms) zero n rises at high =
    let is : m ≡ n = cc in
    let same : kind m ≡ kind n = ap kind is in
    let none = none_below r m ms rises.0 (omega arith) in
    let no : cond {A = ℕ} (nat_lt (kind m) r) 1 0 ≡ 0 = ap (λ t. cond {A = ℕ} t 1 0) (le-ltb (kind m) r (omega arith)) in
    omega (arith, count_cons r m ms)
high_behind r (m ∷ ms) (suc i) n rises at high =
    let rest = high_behind r ms i n rises.1 at high in
    let most : cond {A = ℕ} (nat_lt (kind m) r) 1 0 ≤ 1 = elim (nat_lt (kind m) r) as (λ t. cond {A = ℕ} t 1 0 ≤ 1) [ true ↦ omega arith | false ↦ omega arith ] in
    omega (arith, count_cons r m ms)

pub count_most : (r : ℕ) (ns : List Node) → count_below r ns ≤ length ns
count_most r [] = omega arith
count_most r (m ∷ ms) =
    let rest = count_most r ms in
    let most : cond {A = ℕ} (nat_lt (kind m) r) 1 0 ≤ 1 = elim (nat_lt (kind m) r) as (λ t. cond {A = ℕ} t 1 0 ≤ 1) [ true ↦ omega arith | false ↦ omega arith ] in
    omega (arith, count_cons r m ms)
