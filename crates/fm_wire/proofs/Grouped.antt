-- Proposals by attempt and in one list are the same proposals.
use Rattle.std.proofs.Common.{◌≡◌, ℕ, List, [], ◌∷◌, ◌++◌, Some, refl, sym, ap, subst, ◌∙◌, append_assoc}
use Rattle.std.specs.Ordering.{nat_cmp, ordering_then}
use Rattle.std.specs.Cmp.{IsTotalOrder, nat_cmp_total}
use Rattle.std.specs.declared.cmp.Ordering.{Ordering}
use Rattle.std.specs.declared.cmp.Ordering.TheVariants.{Less, Equal, Greater}
use Rattle.std.proofs.lemmas.Cmp.{tied_itself, tied_back, on_total, then_total}
use Rattle.std.proofs.lemmas.List.{append-nil}
use Rattle.fm_lattice.specs.Chains.{by_order}
use Rattle.fm_lattice.specs.laws.ChainLaws.{nat_same, by_cases, less_greater}
use Rattle.fm_lattice.specs.Joins.{min_join, Any}
use Rattle.fm_lattice.specs.Maps.{IsBelow, IsRising, AreValues, IsMap, put}
use Rattle.fm_lattice.specs.laws.MapLaws.{rising_put}
use Rattle.fm_records.specs.declared.records.Spot.{Spot}
use Rattle.fm_records.specs.Sets.{unless_empty}
use Rattle.fm_records.specs.Orders.{spot_cmp, attempt_cmp}
use Rattle.fm_records.specs.laws.OrderLaws.{total_attempt, same_attempt}
use Rattle.fm_records.specs.Joined.{spots_join}
use Rattle.fm_records.specs.OpsOfTable.{IsFull}
use Rattle.fm_wire.specs.Grammar.{entry_cmp, flat_at, flat_of}
use Rattle.fm_wire.proofs.Walks.{IsAbove, put_above}

abbrev Key : Type 0
Key = (ℕ × ℕ) × ℕ

abbrev Spots : Type 0
Spots = List (ℕ × Spot)

abbrev Groups : Type 0
Groups = List ((ℕ × ℕ) × Spots)

pub entry_total : IsTotalOrder entry_cmp
entry_total = then_total (on_total (λ (k : Key). k.0) total_attempt) (on_total (λ (k : Key). k.1) nat_cmp_total)

-- ---- lists whose keys rise, cut in two

module _ {K V : Type 0} (cmp : K → K → Ordering) (total : IsTotalOrder cmp) where
  below_middle : (k : K) (xs : List (K × V)) (e : K × V) (ys : List (K × V)) → IsBelow cmp k (xs ++ e ∷ ys) → cmp k e.0 ≡ Less
  below_middle k [] e ys b = b.0
  below_middle k (x ∷ xs) e ys b = below_middle k xs e ys b.1

  below_front : (k : K) (xs ys : List (K × V)) → IsBelow cmp k (xs ++ ys) → IsBelow cmp k xs
  below_front k [] ys b = tt
  below_front k (x ∷ xs) ys b = (b.0, below_front k xs ys b.1)

  pub middle_above : (xs : List (K × V)) (e : K × V) (ys : List (K × V)) → IsRising cmp (xs ++ e ∷ ys) → IsAbove cmp total e.0 xs
  middle_above [] e ys r = tt
  middle_above (x ∷ xs) e ys r = (below_middle x.0 xs e ys r.0, middle_above xs e ys r.1)

  pub rising_front : (xs ys : List (K × V)) → IsRising cmp (xs ++ ys) → IsRising cmp xs
  rising_front [] ys r = tt
  rising_front (x ∷ xs) ys r = (below_front x.0 xs ys r.0, rising_front xs ys r.1)

  below_both : (k : K) (xs ys : List (K × V)) → IsBelow cmp k xs → IsBelow cmp k ys → IsBelow cmp k (xs ++ ys)
  below_both k [] ys a b = b
  below_both k (x ∷ xs) ys a b = (a.0, below_both k xs ys a.1 b)

-- ---- the entries rise

below_at : (at : ℕ × ℕ) (c : ℕ) (spots : Spots) → IsBelow nat_cmp c spots → IsBelow entry_cmp (at, c) (flat_at at spots)
below_at at c [] b = tt
below_at at c (s ∷ spots) b = (rw (tied_itself total_attempt at) b.0, below_at at c spots b.1)

below_group : (at here : ℕ × ℕ) (c : ℕ) (spots : Spots) → attempt_cmp at here ≡ Less → IsBelow entry_cmp (at, c) (flat_at here spots)
below_group at here c [] e = tt
below_group at here c (s ∷ spots) e = (rw e refl, below_group at here c spots e)

pub below_groups : (at : ℕ × ℕ) (c : ℕ) (groups : Groups) → IsBelow attempt_cmp at groups → IsBelow entry_cmp (at, c) (flat_of groups)
below_groups at c [] b = tt
below_groups at c (g ∷ groups) b = below_both entry_cmp entry_total (at, c) (flat_at g.0 g.1) (flat_of groups) (below_group at g.0 c g.1 b.0) (below_groups at c groups b.1)

rising_group : (at : ℕ × ℕ) (spots : Spots) (groups : Groups) → IsRising nat_cmp spots → IsBelow attempt_cmp at groups → IsRising entry_cmp (flat_of groups) → IsRising entry_cmp (flat_at at spots ++ flat_of groups)
rising_group at [] groups r b rest = rest
rising_group at (s ∷ spots) groups r b rest =
    (below_both entry_cmp entry_total (at, s.0) (flat_at at spots) (flat_of groups) (below_at at s.0 spots r.0) (below_groups at s.0 groups b), rising_group at spots groups r.1 b rest)

-- the spots of each attempt rise
abbrev Rise : Spots → Type 0
Rise spots = IsRising nat_cmp spots

pub entries_rise : (groups : Groups) → IsRising attempt_cmp groups → AreValues Rise groups → IsRising entry_cmp (flat_of groups)
entries_rise [] r v = tt
entries_rise (g ∷ groups) r v = rising_group g.0 g.1 groups v.0 r.0 (entries_rise groups r.1 v.1)

pub maps_rise : (groups : Groups) → AreValues (IsMap {V = Spot} nat_cmp Any) groups → AreValues Rise groups
maps_rise [] v = tt
maps_rise (g ∷ groups) v = (v.0.rising, maps_rise groups v.1)

pub full_rise : (groups : Groups) → AreValues IsFull groups → AreValues Rise groups
full_rise [] v = tt
full_rise (g ∷ groups) v = (v.0.rising, full_rise groups v.1)

-- ---- one entry more

full_append : (spots : Spots) (s : ℕ × Spot) → unless_empty (spots ++ s ∷ []) ≡ Some (spots ++ s ∷ [])
full_append [] s = refl
full_append (x ∷ spots) s = refl

full_put : (c : ℕ) (s : Spot) (spots : Spots) → IsRising nat_cmp spots → IsAbove nat_cmp nat_cmp_total c spots → IsFull (put nat_cmp (min_join spot_cmp) c s spots)
full_put c s spots r above =
    let is = put_above nat_cmp nat_cmp_total (min_join spot_cmp) c s spots above in
    record {
      rising = rising_put nat_cmp nat_cmp_total nat_same (min_join spot_cmp) c s spots r;
      full = subst (λ z. unless_empty z ≡ Some z) (sym is) (full_append spots (c, s));
    }

then_second : (o p : Ordering) → o ≡ Equal → ordering_then o p ≡ Less → p ≡ Less
then_second o p e h = rw e at h

-- if the attempt is that of the last group, the new coordinator comes after its coordinators
above_in : (at here : ℕ × ℕ) (c : ℕ) (spots : Spots) → attempt_cmp here at ≡ Equal → IsAbove entry_cmp entry_total (at, c) (flat_at here spots) → IsAbove nat_cmp nat_cmp_total c spots
above_in at here c [] e h = tt
above_in at here c (s ∷ spots) e h = (then_second (attempt_cmp here at) (nat_cmp s.0 c) e h.0, above_in at here c spots e h.1)

above_front : (k : Key) (xs ys : List (Key × Spot)) → IsAbove entry_cmp entry_total k (xs ++ ys) → IsAbove entry_cmp entry_total k xs
above_front k [] ys h = tt
above_front k (x ∷ xs) ys h = (h.0, above_front k xs ys h.1)

above_back : (k : Key) (xs ys : List (Key × Spot)) → IsAbove entry_cmp entry_total k (xs ++ ys) → IsAbove entry_cmp entry_total k ys
above_back k [] ys h = h
above_back k (x ∷ xs) ys h = above_back k xs ys h.1

less_first : (o p : Ordering) → o ≡ Greater → ordering_then o p ≡ Less → ⊥
less_first Less p e h = cc
less_first Equal p e h = cc
less_first Greater p e h = cc

no_full : IsFull [] → ⊥
no_full f = let h = f.full in absurd cc

-- a group that has an entry below the new one is not above it
not_greater : (at here : ℕ × ℕ) (c : ℕ) (spots : Spots) → IsFull spots → attempt_cmp here at ≡ Greater → IsAbove entry_cmp entry_total (at, c) (flat_at here spots) → ⊥
not_greater at here c [] f e h = no_full f
not_greater at here c (s ∷ spots) f e h = less_first (attempt_cmp here at) (nat_cmp s.0 c) e h.0

-- the entry joined in at its attempt
abbrev pub with_entry : ℕ × ℕ → ℕ → Spot → Groups → Groups
with_entry at c s groups = put attempt_cmp spots_join at ((c, s) ∷ []) groups

entries_append : (a b : Spots) (at : ℕ × ℕ) → flat_at at (a ++ b) ≡ flat_at at a ++ flat_at at b
entries_append [] b at = refl
entries_append (x ∷ a) b at = ap (λ z. ((at, x.0), x.1) ∷ z) (entries_append a b at)

abbrev one : ℕ × ℕ → ℕ → Spot → List (Key × Spot)
one at c s = ((at, c), s) ∷ []

-- nothing comes after the group of the new entry's attempt
last_group : (at here : ℕ × ℕ) (c : ℕ) (groups : Groups) → AreValues IsFull groups → attempt_cmp at here ≡ Equal → IsBelow attempt_cmp here groups → IsAbove entry_cmp entry_total (at, c) (flat_of groups) → groups ≡ []
last_group at here c [] v e b h = refl
last_group at here c (g ∷ groups) v e b h =
    let less : attempt_cmp at g.0 ≡ Less = subst (λ z. attempt_cmp z g.0 ≡ Less) (sym (same_attempt at here e)) b.0 in
    absurd (not_greater at g.0 c g.1 v.0 (less_greater attempt_cmp total_attempt at g.0 less) (above_front (at, c) (flat_at g.0 g.1) (flat_of groups) h))

finish : (a o : List (Key × Spot)) (groups : Groups) → groups ≡ [] → (a ++ o) ++ flat_of groups ≡ (a ++ flat_of groups) ++ o
finish a o groups none = subst (λ z. (a ++ o) ++ flat_of z ≡ (a ++ flat_of z) ++ o) (sym none) (append-nil (a ++ o) ∙ ap (λ z. z ++ o) (sym (append-nil a)))

pub entry_added : (at : ℕ × ℕ) (c : ℕ) (s : Spot) (groups : Groups) → IsRising attempt_cmp groups → AreValues IsFull groups → IsAbove entry_cmp entry_total (at, c) (flat_of groups)
    → (flat_of (with_entry at c s groups) ≡ flat_of groups ++ one at c s) × AreValues IsFull (with_entry at c s groups)
entry_added at c s [] r v h = (refl, (record { rising = (tt, tt); full = refl }, tt))
entry_added at c s (g ∷ groups) r v h =
    let here = above_front (at, c) (flat_at g.0 g.1) (flat_of groups) h in
    let later = above_back (at, c) (flat_at g.0 g.1) (flat_of groups) h in
    by_cases (attempt_cmp at g.0) (λ o.
    let new : Groups = by_order o ((at, (c, s) ∷ []) ∷ g ∷ groups) ((g.0, spots_join g.1 ((c, s) ∷ [])) ∷ groups) (g ∷ with_entry at c s groups) in
    (flat_of new ≡ flat_of (g ∷ groups) ++ one at c s) × AreValues IsFull new)
    (λ e. absurd (not_greater at g.0 c g.1 v.0 (less_greater attempt_cmp total_attempt at g.0 e) here))
    (λ e.
    let none : groups ≡ [] = last_group at g.0 c groups v.1 e r.0 later in
    let above = above_in at g.0 c g.1 (tied_back total_attempt at g.0 e) here in
    let grown : put nat_cmp (min_join spot_cmp) c s g.1 ≡ g.1 ++ (c, s) ∷ [] = put_above nat_cmp nat_cmp_total (min_join spot_cmp) c s g.1 above in
    let same : at ≡ g.0 = same_attempt at g.0 e in
    let group : flat_at g.0 (put nat_cmp (min_join spot_cmp) c s g.1) ≡ flat_at g.0 g.1 ++ one at c s = ap (flat_at g.0) grown ∙ entries_append g.1 ((c, s) ∷ []) g.0 ∙ ap (λ z. flat_at g.0 g.1 ++ one z c s) (sym same) in
    (ap (λ z. z ++ flat_of groups) group ∙ finish (flat_at g.0 g.1) (one at c s) groups none, (full_put c s g.1 v.0.rising above, v.1)))
    (λ e.
    let rest = entry_added at c s groups r.1 v.1 later in
    (ap (λ z. flat_at g.0 g.1 ++ z) rest.0 ∙ sym (append_assoc (flat_at g.0 g.1) (flat_of groups) (one at c s)), (v.0, rest.1)))

-- ---- the steps of the loops

abbrev Listing : Type 0
Listing = List (Key × Spot)

pub group_step : (at : ℕ × ℕ) (c : ℕ) (s : Spot) (entries new all : Listing) (old left : Spots) → old ≡ (c, s) ∷ left → IsRising entry_cmp all → entries ++ flat_at at old ≡ all
    → new ≡ put entry_cmp (min_join spot_cmp) (at, c) s entries → new ++ flat_at at left ≡ all
group_step at c s entries new all old left first r so_far is =
    let here : entries ++ ((at, c), s) ∷ flat_at at left ≡ all = ap (λ z. entries ++ flat_at at z) (sym first) ∙ so_far in
    let above = middle_above entry_cmp entry_total entries ((at, c), s) (flat_at at left) (subst (IsRising entry_cmp) (sym here) r) in
    let added : new ≡ entries ++ one at c s = is ∙ put_above entry_cmp entry_total (min_join spot_cmp) (at, c) s entries above in
    ap (λ z. z ++ flat_at at left) added ∙ append_assoc entries (one at c s) (flat_at at left) ∙ here

pub group_fits : (at : ℕ × ℕ) (spots : Spots) (entries all : Listing) (old left : Groups) → old ≡ (at, spots) ∷ left → IsRising entry_cmp all → entries ++ flat_of old ≡ all → IsRising entry_cmp (entries ++ flat_at at spots)
group_fits at spots entries all old left first r so_far =
    let here : (entries ++ flat_at at spots) ++ flat_of left ≡ all = append_assoc entries (flat_at at spots) (flat_of left) ∙ ap (λ z. entries ++ flat_of z) (sym first) ∙ so_far in
    rising_front entry_cmp entry_total (entries ++ flat_at at spots) (flat_of left) (subst (IsRising entry_cmp) (sym here) r)

pub groups_step : (at : ℕ × ℕ) (spots : Spots) (entries new all : Listing) (old left : Groups) → old ≡ (at, spots) ∷ left → entries ++ flat_of old ≡ all → new ≡ entries ++ flat_at at spots → new ++ flat_of left ≡ all
groups_step at spots entries new all old left first so_far is =
    ap (λ z. z ++ flat_of left) is ∙ append_assoc entries (flat_at at spots) (flat_of left) ∙ ap (λ z. entries ++ flat_of z) (sym first) ∙ so_far

-- the groups of the entries so far
pub record AreGroups (groups : Groups) (left all : Listing) : Type 0 where
  pub so_far : flat_of groups ++ left ≡ all
  pub rising : IsRising attempt_cmp groups
  pub full : AreValues IsFull groups

pub groups_begin : (groups : Groups) (left all : Listing) → groups ≡ [] → left ≡ all → AreGroups groups left all
groups_begin groups left all none is = subst (λ z. AreGroups z left all) (sym none) (record { so_far = is; rising = tt; full = tt })

pub entry_step : (at : ℕ × ℕ) (c : ℕ) (s : Spot) (groups new : Groups) (old left all : Listing) → old ≡ ((at, c), s) ∷ left → IsRising entry_cmp all → AreGroups groups old all → new ≡ with_entry at c s groups → AreGroups new left all
entry_step at c s groups new old left all first r so_far is =
    let here : flat_of groups ++ ((at, c), s) ∷ left ≡ all = ap (λ z. flat_of groups ++ z) (sym first) ∙ so_far.so_far in
    let above = middle_above entry_cmp entry_total (flat_of groups) ((at, c), s) left (subst (IsRising entry_cmp) (sym here) r) in
    let added = entry_added at c s groups so_far.rising so_far.full above in
    subst (λ z. AreGroups z left all) (sym is) (record {
      so_far = ap (λ z. z ++ left) added.0 ∙ append_assoc (flat_of groups) (one at c s) left ∙ here;
      rising = rising_put attempt_cmp total_attempt same_attempt spots_join at ((c, s) ∷ []) groups so_far.rising;
      full = added.1;
    })

pub groups_end : (groups : Groups) (left all : Listing) → left ≡ [] → AreGroups groups left all → flat_of groups ≡ all
groups_end groups left all none h = sym (append-nil (flat_of groups)) ∙ ap (λ z. flat_of groups ++ z) (sym none) ∙ h.so_far
