-- The keys of two tables joined are the keys of both.
use Rattle.std.proofs.Common.{◌≡◌, ◌∙◌, ℕ, Bool, true, false, List, [], ◌∷◌, ◌++◌, map, refl, sym, ap}
use Rattle.std.specs.Prelude.{◌||◌, ◌&&◌}
use Rattle.std.specs.Ordering.{nat_cmp, is_eq}
use Rattle.std.specs.List.Sorted.{IsStrictlySortedBy}
use Rattle.std.specs.Cmp.{nat_cmp_total}
use Rattle.std.specs.declared.cmp.Ordering.{Ordering}
use Rattle.std.specs.declared.cmp.Ordering.TheVariants.{Equal}
use Rattle.fm_lattice.specs.Chains.{by_order}
use Rattle.fm_lattice.specs.laws.ChainLaws.{by_cases, nat_same}
use Rattle.fm_lattice.specs.Maps.{IsBelow, IsRising, put, map_join}
use Rattle.fm_records.specs.Sets.{insert_once, rising}
use Rattle.fm_records.specs.Table.{Table}
use Rattle.fm_records.proofs.TableLaws.{rises_rising}
use Rattle.fm_records.specs.Rising.{IsBelowAll, Rises}
use Rattle.fm_records.specs.Ranges.{CanBe}
use Rattle.fm_lattice.specs.Joins.{max_join}
use Rattle.fm_records.specs.Orders.{job_cmp, attempt_cmp}
use Rattle.fm_records.specs.laws.OrderLaws.{same_attempt}
use Rattle.fm_records.specs.Joined.{task_join, machine_join, spots_join, table_join}
use Rattle.fm_records.proofs.JoinedLaws.{join_can_be}
use Rattle.fm_net.proofs.ListLaws.{same_rising}
use Rattle.fm_policy.specs.Changes.{Keys, changed_keys, joined_keys, is_nil, has_no_keys}
use Rattle.fm_policy.proofs.Named.{has, has_rising, again, swapped, rises_said}

pub or_none : (b : Bool) → b ≡ (b || false)
or_none true = refl
or_none false = refl

aside : (b c d : Bool) → ((b || c) || d) ≡ (c || (b || d))
aside true true d = refl
aside true false d = refl
aside false c d = refl

regrouped : (a b c d : Bool) → ((a || b) || (c || d)) ≡ ((a || c) || (b || d))
regrouped true b c d = refl
regrouped false true true d = refl
regrouped false true false d = refl
regrouped false false c d = refl

pub has_append : (xs ys : List ℕ) (q : ℕ) → has (xs ++ ys) q ≡ (has xs q || has ys q)
has_append [] ys q = refl
has_append (x ∷ xs) ys q = ap (λ b. is_eq (nat_cmp q x) || b) (has_append xs ys q) ∙ grouped (is_eq (nat_cmp q x)) (has xs q) (has ys q) where
  grouped : (a b c : Bool) → (a || (b || c)) ≡ ((a || b) || c)
  grouped true b c = refl
  grouped false b c = refl

-- The names of a map's keys: those of the joined map are the names of both.
module _ {K V : Type 0} (cmp : K → K → Ordering) (exact : (a b : K) → cmp a b ≡ Equal → a ≡ b) (join : V → V → V) (name : K → ℕ) where
  abbrev names : List (K × V) → List ℕ
  names es = map (λ e. name e.0) es

  put_names : (k : K) (v : V) (es : List (K × V)) (q : ℕ) → has (names (put cmp join k v es)) q ≡ (is_eq (nat_cmp q (name k)) || has (names es) q)
  put_names k v [] q = refl
  put_names k v (e ∷ es) q =
      let here = is_eq (nat_cmp q (name e.0)) in
      by_cases (cmp k e.0) (λ o. has (names (by_order o ((k, v) ∷ e ∷ es) ((e.0, join e.1 v) ∷ es) (e ∷ put cmp join k v es))) q ≡ (is_eq (nat_cmp q (name k)) || has (names (e ∷ es)) q))
      (λ _. refl)
      (λ same. again here (has (names es) q) ∙ ap (λ w. is_eq (nat_cmp q (name w)) || (here || has (names es) q)) (sym (exact k e.0 same)))
      (λ _. ap (λ b. here || b) (put_names k v es q) ∙ swapped here (is_eq (nat_cmp q (name k))) (has (names es) q))

  pub join_names : (a b : List (K × V)) (q : ℕ) → has (names (map_join cmp join a b)) q ≡ (has (names a) q || has (names b) q)
  join_names a [] q = or_none (has (names a) q)
  join_names a (e ∷ es) q =
      join_names (put cmp join e.0 e.1 a) es q
      ∙ ap (λ b. b || has (names es) q) (put_names e.0 e.1 a q)
      ∙ aside (is_eq (nat_cmp q (name e.0))) (has (names a) q) (has (names es) q)

below_names : {V : Type 0} (k : ℕ) (es : List (ℕ × V)) → IsBelow nat_cmp k es → IsBelowAll nat_cmp k (map (λ e. e.0) es)
below_names k [] h = tt
below_names k (e ∷ es) h = (h.0, below_names k es h.1)

names_rise : {V : Type 0} (es : List (ℕ × V)) → IsRising nat_cmp es → Rises nat_cmp (map (λ e. e.0) es)
names_rise [] h = tt
names_rise (e ∷ es) h = (below_names e.0 es h.0, names_rise es h.1)

-- the keys of a map with rising keys are those of both, rising
both : {V : Type 0} (join : V → V → V) (a b : List (ℕ × V)) → IsRising nat_cmp (map_join nat_cmp join a b)
    → map (λ e. e.0) (map_join nat_cmp join a b) ≡ rising nat_cmp (map (λ e. e.0) a ++ map (λ e. e.0) b)
both {V} join a b rise =
    let xs : List ℕ = map (λ (e : ℕ × V). e.0) a in
    let ys : List ℕ = map (λ (e : ℕ × V). e.0) b in
    same_rising nat_cmp nat_cmp_total nat_same (map (λ e. e.0) (map_join nat_cmp join a b)) (rising nat_cmp (xs ++ ys))
    (names_rise (map_join nat_cmp join a b) rise) (rises_rising nat_cmp nat_cmp_total nat_same (xs ++ ys))
    (λ q. join_names nat_cmp nat_same join (λ k. k) a b q ∙ sym (has_append xs ys q) ∙ sym (has_rising (xs ++ ys) q))

pub keys_joined : (k l : Table) → CanBe k → CanBe l → changed_keys (table_join k l) ≡ joined_keys (changed_keys k) (changed_keys l)
keys_joined k l k_can l_can =
    let maps = (join_can_be k l k_can l_can).table in
    let jobs = both (max_join job_cmp) k.jobs l.jobs maps.jobs.rising in
    let machines = both machine_join k.machines l.machines maps.machines.rising in
    let told : Table → List ℕ = λ t. map (λ e. e.0) t.tasks ++ map (λ e. e.0.0) t.proposals in
    let tasks : rising nat_cmp (told (table_join k l)) ≡ rising nat_cmp (rising nat_cmp (told k) ++ rising nat_cmp (told l)) =
    same_rising nat_cmp nat_cmp_total nat_same (rising nat_cmp (told (table_join k l))) (rising nat_cmp (rising nat_cmp (told k) ++ rising nat_cmp (told l)))
    (rises_rising nat_cmp nat_cmp_total nat_same (told (table_join k l))) (rises_rising nat_cmp nat_cmp_total nat_same (rising nat_cmp (told k) ++ rising nat_cmp (told l)))
    (λ q.
    has_rising (told (table_join k l)) q
    ∙ has_append (map (λ e. e.0) (table_join k l).tasks) (map (λ e. e.0.0) (table_join k l).proposals) q
    ∙ (λ i. join_names nat_cmp nat_same task_join (λ t. t) k.tasks l.tasks q i || join_names attempt_cmp same_attempt spots_join (λ at. at.0) k.proposals l.proposals q i)
    ∙ regrouped (has (map (λ e. e.0) k.tasks) q) (has (map (λ e. e.0) l.tasks) q) (has (map (λ e. e.0.0) k.proposals) q) (has (map (λ e. e.0.0) l.proposals) q)
    ∙ sym (λ i. has_append (map (λ e. e.0) k.tasks) (map (λ e. e.0.0) k.proposals) q i || has_append (map (λ e. e.0) l.tasks) (map (λ e. e.0.0) l.proposals) q i)
    ∙ sym (λ i. has_rising (told k) q i || has_rising (told l) q i)
    ∙ sym (has_append (rising nat_cmp (told k)) (rising nat_cmp (told l)) q)
    ∙ sym (has_rising (rising nat_cmp (told k) ++ rising nat_cmp (told l)) q)) in
    λ i. record { jobs = jobs i; tasks = tasks i; machines = machines i }

-- Keys that are none.
inserted : (x : ℕ) (xs : List ℕ) → is_nil (insert_once nat_cmp x xs) ≡ false
inserted x [] = refl
inserted x (y ∷ ys) = by_cases (nat_cmp x y) (λ o. is_nil (by_order o (x ∷ y ∷ ys) (y ∷ ys) (y ∷ insert_once nat_cmp x ys)) ≡ false) (λ _. refl) (λ _. refl) (λ _. refl)

nil_joined : (xs ys : List ℕ) → is_nil (rising nat_cmp (xs ++ ys)) ≡ (is_nil xs && is_nil ys)
nil_joined [] [] = refl
nil_joined [] (y ∷ ys) = inserted y (rising nat_cmp ys)
nil_joined (x ∷ xs) ys = inserted x (rising nat_cmp (xs ++ ys))

six : (a b c d e f : Bool) → ((a && b) && (c && d) && (e && f)) ≡ ((a && c && e) && (b && d && f))
six true true c d e f = four c d e f where
  four : (c d e f : Bool) → ((c && d) && (e && f)) ≡ ((c && e) && (d && f))
  four true true e f = refl
  four true false true f = refl
  four true false false f = refl
  four false d e f = refl
six true false true d true f = refl
six true false true d false f = refl
six true false false d e f = refl
six false b c d e f = refl

pub no_keys_joined : (a b : Keys) → has_no_keys (joined_keys a b) ≡ (has_no_keys a && has_no_keys b)
no_keys_joined a b =
    (λ i. nil_joined a.jobs b.jobs i && nil_joined a.tasks b.tasks i && nil_joined a.machines b.machines i)
    ∙ six (is_nil a.jobs) (is_nil b.jobs) (is_nil a.tasks) (is_nil b.tasks) (is_nil a.machines) (is_nil b.machines)

both_hold : (a b : Bool) → (a && b) ≡ true → (a ≡ true) × (b ≡ true)
both_hold true b h = (refl, h)
both_hold false b h = absurd (let no : ⊥ = cc in no)

nothing_named : {X : Type 0} (f : X → ℕ) (xs : List X) → is_nil (map f xs) ≡ true → xs ≡ []
nothing_named f [] h = refl
nothing_named f (x ∷ xs) h = absurd (let no : ⊥ = cc in no)

nothing_told : (xs ys : List ℕ) → is_nil (rising nat_cmp (xs ++ ys)) ≡ true → (is_nil xs ≡ true) × (is_nil ys ≡ true)
nothing_told xs ys h = both_hold (is_nil xs) (is_nil ys) (sym (nil_joined xs ys) ∙ h)

pub nothing_joined : (k d : Table) → has_no_keys (changed_keys d) ≡ true → table_join k d ≡ k
nothing_joined k d none =
    let names = changed_keys d in
    let parts = both_hold (is_nil names.jobs && is_nil names.tasks) (is_nil names.machines) none in
    let first = both_hold (is_nil names.jobs) (is_nil names.tasks) parts.0 in
    let told = nothing_told (map (λ e. e.0) d.tasks) (map (λ e. e.0.0) d.proposals) first.1 in
    let d_jobs = nothing_named (λ e. e.0) d.jobs first.0 in
    let d_tasks = nothing_named (λ e. e.0) d.tasks told.0 in
    let d_proposals = nothing_named (λ e. e.0.0) d.proposals told.1 in
    let d_machines = nothing_named (λ e. e.0) d.machines parts.1 in
    λ i. table_join k (record { jobs = d_jobs i; tasks = d_tasks i; machines = d_machines i; proposals = d_proposals i })

-- a set that has just what both lists have is both, rising
pub rising_set : (keys xs ys : List ℕ) → IsStrictlySortedBy nat_cmp keys → ((q : ℕ) → has keys q ≡ (has xs q || has ys q)) → keys ≡ rising nat_cmp (xs ++ ys)
rising_set keys xs ys sorted same =
    same_rising nat_cmp nat_cmp_total nat_same keys (rising nat_cmp (xs ++ ys)) (rises_said keys sorted) (rises_rising nat_cmp nat_cmp_total nat_same (xs ++ ys))
    (λ q. same q ∙ sym (has_append xs ys q) ∙ sym (has_rising (xs ++ ys) q))
