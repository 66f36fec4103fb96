-- Going over records from the front: what is left gives what all gave.
use Rattle.std.proofs.Common.{◌≡◌, ℕ, suc, ◌+◌, ◌-◌, ◌<◌, ◌≤◌, true, cond, List, [], ◌∷◌, ◌++◌, length, Option, Some, Result, Ok, Err, refl, sym, ap, subst, ◌∙◌, append_assoc, arith}
use Rattle.std.specs.List.{AllByRecursion, flat_map}
use Rattle.std.specs.Ordering.{is_lt}
use Rattle.std.specs.Cmp.{IsTotalOrder}
use Rattle.std.specs.declared.cmp.Ordering.{Ordering}
use Rattle.std.specs.declared.cmp.Ordering.TheVariants.{Less, Equal, Greater}
use Rattle.std.proofs.lemmas.List.{append-nil}
use Rattle.std.proofs.lemmas.List.Concat.{flat_map-cons}
use Rattle.fm_lattice.specs.laws.ChainLaws.{less_greater}
use Rattle.fm_lattice.specs.Maps.{put}
use Rattle.std.specs.Int.{Width}
use Rattle.fm_wire.specs.Formats.{Reading, ◌>>=◌, Format, bytes_of, comes_after, key_at, record_at, records_at}
use Rattle.fm_wire.specs.inner.Decoding.{rest_of}
use Rattle.fm_wire.proofs.Binds.{bind_ok, guard_ok, ok_is}

rest_after : {A : Type 0} (e : A) (r : Reading (List A)) → rest_of (r >>= λ others. Ok (e ∷ others.0, others.1)) ≡ rest_of r
rest_after e (Ok x) = refl
rest_after e (Err left) = refl

-- what was read before goes in front
abbrev pub with_front : {A : Type 0} → List A → Reading (List A) → Reading (List A)
with_front front read = read >>= λ x. Ok (front ++ x.0, x.1)

no_front : {A : Type 0} (r : Reading (List A)) → with_front [] r ≡ r
no_front (Ok x) = refl
no_front (Err left) = refl

regroup : {A : Type 0} (front : List A) (e : A) (r : Reading (List A)) → with_front front (r >>= λ others. Ok (e ∷ others.0, others.1)) ≡ with_front (front ++ e ∷ []) r
regroup front e (Ok x) = ap (λ ys. Ok (ys, x.1)) (sym (append_assoc front (e ∷ []) x.0))
regroup front e (Err left) = refl

module _ {K V : Type 0} (cmp : K → K → Ordering) (F : Format K) (G : Format V) where
  one_more : (n : ℕ) (last : Option K) (bytes : List ℕ) (e : K × V) (after : List ℕ) → record_at cmp F G last bytes ≡ Ok (e, after)
      → records_at cmp F G (suc n) last bytes ≡ (records_at cmp F G n (Some e.0) after >>= λ others. Ok (e ∷ others.0, others.1))
  unfolding records_at
  one_more n last bytes e after h = rw h refl

  no_more : (n : ℕ) (last : Option K) (bytes : List ℕ) (left : ℕ) → record_at cmp F G last bytes ≡ Err left → records_at cmp F G (suc n) last bytes ≡ Err left
  unfolding records_at
  no_more n last bytes left h = rw h refl

  nothing_left : (last : Option K) (bytes : List ℕ) → records_at cmp F G 0 last bytes ≡ Ok ([], bytes)
  unfolding records_at
  nothing_left last bytes = refl

  -- the walk that keeps the bytes alone

  pub walk_goes_on : (count i : ℕ) (last : Option K) (bytes : List ℕ) (e : K × V) (after : List ℕ) (total : Result (List ℕ) ℕ) → i < count → record_at cmp F G last bytes ≡ Ok (e, after)
      → rest_of (records_at cmp F G (count - i) last bytes) ≡ total → rest_of (records_at cmp F G (count - (i + 1)) (Some e.0) after) ≡ total
  walk_goes_on count i last bytes e after total lt h so_far =
      let k : count - i ≡ suc (count - (i + 1)) = omega arith in
      sym (ap (λ n. rest_of (records_at cmp F G n last bytes)) k ∙ ap rest_of (one_more (count - (i + 1)) last bytes e after h) ∙ rest_after e (records_at cmp F G (count - (i + 1)) (Some e.0) after)) ∙ so_far

  pub walk_ends : (count i : ℕ) (last : Option K) (bytes : List ℕ) (left : ℕ) (total : Result (List ℕ) ℕ) → i < count → record_at cmp F G last bytes ≡ Err left
      → rest_of (records_at cmp F G (count - i) last bytes) ≡ total → total ≡ Err left
  walk_ends count i last bytes left total lt h so_far =
      let k : count - i ≡ suc (count - (i + 1)) = omega arith in
      sym so_far ∙ ap (λ n. rest_of (records_at cmp F G n last bytes)) k ∙ ap rest_of (no_more (count - (i + 1)) last bytes left h)

  pub walk_done : (count i : ℕ) (last : Option K) (bytes : List ℕ) (total : Result (List ℕ) ℕ) → count ≤ i → rest_of (records_at cmp F G (count - i) last bytes) ≡ total → total ≡ Ok bytes
  walk_done count i last bytes total le so_far =
      let k : count - i ≡ 0 = omega arith in
      sym so_far ∙ ap (λ n. rest_of (records_at cmp F G n last bytes)) k ∙ ap rest_of (nothing_left last bytes)

  -- the walk that keeps the records

  pub read_begins : (front : List (K × V)) (count : ℕ) (last : Option K) (bytes : List ℕ) → front ≡ [] → with_front front (records_at cmp F G (count - 0) last bytes) ≡ records_at cmp F G count last bytes
  read_begins front count last bytes none =
      let k : count - 0 ≡ count = omega arith in
      ap (λ es. with_front es (records_at cmp F G (count - 0) last bytes)) none ∙ ap (λ n. with_front [] (records_at cmp F G n last bytes)) k ∙ no_front (records_at cmp F G count last bytes)

  pub read_goes_on : (front : List (K × V)) (count i : ℕ) (last : Option K) (bytes : List ℕ) (e : K × V) (after : List ℕ) (total : Reading (List (K × V))) → i < count → record_at cmp F G last bytes ≡ Ok (e, after)
      → with_front front (records_at cmp F G (count - i) last bytes) ≡ total → with_front (front ++ e ∷ []) (records_at cmp F G (count - (i + 1)) (Some e.0) after) ≡ total
  read_goes_on front count i last bytes e after total lt h so_far =
      let k : count - i ≡ suc (count - (i + 1)) = omega arith in
      sym (ap (λ n. with_front front (records_at cmp F G n last bytes)) k ∙ ap (with_front front) (one_more (count - (i + 1)) last bytes e after h) ∙ regroup front e (records_at cmp F G (count - (i + 1)) (Some e.0) after)) ∙ so_far

  pub read_ends : (front : List (K × V)) (count i : ℕ) (last : Option K) (bytes : List ℕ) (left : ℕ) (total : Reading (List (K × V))) → i < count → record_at cmp F G last bytes ≡ Err left
      → with_front front (records_at cmp F G (count - i) last bytes) ≡ total → total ≡ Err left
  read_ends front count i last bytes left total lt h so_far =
      let k : count - i ≡ suc (count - (i + 1)) = omega arith in
      sym so_far ∙ ap (λ n. with_front front (records_at cmp F G n last bytes)) k ∙ ap (with_front front) (no_more (count - (i + 1)) last bytes left h)

  pub read_done : (front : List (K × V)) (count i : ℕ) (last : Option K) (bytes : List ℕ) (total : Reading (List (K × V))) → count ≤ i → with_front front (records_at cmp F G (count - i) last bytes) ≡ total → total ≡ Ok (front, bytes)
  read_done front count i last bytes total le so_far =
      let k : count - i ≡ 0 = omega arith in
      sym so_far ∙ ap (λ n. with_front front (records_at cmp F G n last bytes)) k ∙ ap (with_front front) (nothing_left last bytes) ∙ ap (λ es. Ok (es, bytes)) (append-nil front)

  key_rises : (last : Option K) (bytes : List ℕ) (key : K × List ℕ) → key_at cmp F last bytes ≡ Ok key → comes_after cmp last key.0 ≡ true
  unfolding key_at
  key_rises last bytes key h =
      let found = bind_ok (F.read bytes) (λ k. cond (comes_after cmp last k.0) (Ok k) (Err (length bytes))) key h in
      let test = guard_ok (comes_after cmp last found.0.0) (length bytes) found.0 key found.2 in
      subst (λ (k : K × List ℕ). comes_after cmp last k.0 ≡ true) test.1 test.0

  -- a record that is read comes after the last one
  pub key_after : (last : Option K) (bytes : List ℕ) (e : K × V) (after : List ℕ) → record_at cmp F G last bytes ≡ Ok (e, after) → comes_after cmp last e.0 ≡ true
  unfolding record_at
  key_after last bytes e after h =
      let made : (K × V) × List ℕ = (e, after) in
      let key = bind_ok (key_at cmp F last bytes) (λ k. G.read k.1 >>= λ v. Ok ((k.0, v.0), v.1)) made h in
      let value = bind_ok (G.read key.0.1) (λ v. Ok ((key.0.0, v.0), v.1)) made key.2 in
      let whole : (K × V) × List ℕ = ((key.0.0, value.0.0), value.0.1) in
      subst (λ (x : (K × V) × List ℕ). comes_after cmp last x.0.0 ≡ true) (ok_is whole made value.2) (key_rises last bytes key.0 key.1)

pub less_is : (o : Ordering) → is_lt o ≡ true → o ≡ Less
less_is Less h = refl
less_is Equal h = absurd cc
less_is Greater h = absurd cc

module _ {K V : Type 0} (cmp : K → K → Ordering) (total : IsTotalOrder cmp) where
  -- the key is above each of the list
  abbrev pub IsAbove : K → List (K × V) → Type 0
  IsAbove k = AllByRecursion (λ e. cmp e.0 k ≡ Less)

  -- what comes after the last one is above each of the list
  abbrev pub IsEnd : Option K → List (K × V) → Type 0
  IsEnd last es = (k : K) → comes_after cmp last k ≡ true → IsAbove k es

  above_next : (k q : K) (v : V) (es : List (K × V)) → IsAbove k es → cmp k q ≡ Less → IsAbove q (es ++ (k, v) ∷ [])
  above_next k q v [] h lt = (lt, tt)
  above_next k q v (e ∷ es) h lt = (total.trans e.0 k q h.0 lt, above_next k q v es h.1 lt)

  pub end_begins : (last : Option K) (es : List (K × V)) → es ≡ [] → IsEnd last es
  end_begins last es none k h = subst (IsAbove k) (sym none) tt

  pub end_next : (last : Option K) (key : K) (v : V) (es : List (K × V)) → IsEnd last es → comes_after cmp last key ≡ true → IsEnd (Some key) (es ++ (key, v) ∷ [])
  end_next last key v es end after k h = above_next key k v es (end key after) (less_is (cmp key k) h)

  pub put_above : (join : V → V → V) (k : K) (v : V) (es : List (K × V)) → IsAbove k es → put cmp join k v es ≡ es ++ (k, v) ∷ []
  put_above join k v [] h = refl
  put_above join k v (e ∷ es) h = rw (less_greater cmp total e.0 k h.0) (ap (λ z. e ∷ z) (put_above join k v es h.1))

-- writing records one by one

pub begun : {E : Type 0} (w : Width) (spell : E → List ℕ) (out now : List ℕ) (n : ℕ) (es left : List E) → now ≡ out ++ bytes_of w n → n ≡ length es → left ≡ es
    → now ++ flat_map spell left ≡ out ++ (bytes_of w (length es) ++ flat_map spell es)
begun w spell out now n es left p q r =
    (λ i. p i ++ flat_map spell (r i))
    ∙ ap (λ k. (out ++ bytes_of w k) ++ flat_map spell es) q
    ∙ append_assoc out (bytes_of w (length es)) (flat_map spell es)

pub wrote : {E : Type 0} (spell : E → List ℕ) (out first second a b : List ℕ) (e : E) (es left : List E) (all : List ℕ) → first ≡ out ++ a → second ≡ first ++ b → spell e ≡ a ++ b → es ≡ e ∷ left
    → out ++ flat_map spell es ≡ all → second ++ flat_map spell left ≡ all
wrote spell out first second a b e es left all p q r s t =
    let here : second ≡ out ++ spell e = q ∙ ap (λ z. z ++ b) p ∙ append_assoc out a b ∙ ap (λ z. out ++ z) (sym r) in
    let there : flat_map spell es ≡ spell e ++ flat_map spell left = ap (flat_map spell) s ∙ flat_map-cons spell e left in
    ap (λ z. z ++ flat_map spell left) here ∙ append_assoc out (spell e) (flat_map spell left) ∙ ap (λ z. out ++ z) (sym there) ∙ t

pub written : {E : Type 0} (spell : E → List ℕ) (out all : List ℕ) (left : List E) → left ≡ [] → out ++ flat_map spell left ≡ all → out ≡ all
written spell out all left p t = sym (append-nil out) ∙ ap (λ z. out ++ flat_map spell z) (sym p) ∙ t

-- if nothing is left, what stands there is all
pub none_left : {A B : Type 0} (listed : List A → List B) (now all : List B) (left : List A) → left ≡ [] → listed [] ≡ [] → now ++ listed left ≡ all → now ≡ all
none_left listed now all left p q t = sym (append-nil now) ∙ ap (λ z. now ++ z) (sym q ∙ ap listed (sym p)) ∙ t
