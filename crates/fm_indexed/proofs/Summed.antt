-- Sums of units at a node as a walk over the arcs adds them up.
use Rattle.std.proofs.Common.{◌≡◌, ◌∙◌, ap, sym, subst, refl, inl, inr, ℕ, zero, suc, ◌+◌, ◌*◌, ◌^◌, ◌<◌, ◌≤◌, ◌↔◌, Bool, true, false, cond, List, [], ◌∷◌, Some, None, length, drop, set, nat_eq, eq-eqb, ne_eqb, get_or-set_same, get_or-set_other, arith}
use Rattle.std.specs.Prelude.{slice_get, slice_index}
use Rattle.std.proofs.lemmas.Bool.{cases_lt}
use Rattle.std.proofs.Math.Nat.{mul-suc}
use Rattle.std.proofs.Math.ListN.{drop_of_length-le}
use Rattle.fm_cycles.specs.declared.indexed_arcs.IndexedArc.{IndexedArc}
use Rattle.fm_cycles.specs.Units.{units_with_end, AreWithin}

none_there : {A P : Type 0} {x : A} → None ≡ Some x → P
none_there e = absurd (let no : ⊥ = cc in no)

abbrev part : ℕ → ℕ → ℕ → ℕ
part m v u = cond (nat_eq m v) u 0

part_none : (m v : ℕ) → part m v 0 ≡ 0
part_none m v = elim (nat_eq m v) as (λ b. cond {A = ℕ} b 0 0 ≡ 0) [ true ↦ refl | false ↦ refl ]

part_most : (m v u : ℕ) → part m v u ≤ u
part_most m v u = elim (nat_eq m v) as (λ b. cond b u 0 ≤ u) [ true ↦ omega arith | false ↦ omega arith ]

module _ (end : IndexedArc → ℕ) (v : ℕ) where
  none_units : (arcs : List IndexedArc) → units_with_end end arcs [] v ≡ 0
  none_units [] = refl
  none_units (a ∷ arcs) = refl

  -- the arc at a place has its part
  step : (arcs : List IndexedArc) (units : List ℕ) (i : ℕ) (a : IndexedArc) → slice_get arcs i ≡ Some a → units_with_end end (drop i arcs) (drop i units) v ≡ part (end a) v (slice_index units i) + units_with_end end (drop (suc i) arcs) (drop (suc i) units) v
  step [] units i a at = none_there at
  step (b ∷ arcs) [] zero a at = omega (arith, part_none (end a) v, none_units arcs)
  step (b ∷ arcs) [] (suc i) a at = omega (arith, part_none (end a) v, none_units (drop i arcs), none_units (drop (suc i) arcs))
  step (b ∷ arcs) (u ∷ units) zero a at = let is : b ≡ a = cc in rw is refl
  step (b ∷ arcs) (u ∷ units) (suc i) a at = step arcs units i a at

  bound : (arcs : List IndexedArc) (units : List ℕ) → ((k : ℕ) → slice_index units k < 2 ^ 64) → units_with_end end arcs units v ≤ 2 ^ 64 * length arcs
  bound [] units each = omega arith
  bound (a ∷ arcs) [] each = omega arith
  bound (a ∷ arcs) (u ∷ units) each =
      let rest = bound arcs units (λ k. each (suc k)) in
      let first = each 0 in
      let most = part_most (end a) v u in
      omega (arith, mul-suc (2 ^ 64) (length arcs))

-- what a sum is after one is added to
set_is : (sums : List ℕ) (t v u : ℕ) → t < length sums → slice_index (set sums t (slice_index sums t + u)) v ≡ slice_index sums v + part t v u
set_is sums t v u less = elim (cases_lt t v) [
  | inl below ↦
      let other : v ≡ t → ⊥ = λ e. absurd (omega arith) in
      let no : part t v u ≡ 0 = ap (λ b. cond b u 0) (ne_eqb t v (λ e. other (sym e))) in
      let same = get_or-set_other sums t v (slice_index sums t + u) 0 other in
      omega (arith, no, same)
  | inr above ↦ elim (cases_lt v t) [
    | inl less2 ↦
        let other : v ≡ t → ⊥ = λ e. absurd (omega arith) in
        let no : part t v u ≡ 0 = ap (λ b. cond b u 0) (ne_eqb t v (λ e. other (sym e))) in
        let same = get_or-set_other sums t v (slice_index sums t + u) 0 other in
        omega (arith, no, same)
    | inr more ↦
        let is : t ≡ v = omega arith in
        let all : part t v u ≡ u = ap (λ b. cond b u 0) (eq-eqb t v is) in
        let same = get_or-set_same sums t (slice_index sums t + u) 0 less in
        let there : slice_index (set sums t (slice_index sums t + u)) v ≡ slice_index (set sums t (slice_index sums t + u)) t = ap (slice_index (set sums t (slice_index sums t + u))) (sym is) in
        let here : slice_index sums v ≡ slice_index sums t = ap (slice_index sums) (sym is) in
        omega (arith, all, same, there, here)
  ]
]

-- the sums so far, with what is still to come, are the whole
abbrev pub AddUp : (IndexedArc → ℕ) → ℕ → List IndexedArc → List ℕ → ℕ → List ℕ → Type 0
AddUp end nodes arcs units i sums = (v : ℕ) → v < nodes → slice_index sums v + units_with_end end (drop i arcs) (drop i units) v ≡ units_with_end end arcs units v

module _ (end : IndexedArc → ℕ) (nodes : ℕ) (arcs : List IndexedArc) (units : List ℕ) where
  pub add_none : (sums : List ℕ) → ((v : ℕ) → slice_index sums v ≡ 0) → AddUp end nodes arcs units 0 sums
  add_none sums zeros v less = let e = zeros v in omega arith

  pub add_one : (i : ℕ) (a : IndexedArc) (u : ℕ) (sums sums2 : List ℕ) → slice_get arcs i ≡ Some a → u ≡ slice_index units i → end a < length sums → sums2 ≡ set sums (end a) (slice_index sums (end a) + u) → AddUp end nodes arcs units i sums → AddUp end nodes arcs units (i + 1) sums2
  add_one i a u sums sums2 at is less now all v within =
      let so_far = all v within in
      let one = step end v arcs units i a at in
      let next : suc i ≡ i + 1 = omega arith in
      let later : units_with_end end (drop (suc i) arcs) (drop (suc i) units) v ≡ units_with_end end (drop (i + 1) arcs) (drop (i + 1) units) v = ap (λ n. units_with_end end (drop n arcs) (drop n units) v) next in
      let changed : slice_index sums2 v ≡ slice_index sums v + part (end a) v u = ap (λ (xs : List ℕ). slice_index xs v) now ∙ set_is sums (end a) v u less in
      let same : part (end a) v u ≡ part (end a) v (slice_index units i) = ap (part (end a) v) is in
      omega arith

  -- an arc without units changes no sum
  pub skip_one : (i : ℕ) (a : IndexedArc) (sums : List ℕ) → slice_get arcs i ≡ Some a → slice_index units i ≡ 0 → AddUp end nodes arcs units i sums → AddUp end nodes arcs units (i + 1) sums
  skip_one i a sums at none all v within =
      let so_far = all v within in
      let one = step end v arcs units i a at in
      let next : suc i ≡ i + 1 = omega arith in
      let later : units_with_end end (drop (suc i) arcs) (drop (suc i) units) v ≡ units_with_end end (drop (i + 1) arcs) (drop (i + 1) units) v = ap (λ n. units_with_end end (drop n arcs) (drop n units) v) next in
      let same : part (end a) v (slice_index units i) ≡ 0 = ap (part (end a) v) none ∙ part_none (end a) v in
      omega arith

  pub add_fits : (i : ℕ) (a : IndexedArc) (u : ℕ) (sums : List ℕ) → slice_get arcs i ≡ Some a → u ≡ slice_index units i → end a < nodes → length arcs < 2 ^ 63 → ((k : ℕ) → slice_index units k < 2 ^ 64) → AddUp end nodes arcs units i sums → slice_index sums (end a) + u < 2 ^ 128
  add_fits i a u sums at is within few each all =
      let so_far = all (end a) within in
      let one = step end (end a) arcs units i a at in
      let same : part (end a) (end a) (slice_index units i) ≡ slice_index units i = ap (λ b. cond b (slice_index units i) 0) (eq-eqb (end a) (end a) refl) in
      let most = bound end (end a) arcs units each in
      omega arith

  pub add_all : (i : ℕ) (sums : List ℕ) → length arcs ≤ i → AddUp end nodes arcs units i sums → (v : ℕ) → v < nodes → slice_index sums v ≡ units_with_end end arcs units v
  add_all i sums past all v less =
      let none : drop i arcs ≡ [] = drop_of_length-le arcs past in
      let rest : units_with_end end (drop i arcs) (drop i units) v ≡ 0 = ap (λ (bs : List IndexedArc). units_with_end end bs (drop i units) v) none in
      let whole = all v less in
      omega arith

-- capacities as a walk over the arcs tests them
within_none : (arcs : List IndexedArc) → AreWithin arcs []
within_none [] = tt
within_none (a ∷ arcs) = tt

pub within_step : (arcs : List IndexedArc) (units : List ℕ) (i : ℕ) (a : IndexedArc) → slice_get arcs i ≡ Some a → AreWithin (drop i arcs) (drop i units) ↔ ((slice_index units i ≤ a.capacity) × AreWithin (drop (i + 1) arcs) (drop (i + 1) units))
within_step arcs units i a at = let next : suc i ≡ i + 1 = omega arith in subst (λ n. AreWithin (drop i arcs) (drop i units) ↔ ((slice_index units i ≤ a.capacity) × AreWithin (drop n arcs) (drop n units))) next (one arcs units i a at)
  where
    one : (bs : List IndexedArc) (us : List ℕ) (k : ℕ) (b : IndexedArc) → slice_get bs k ≡ Some b → AreWithin (drop k bs) (drop k us) ↔ ((slice_index us k ≤ b.capacity) × AreWithin (drop (suc k) bs) (drop (suc k) us))
    one [] us k b there = none_there there
    one (c ∷ bs) [] zero b there = (λ _. (omega arith, within_none bs), λ _. tt)
    one (c ∷ bs) [] (suc k) b there = (λ _. (omega arith, within_none (drop (suc k) bs)), λ _. within_none (drop k bs))
    one (c ∷ bs) (u ∷ us) zero b there = let is : c ≡ b = cc in (λ h. ((let e = ap (λ (d : IndexedArc). d.capacity) is in let m = h.0 in omega arith), h.1), λ h. ((let e = ap (λ (d : IndexedArc). d.capacity) is in let m = h.0 in omega arith), h.1))
    one (c ∷ bs) (u ∷ us) (suc k) b there = one bs us k b there

pub within_at_place : (arcs : List IndexedArc) (units : List ℕ) (i : ℕ) (a : IndexedArc) → length units ≡ length arcs → slice_get arcs i ≡ Some a → AreWithin arcs units → slice_index units i ≤ a.capacity
within_at_place [] units i a sized at all = none_there at
within_at_place (b ∷ arcs) [] i a sized at all = absurd (omega arith)
within_at_place (b ∷ arcs) (u ∷ units) zero a sized at all = let is : b ≡ a = cc in let e = ap (λ (d : IndexedArc). d.capacity) is in let m = all.0 in omega arith
within_at_place (b ∷ arcs) (u ∷ units) (suc i) a sized at all = within_at_place arcs units i a (omega arith) at all.1

-- no units enter if no arc leads
pub none_enter : (test : ℕ → Bool) (arcs : List IndexedArc) (units : List ℕ) (v : ℕ) → ((i : ℕ) (a : IndexedArc) → slice_get arcs i ≡ Some a → test a.to ≡ false) → test v ≡ true → units_with_end (λ a. a.to) arcs units v ≡ 0
none_enter test [] units v none is = refl
none_enter test (a ∷ arcs) [] v none is = refl
none_enter test (a ∷ arcs) (u ∷ units) v none is =
    let rest = none_enter test arcs units v (λ i b at. none (suc i) b at) is in
    let other : a.to ≡ v → ⊥ = λ e. let no : false ≡ true = sym (none 0 a refl) ∙ ap test e ∙ is in absurd (let bad : ⊥ = cc in bad) in
    let no : part a.to v u ≡ 0 = ap (λ b. cond b u 0) (ne_eqb a.to v other) in
    omega (arith, no)
