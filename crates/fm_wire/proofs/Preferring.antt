-- The preferences that a version has are those in range.
use Rattle.std.proofs.Common.{◌≡◌, ℕ, ◌^◌, Bool, true, List, [], ◌∷◌, length, Option, Some, refl, sym, subst, arith}
use Rattle.std.specs.Prelude.{nat_lt, nat_le, ◌&&◌}
use Rattle.std.specs.List.{AllByRecursion, list_all}
use Rattle.std.specs.Ordering.{nat_cmp}
use Rattle.std.specs.Cmp.{nat_cmp_total, nat_cmp_is}
use Rattle.std.specs.declared.cmp.Ordering.TheVariants.{Less}
use Rattle.std.proofs.lemmas.Bool.{ltb-true, lt-ltb, leb-true, le-leb}
use Rattle.std.proofs.lemmas.Cmp.{ranked}
use Rattle.fm_lattice.specs.laws.ChainLaws.{nat_same}
use Rattle.fm_lattice.specs.Maps.{IsBelow, IsRising}
use Rattle.fm_lattice.specs.laws.MapLaws.{below_trans}
use Rattle.fm_records.specs.declared.records.SpecReg.{SpecReg}
use Rattle.fm_records.specs.Preferences.{rises_above, machines_rise}
use Rattle.fm_records.specs.Ops.{is_price, is_preference}
use Rattle.fm_records.specs.Ranges.{is_id, fits_row}
use Rattle.fm_records.proofs.LookupLaws.{both_true}
use Rattle.fm_wire.specs.declared.version.Version.{Version}
use Rattle.fm_wire.specs.declared.version.Version.TheVariants.{Fdg1, Fdg2}
use Rattle.fm_wire.specs.Grammar.{id, price_field, preferences, PrefersNone}

abbrev Credits : Type 0
Credits = List (ℕ × ℕ)

both : (a b : Bool) → a ≡ true → b ≡ true → a && b ≡ true
both a b p q = λ i. p i && q i

-- ---- machines that rise

above_rising : (m : ℕ) (es : Credits) → rises_above m es ≡ true → IsBelow nat_cmp m es × IsRising nat_cmp es
above_rising m [] h = (tt, tt)
above_rising m (e ∷ es) h =
    let p = both_true (nat_lt m e.0) (rises_above e.0 es) h in
    let less = sym (nat_cmp_is m e.0 Less (ltb-true m e.0 p.0)) in
    let later = above_rising e.0 es p.1 in
    ((less, below_trans nat_cmp nat_cmp_total nat_same m e.0 es less later.0), later)

rising_above : (m : ℕ) (es : Credits) → IsBelow nat_cmp m es → IsRising nat_cmp es → rises_above m es ≡ true
rising_above m [] b r = refl
rising_above m (e ∷ es) b r = both (nat_lt m e.0) (rises_above e.0 es) (lt-ltb m e.0 (ranked m e.0 Less (sym b.0))) (rising_above e.0 es r.0 r.1)

rise_rising : (es : Credits) → machines_rise es ≡ true → IsRising nat_cmp es
rise_rising [] h = tt
rise_rising (e ∷ es) h = above_rising e.0 es h

rising_rise : (es : Credits) → IsRising nat_cmp es → machines_rise es ≡ true
rising_rise [] r = refl
rising_rise (e ∷ es) r = rising_above e.0 es r.0 r.1

-- ---- ids and credits

abbrev HasCredit : ℕ × ℕ → Type 0
HasCredit e = id.has e.0 × price_field.has e.1

credits_in : (es : Credits) → list_all (λ e. is_id e.0) es ≡ true → list_all (λ e. is_price e.1) es ≡ true → AllByRecursion HasCredit es
credits_in [] p q = tt
credits_in (e ∷ es) p q =
    let a = both_true (is_id e.0) (list_all (λ e. is_id e.0) es) p in
    let b = both_true (is_price e.1) (list_all (λ e. is_price e.1) es) q in
    let machine = ltb-true e.0 (2 ^ 128) a.0 in
    let credit = leb-true e.1 1000000000 b.0 in
    (((omega arith, omega arith), (omega arith, omega arith)), credits_in es a.1 b.1)

ids_out : (es : Credits) → AllByRecursion HasCredit es → list_all (λ e. is_id e.0) es ≡ true
ids_out [] h = refl
ids_out (e ∷ es) h = both (is_id e.0) (list_all (λ e. is_id e.0) es) (lt-ltb e.0 (2 ^ 128) (omega (arith, h.0.0.1))) (ids_out es h.1)

credits_out : (es : Credits) → AllByRecursion HasCredit es → list_all (λ e. is_price e.1) es ≡ true
credits_out [] h = refl
credits_out (e ∷ es) h = both (is_price e.1) (list_all (λ e. is_price e.1) es) (le-leb e.1 1000000000 h.0.1.1) (credits_out es h.1)

-- ---- preferences

-- the version has a place for what the spec prefers
abbrev pub HasPlace : Version → Option SpecReg → Type 0
HasPlace Fdg1 o = PrefersNone o
HasPlace Fdg2 o = Unit {0}

pub prefer_in : (v : Version) (r : SpecReg) → HasPlace v (Some r) → fits_row r.prefer ≡ true → is_preference r.prefer ≡ true → (preferences v).has r.prefer
unfolding preferences
prefer_in Fdg1 r place fits ranged = place
prefer_in Fdg2 r place fits ranged =
    let row = both_true (nat_le (length r.prefer) 4) (list_all (λ e. is_id e.0) r.prefer) fits in
    let rise = both_true (machines_rise r.prefer) (list_all (λ e. is_price e.1) r.prefer) ranged in
    (leb-true (length r.prefer) 4 row.0, rise_rising r.prefer rise.0, credits_in r.prefer row.1 rise.1)

pub fits_out : (v : Version) (es : Credits) → (preferences v).has es → fits_row es ≡ true
unfolding preferences
fits_out Fdg1 es has = subst (λ z. fits_row z ≡ true) (sym has) refl
fits_out Fdg2 es has = both (nat_le (length es) 4) (list_all (λ e. is_id e.0) es) (le-leb (length es) 4 has.0) (ids_out es has.2)

pub preference_out : (v : Version) (es : Credits) → (preferences v).has es → is_preference es ≡ true
unfolding preferences
preference_out Fdg1 es has = subst (λ z. is_preference z ≡ true) (sym has) refl
preference_out Fdg2 es has = both (machines_rise es) (list_all (λ e. is_price e.1) es) (rising_rise es has.1) (credits_out es has.2)

pub place_out : (v : Version) (r : SpecReg) → (preferences v).has r.prefer → HasPlace v (Some r)
unfolding preferences
place_out Fdg1 r has = has
place_out Fdg2 r has = tt
