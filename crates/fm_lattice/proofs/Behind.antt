-- Pairs whose keys rise: a key after the last goes to the end, and one that equals that of a pair is there.
use Rattle.std.proofs.Common.{◌≡◌, ℕ, ◌+◌, List, ◌<◌, length, get_or, sym, ◌∙◌, ap, inl, inr, true, arith}
use Rattle.std.specs.Ordering.{is_lt, is_eq}
use Rattle.std.specs.Cmp.{IsTotalOrder}
use Rattle.std.specs.declared.cmp.Ordering.{Ordering}
use Rattle.std.specs.declared.cmp.Ordering.TheVariants.{Less, Equal, Greater}
use Rattle.std.proofs.lemmas.Bool.{cases_order}
use Rattle.std.proofs.lemmas.List.{get_or_default}
use Rattle.fm_lattice.specs.Chains.{TellsApart}
use Rattle.fm_lattice.specs.Maps.{IsRising}
use Rattle.fm_lattice.specs.inner.SortedVec.{HasKeyAt, IsInsertionIndex}
use Rattle.fm_lattice.proofs.Places.{rising_at}

pub less_of : (o : Ordering) → is_lt o ≡ true → o ≡ Less
less_of Less h = cc
less_of Equal h = absurd (let no : ⊥ = cc in no)
less_of Greater h = absurd (let no : ⊥ = cc in no)

pub equal_of : (o : Ordering) → is_eq o ≡ true → o ≡ Equal
equal_of Less h = absurd (let no : ⊥ = cc in no)
equal_of Equal h = cc
equal_of Greater h = absurd (let no : ⊥ = cc in no)

module _ {K V : Type 0} (cmp : K → K → Ordering) (total : IsTotalOrder cmp) (same : TellsApart cmp) where
  pub behind : (es : List (K × V)) (k : K) (last : ℕ) (pair : K × V) → IsRising cmp es → last + 1 ≡ length es → pair ≡ get_or es last pair → cmp pair.0 k ≡ Less → IsInsertionIndex cmp es k (length es)
  behind es k last pair rises is_last read less = record {
    in_range = omega arith;
    before = λ j d lt.
        let at_last : get_or es last d ≡ pair = get_or_default es last d pair (omega arith) ∙ sym read in
        elim (cases_order j last) [
          | inl e ↦ ap (λ i. cmp (get_or es i d).0 k) e ∙ ap (λ (p : K × V). cmp p.0 k) at_last ∙ less
          | inr (inl below) ↦ total.trans (get_or es j d).0 pair.0 k (ap (λ (p : K × V). cmp (get_or es j d).0 p.0) (sym at_last) ∙ rising_at cmp total same es j last d rises below (omega arith)) less
          | inr (inr above) ↦ absurd (omega arith)
        ];
    after = λ j d le lt. absurd (omega arith);
  }

  -- a key that equals that of the pair at a place is there
  pub stands_at : (es : List (K × V)) (k : K) (i : ℕ) (pair : K × V) → i < length es → pair ≡ get_or es i pair → cmp pair.0 k ≡ Equal → HasKeyAt cmp es k i
  stands_at es k i pair within read equal = record {
    in_range = within;
    has_key = λ d. ap (λ (p : K × V). cmp p.0 k) (get_or_default es i d pair within ∙ sym read) ∙ equal;
  }
