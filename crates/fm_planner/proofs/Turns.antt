-- Moves that go in turn.
use Rattle.std.proofs.Common.{◌≡◌, ◌∙◌, sym, ap, subst, refl, inl, inr, ℕ, ◌<◌, ◌≤◌, cond, List, [], ◌∷◌, Option, Some, None, arith}
use Rattle.std.specs.Ordering.{nat_cmp, is_eq}
use Rattle.std.specs.Cmp.{nat_cmp_total}
use Rattle.std.proofs.lemmas.Cmp.{ranked, tied_itself}
use Rattle.std.specs.declared.cmp.Ordering.TheVariants.{Less}
use Rattle.std.specs.BTreeMap.{BTreeMap, get, is_at}
use Rattle.std.specs.Map.{lookup as found_in}
use Rattle.fm_lattice.specs.laws.ChainLaws.{by_cases, nat_same}
use Rattle.fm_lattice.specs.Maps.{IsBelow, IsRising}
use Rattle.fm_records.specs.Sets.{IsMember}
use Rattle.fm_tally.specs.declared.way.Way.{Way}
use Rattle.fm_tally.specs.declared.way.Way.TheVariants.{ToJob, ByRequest, Straight}
use Rattle.fm_planner.specs.inner.Slackness.{after_move, IsNext, GoInTurn}

below_of : (k : ℕ) (e : ℕ × Way) (es : List (ℕ × Way)) → IsBelow nat_cmp k es → IsMember e es → k < e.0
below_of k e [] b m = absurd m
below_of k e (x ∷ es) b m = elim m [ inl is ↦ subst (λ (z : ℕ × Way). k < z.0) is (ranked k x.0 Less (sym b.0)) | inr later ↦ below_of k e es b.1 later ]

-- the last machine of a request goes on to be no lesser
later_last : (last : ℕ → Option ℕ) (w : Way) (r l : ℕ) → IsNext last w → last r ≡ Some l → (n : ℕ) → ((x : ℕ) → after_move last w r ≡ Some x → x ≤ n) → l ≤ n
later_last last (ToJob j) r l next is n then = then l is
later_last last (Straight m) r l next is n then = then l is
later_last last (ByRequest q m) r l next is n then =
    by_cases (nat_cmp q r) (λ o. ((x : ℕ) → cond (is_eq o) (Some m) (last r) ≡ Some x → x ≤ n) → l ≤ n)
    (λ _ t. t l is)
    (λ same t. let before : l ≤ m = next l (ap last (nat_same q r same) ∙ is) in let behind : m ≤ n = t m refl in omega arith)
    (λ _ t. t l is)
    then

never_less : (last : ℕ → Option ℕ) (es : List (ℕ × Way)) (u r n l : ℕ) → GoInTurn last es → IsMember (u, ByRequest r n) es → last r ≡ Some l → l ≤ n
never_less last [] u r n l go m is = absurd m
never_less last (e ∷ es) u r n l go m is = elim m [
  | inl here ↦ let next : IsNext last (ByRequest r n) = subst (λ (z : ℕ × Way). IsNext last z.1) here go.0 in next l is
  | inr later ↦ later_last last e.1 r l go.0 is n (λ x. never_less (after_move last e.1) es u r n x go.1 later)
]

first_taken : (last : ℕ → Option ℕ) (r m : ℕ) → after_move last (ByRequest r m) r ≡ Some m
first_taken last r m = ap (λ b. cond b (Some m) (last r)) (ap is_eq (tied_itself nat_cmp_total r))

pub in_turn : (last : ℕ → Option ℕ) (es : List (ℕ × Way)) → GoInTurn last es → IsRising nat_cmp es → (t u r m n : ℕ) → IsMember (t, ByRequest r m) es → IsMember (u, ByRequest r n) es → t < u → m ≤ n
in_turn last [] go rises t u r m n a b less = absurd a
in_turn last (e ∷ es) go rises t u r m n a b less = elim a [
  | inl here ↦ elim b [
    | inl there ↦ let one : t ≡ u = sym (ap (λ (z : ℕ × Way). z.0) here) ∙ ap (λ (z : ℕ × Way). z.0) there in absurd (omega (arith, one))
    | inr later ↦
        let taken : after_move last e.1 r ≡ Some m = ap (λ (z : ℕ × Way). after_move last z.1 r) here ∙ first_taken last r m in
        never_less (after_move last e.1) es u r n m go.1 later taken
  ]
  | inr before ↦ elim b [
    | inl there ↦ let is : e.0 ≡ u = ap (λ (z : ℕ × Way). z.0) there in let above = below_of e.0 (t, ByRequest r m) es rises.0 before in absurd (omega (arith, is, above))
    | inr later ↦ in_turn (after_move last e.1) es go.1 rises.1 t u r m n before later less
  ]
]

-- the walk over the moves

pub none_yet : (last : BTreeMap ℕ ℕ) (es : List (ℕ × Way)) → last.entries ≡ [] → GoInTurn (get nat_cmp last) es → GoInTurn (λ r. None) es
none_yet last es empty go = subst (λ (f : ℕ → Option ℕ). GoInTurn f es) (λ i r. found_in (is_at (nat_cmp r)) (empty i)) go

pub go_on : (last next : ℕ → Option ℕ) (e : ℕ × Way) (es : List (ℕ × Way)) → IsNext last e.1 → ((r : ℕ) → next r ≡ after_move last e.1 r) → GoInTurn next es → GoInTurn last (e ∷ es)
go_on last next e es is after go = (is, subst (λ (f : ℕ → Option ℕ). GoInTurn f es) (λ i r. after r i) go)
