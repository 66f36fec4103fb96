-- The joins of the plain constructors keep the laws.
use Rattle.std.specs.Prelude.{◌≡◌, refl, Option, Some, None}
use Rattle.std.specs.Ordering.{ord_max, flip_args}
use Rattle.std.specs.Cmp.{IsTotalOrder}
use Rattle.std.proofs.lemmas.Cmp.{tied_itself, tied_back, alike_right, back_total}
use Rattle.std.specs.declared.cmp.Ordering.{Ordering}
use Rattle.std.specs.declared.cmp.Ordering.TheVariants.{Less, Equal, Greater}
use Rattle.std.proofs.Common.{sym, ap, ◌∙◌}
use Rattle.fm_lattice.specs.Chains.{TellsApart, by_order}
use Rattle.fm_lattice.specs.laws.ChainLaws.{less_greater, greater_less}
use Rattle.fm_lattice.specs.Joins.{JoinLaws, Any, IsOptionOf, IsPairOf, IsLexOf, max_join, min_join, option_join, pair_join, lex_join}

module _ {K : Type 0} (cmp : K → K → Ordering) (total : IsTotalOrder cmp) (same : TellsApart cmp) where
  max_comm_by : (a b : K) (r : Ordering) → cmp b a ≡ r → ord_max cmp a b ≡ ord_max cmp b a
  max_comm_by a b Less e = let back : cmp a b ≡ Greater = less_greater cmp total b a e in cc
  max_comm_by a b Equal e = let e2 : b ≡ a = same b a e in cc
  max_comm_by a b Greater e = let back : cmp a b ≡ Less = greater_less cmp total b a e in cc

  pub max_comm : (a b : K) → ord_max cmp a b ≡ ord_max cmp b a
  max_comm a b = max_comm_by a b (cmp b a) refl

  max_assoc_by : (a b c : K) (r s : Ordering) → cmp b a ≡ r → cmp c b ≡ s → ord_max cmp (ord_max cmp a b) c ≡ ord_max cmp a (ord_max cmp b c)
  max_assoc_by a b c Less Less e f = let t : cmp c a ≡ Less = total.trans c b a f e in cc
  max_assoc_by a b c Less Equal e f = cc
  max_assoc_by a b c Less Greater e f = cc
  max_assoc_by a b c Equal Less e f = cc
  max_assoc_by a b c Equal Equal e f = let same_ab : b ≡ a = same b a e in let same_bc : c ≡ b = same c b f in cc
  max_assoc_by a b c Equal Greater e f = let same_ab : b ≡ a = same b a e in cc
  max_assoc_by a b c Greater Less e f = cc
  max_assoc_by a b c Greater Equal e f = let same_bc : c ≡ b = same c b f in cc
  max_assoc_by a b c Greater Greater e f = let t : cmp c a ≡ Greater = less_greater cmp total a c (total.trans a b c (greater_less cmp total b a e) (greater_less cmp total c b f)) in cc

  pub max_assoc : (a b c : K) → ord_max cmp (ord_max cmp a b) c ≡ ord_max cmp a (ord_max cmp b c)
  max_assoc a b c = max_assoc_by a b c (cmp b a) (cmp c b) refl refl

  pub max_idem : (a : K) → ord_max cmp a a ≡ a
  max_idem a = let e : cmp a a ≡ Equal = tied_itself total a in cc

  pub max_laws : JoinLaws Any (max_join cmp)
  max_laws = record {
    closed = λ x y p q. tt;
    assoc = λ x y z p q r. max_assoc x y z;
    comm = λ x y p q. max_comm x y;
    idem = λ x p. max_idem x;
  }

  module _ {V : Type 0} (is_value : V → Type 0) (join : V → V → V) (laws : JoinLaws is_value join) where
    abbrev IsLexValue : (K × V) → Type 0
    IsLexValue x = is_value x.1

    abbrev lex : (K × V) → (K × V) → (K × V)
    lex = lex_join cmp join

    lex_closed_by : (x y : (K × V)) (r : Ordering) → IsLexValue x → IsLexValue y → IsLexValue (by_order r y (x.0, join x.1 y.1) x)
    lex_closed_by x y Less p q = q
    lex_closed_by x y Equal p q = laws.closed x.1 y.1 p q
    lex_closed_by x y Greater p q = p

    lex_comm_by : (x y : (K × V)) (r : Ordering) → cmp x.0 y.0 ≡ r → IsLexValue x → IsLexValue y → lex x y ≡ lex y x
    lex_comm_by x y Less e p q = rw (e, less_greater cmp total x.0 y.0 e) refl
    lex_comm_by x y Equal e p q =
        let first = same x.0 y.0 e in
        let second = laws.comm x.1 y.1 p q in
        rw (e, tied_back total x.0 y.0 e) (λ i. (first i, second i))
    lex_comm_by x y Greater e p q = rw (e, greater_less cmp total x.0 y.0 e) refl

    lex_idem : (x : (K × V)) → IsLexValue x → lex x x ≡ x
    lex_idem x p =
        let second = laws.idem x.1 p in
        rw (tied_itself total x.0) (λ i. (x.0, second i))

    -- by what the comparisons of the first parts say
    lex_assoc_by : (x y z : (K × V)) (r s : Ordering) → cmp x.0 y.0 ≡ r → cmp y.0 z.0 ≡ s → IsLexValue x → IsLexValue y → IsLexValue z → lex (lex x y) z ≡ lex x (lex y z)
    lex_assoc_by x y z Less Less e f p q h = rw (e, f, total.trans x.0 y.0 z.0 e f) refl
    lex_assoc_by x y z Less Equal e f p q h = simp (e, f)
    lex_assoc_by x y z Less Greater e f p q h = simp (e, f)
    lex_assoc_by x y z Equal Less e f p q h = let g : cmp x.0 z.0 ≡ Less = total.congr x.0 y.0 z.0 e ∙ f in simp (e, f, g)
    lex_assoc_by x y z Equal Equal e f p q h =
        let second = laws.assoc x.1 y.1 z.1 p q h in
        let g : cmp x.0 z.0 ≡ Equal = total.congr x.0 y.0 z.0 e ∙ f in
        simp (e, f, g) (λ i. (x.0, second i))
    lex_assoc_by x y z Equal Greater e f p q h = let g : cmp x.0 z.0 ≡ Greater = total.congr x.0 y.0 z.0 e ∙ f in simp (e, f, g)
    lex_assoc_by x y z Greater Less e f p q h = simp (e, f)
    lex_assoc_by x y z Greater Equal e f p q h = let g : cmp x.0 z.0 ≡ Greater = sym (alike_right total y.0 z.0 x.0 f) ∙ e in simp (e, f, g)
    lex_assoc_by x y z Greater Greater e f p q h =
        let g : cmp x.0 z.0 ≡ Greater = less_greater cmp total z.0 x.0 (total.trans z.0 y.0 x.0 (greater_less cmp total y.0 z.0 f) (greater_less cmp total x.0 y.0 e)) in
        simp (e, f, g)

    pub lex_laws : JoinLaws (IsLexOf {K = K} is_value) (lex_join cmp join)
    lex_laws = record {
      closed = λ x y p q. lex_closed_by x y (cmp x.0 y.0) p q;
      assoc = λ x y z p q h. lex_assoc_by x y z (cmp x.0 y.0) (cmp y.0 z.0) refl refl p q h;
      comm = λ x y p q. lex_comm_by x y (cmp x.0 y.0) refl p q;
      idem = lex_idem;
    }

module _ {K : Type 0} (cmp : K → K → Ordering) (total : IsTotalOrder cmp) (same : TellsApart cmp) where
  apart_back : TellsApart (flip_args cmp)
  apart_back x y e = sym (same y x e)

  pub min_laws : JoinLaws Any (min_join cmp)
  min_laws =
      let back = back_total total in
      record {
        closed = λ x y p q. tt;
        assoc = λ x y z p q r. sym (max_assoc (flip_args cmp) back apart_back z y x);
        comm = λ x y p q. max_comm (flip_args cmp) back apart_back y x;
        idem = λ x p. max_idem (flip_args cmp) back apart_back x;
      }

module _ {V : Type 0} (is_value : V → Type 0) (join : V → V → V) (laws : JoinLaws is_value join) where
  option_closed : (x y : Option V) → IsOptionOf is_value x → IsOptionOf is_value y → IsOptionOf is_value (option_join join x y)
  option_closed None y p q = q
  option_closed (Some v) None p q = p
  option_closed (Some v) (Some w) p q = laws.closed v w p q

  option_assoc : (x y z : Option V) → IsOptionOf is_value x → IsOptionOf is_value y → IsOptionOf is_value z → option_join join (option_join join x y) z ≡ option_join join x (option_join join y z)
  option_assoc None y z p q r = refl
  option_assoc (Some v) None z p q r = refl
  option_assoc (Some v) (Some w) None p q r = refl
  option_assoc (Some v) (Some w) (Some u) p q r = ap Some (laws.assoc v w u p q r)

  option_comm : (x y : Option V) → IsOptionOf is_value x → IsOptionOf is_value y → option_join join x y ≡ option_join join y x
  option_comm None None p q = refl
  option_comm None (Some w) p q = refl
  option_comm (Some v) None p q = refl
  option_comm (Some v) (Some w) p q = ap Some (laws.comm v w p q)

  option_idem : (x : Option V) → IsOptionOf is_value x → option_join join x x ≡ x
  option_idem None p = refl
  option_idem (Some v) p = ap Some (laws.idem v p)

  pub option_laws : JoinLaws (IsOptionOf is_value) (option_join join)
  option_laws = record {
    closed = option_closed;
    assoc = option_assoc;
    comm = option_comm;
    idem = option_idem;
  }

pub pair_laws : {A B : Type 0} (is_a : A → Type 0) (join_a : A → A → A) (is_b : B → Type 0) (join_b : B → B → B) → JoinLaws is_a join_a → JoinLaws is_b join_b → JoinLaws (IsPairOf is_a is_b) (pair_join join_a join_b)
pair_laws is_a join_a is_b join_b la lb = record {
  closed = λ x y p q. (la.closed x.0 y.0 p.0 q.0, lb.closed x.1 y.1 p.1 q.1);
  assoc = λ x y z p q r. let e = la.assoc x.0 y.0 z.0 p.0 q.0 r.0 in let f = lb.assoc x.1 y.1 z.1 p.1 q.1 r.1 in λ i. (e i, f i);
  comm = λ x y p q. let e = la.comm x.0 y.0 p.0 q.0 in let f = lb.comm x.1 y.1 p.1 q.1 in λ i. (e i, f i);
  idem = λ x p. let e = la.idem x.0 p.0 in let f = lb.idem x.1 p.1 in λ i. (e i, f i);
}
