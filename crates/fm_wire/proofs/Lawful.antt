-- Formats are read as they are spelled: what is read is spelled so, and what is spelled is read.
use Rattle.std.proofs.Common.{◌≡◌, ℕ, zero, suc, ◌-◌, ◌^◌, ◌<◌, ◌≤◌, Bool, true, false, cond, ltb, List, [], ◌∷◌, ◌++◌, length, take, drop, Option, Some, None, Ok, Err, refl, sym, ap, subst, ◌∙◌, append_assoc, arith}
use Rattle.std.specs.Int.{Width, w8, w64, byte_len, from_be_bytes}
use Rattle.std.specs.List.{AllByRecursion, flat_map}
use Rattle.std.specs.Cmp.{IsTotalOrder}
use Rattle.std.specs.declared.cmp.Ordering.{Ordering}
use Rattle.std.specs.declared.cmp.Ordering.TheVariants.{Less}
use Rattle.std.proofs.lemmas.List.Concat.{flat_map-cons}
use Rattle.fm_lattice.specs.Chains.{TellsApart}
use Rattle.fm_lattice.specs.Maps.{IsBelow, IsRising}
use Rattle.fm_lattice.specs.laws.MapLaws.{below_trans}
use Rattle.std.specs.Prelude.{nat_le, ◌&&◌}
use Rattle.std.proofs.lemmas.Bool.{ltb-false, le-ltb, leb-true, le-leb}
use Rattle.std.proofs.lemmas.List.{take_at, drop_at, take-append-drop, length-append, length-take}
use Rattle.fm_records.proofs.LookupLaws.{both_true}
use Rattle.fm_wire.specs.Formats.{◌>>=◌, Format, bytes_of, number_at, number_field, constant, leading, ◌⨾◌, seen_as, part, by_tag, comes_after, key_at, record_at, records_at, with_count, records}
use Rattle.fm_wire.proofs.Binds.{bind_ok, guard_ok, ok_is}
use Rattle.fm_wire.proofs.Walks.{less_is}
use Rattle.fm_wire.proofs.Widths.{IsBytes, IsBytes-take, IsBytes-drop, IsWide, wide8, wide64}

-- what a format took from the front
pub record Took {A : Type 0} (F : Format A) (bytes : List ℕ) (a : A) (rest : List ℕ) : Type 0 where
  pub whole : bytes ≡ F.spell a ++ rest
  pub has : F.has a
  pub fits : IsBytes rest

pub record Lawful {A : Type 0} (F : Format A) : Type 0 where
  pub again : (a : A) (rest : List ℕ) → F.has a → F.read (F.spell a ++ rest) ≡ Ok (a, rest)
  pub takes : (bytes : List ℕ) (a : A) (rest : List ℕ) → IsBytes bytes → F.read bytes ≡ Ok (a, rest) → Took F bytes a rest

-- ---- numbers

number_ok : (b c : Bool) (x y : ℕ × List ℕ) (left : ℕ) → cond b (Err 0) (cond c (Ok x) (Err left)) ≡ Ok y → (b ≡ false) × (c ≡ true) × (x ≡ y)
number_ok true c x y left e = absurd cc
number_ok false true x y left e = (refl, refl, ok_is x y e)
number_ok false false x y left e = absurd cc

pub number_lawful : (w : Width) (limit least greatest : ℕ) → IsWide w limit → greatest < limit → Lawful (number_field w least greatest)
unfolding number_at
number_lawful w limit least greatest wide below = record {
  again = λ n rest has.
      let len = wide.len n in
      let long : ltb (length (bytes_of w n ++ rest)) (byte_len w) ≡ false = le-ltb _ _ (omega (arith, length-append (bytes_of w n) rest)) in
      rw (long, take_at (bytes_of w n) rest (byte_len w) len, drop_at (bytes_of w n) rest (byte_len w) len, wide.again n (omega arith), le-leb least n has.0, le-leb n greatest has.1) refl;
  takes = λ bytes n rest fits e.
      let value = from_be_bytes w (take (byte_len w) bytes) in
      let g = number_ok (ltb (length bytes) (byte_len w)) (nat_le least value && nat_le value greatest) (value, drop (byte_len w) bytes) (n, rest) (length bytes) e in
      let long : byte_len w ≤ length bytes = ltb-false _ _ g.0 in
      let test = both_true (nat_le least value) (nat_le value greatest) g.1 in
      let n-is : value ≡ n = ap (λ (p : ℕ × List ℕ). p.0) g.2 in
      let rest-is : drop (byte_len w) bytes ≡ rest = ap (λ (p : ℕ × List ℕ). p.1) g.2 in
      let front : bytes_of w value ≡ take (byte_len w) bytes = wide.back (take (byte_len w) bytes) (omega (arith, length-take (byte_len w) bytes)) (IsBytes-take (byte_len w) bytes fits) in
      record {
        whole = sym (take-append-drop (byte_len w) bytes) ∙ (λ i. sym front i ++ rest-is i) ∙ ap (λ k. bytes_of w k ++ rest) n-is;
        has = subst (λ k. (least ≤ k) × (k ≤ greatest)) n-is (leb-true least value test.0, leb-true value greatest test.1);
        fits = subst IsBytes rest-is (IsBytes-drop (byte_len w) bytes fits);
      };
}

-- ---- one after the other, and seen as another type

pub only_lawful : {A : Type 0} (a : A) → Lawful (constant a)
only_lawful {A} a = record {
  again = λ b rest has. ap (λ (z : A). Ok (z, rest)) (sym has);
  takes = λ bytes b rest fits e.
      let made : A × List ℕ = (b, rest) in
      let found : A × List ℕ = (a, bytes) in
      subst (λ (y : A × List ℕ). Took (constant a) bytes y.0 y.1) (ok_is found made e) (record { whole = refl; has = refl; fits = fits });
}

pub leading_lawful : {A B : Type 0} (F : Format A) (G : A → Format B) → Lawful F → ((a : A) → Lawful (G a)) → Lawful (leading F G)
leading_lawful {A} {B} F G f g = record {
  again = λ x rest has.
      ap (leading F G).read (append_assoc (F.spell x.0) ((G x.0).spell x.1) rest) ∙ rw (f.again x.0 ((G x.0).spell x.1 ++ rest) has.0, (g x.0).again x.1 rest has.1) refl;
  takes = λ bytes x rest fits e.
      let made : (A × B) × List ℕ = (x, rest) in
      let a = bind_ok (F.read bytes) (λ first. (G first.0).read first.1 >>= λ second. Ok ((first.0, second.0), second.1)) made e in
      let b = bind_ok ((G a.0.0).read a.0.1) (λ second. Ok ((a.0.0, second.0), second.1)) made a.2 in
      let here = f.takes bytes a.0.0 a.0.1 fits a.1 in
      let there = (g a.0.0).takes a.0.1 b.0.0 b.0.1 here.fits b.1 in
      let found : (A × B) × List ℕ = ((a.0.0, b.0.0), b.0.1) in
      subst (λ (y : (A × B) × List ℕ). Took (leading F G) bytes y.0 y.1) (ok_is found made b.2) (record {
        whole = here.whole ∙ ap (λ z. F.spell a.0.0 ++ z) there.whole ∙ sym (append_assoc (F.spell a.0.0) ((G a.0.0).spell b.0.0) b.0.1);
        has = (here.has, there.has);
        fits = there.fits;
      });
}

pub pair_lawful : {A B : Type 0} (F : Format A) (G : Format B) → Lawful F → Lawful G → Lawful (F ⨾ G)
pair_lawful F G f g = leading_lawful F (λ _. G) f (λ _. g)

pub seen_lawful : {A B : Type 0} (F : Format A) (to : A → B) (from : B → A) → Lawful F → ((a : A) → F.has a → from (to a) ≡ a) → ((b : B) → to (from b) ≡ b) → Lawful (seen_as F to from)
seen_lawful {A} {B} F to from f back forth = record {
  again = λ b rest has. rw (f.again (from b) rest has) (ap (λ (y : B). Ok (y, rest)) (forth b));
  takes = λ bytes b rest fits e.
      let made : B × List ℕ = (b, rest) in
      let a = bind_ok (F.read bytes) (λ found. Ok (to found.0, found.1)) made e in
      let here = f.takes bytes a.0.0 a.0.1 fits a.1 in
      let found : B × List ℕ = (to a.0.0, a.0.1) in
      let same = sym (back a.0.0 here.has) in
      subst (λ (y : B × List ℕ). Took (seen_as F to from) bytes y.0 y.1) (ok_is found made a.2) (record {
        whole = here.whole ∙ ap (λ z. F.spell z ++ a.0.1) same;
        has = subst F.has same here.has;
        fits = here.fits;
      });
}

-- ---- parts that follow if a byte says so

pub part_lawful : {A : Type 0} (b : Bool) (F : Format A) → Lawful F → Lawful (part b F)
part_lawful {A} true F f = record {
  again = some_again;
  takes = λ bytes o rest fits e.
      let made : Option A × List ℕ = (o, rest) in
      let a = bind_ok (F.read bytes) (λ found. Ok (Some found.0, found.1)) made e in
      let here = f.takes bytes a.0.0 a.0.1 fits a.1 in
      let found : Option A × List ℕ = (Some a.0.0, a.0.1) in
      subst (λ (y : Option A × List ℕ). Took (part true F) bytes y.0 y.1) (ok_is found made a.2) (record { whole = here.whole; has = here.has; fits = here.fits });
}
  where
    some_again : (o : Option A) (rest : List ℕ) → (part true F).has o → (part true F).read ((part true F).spell o ++ rest) ≡ Ok (o, rest)
    some_again None rest has = absurd has
    some_again (Some a) rest has = rw (f.again a rest has) refl
part_lawful {A} false F f = only_lawful None

pub tagged_lawful : {A : Type 0} (least greatest : ℕ) (tag_of : A → ℕ) (form : ℕ → Format A) → greatest < 2 ^ 8 → ((tag : ℕ) → Lawful (form tag)) → ((tag : ℕ) (a : A) → least ≤ tag → tag ≤ greatest → (form tag).has a → tag_of a ≡ tag)
    → Lawful (by_tag least greatest tag_of form)
tagged_lawful {A} least greatest tag_of form small forms tells =
    let tags = number_lawful w8 (2 ^ 8) least greatest wide8 small in
    record {
      again = λ a rest has.
          let tag = tag_of a in
          ap (by_tag least greatest tag_of form).read (append_assoc (bytes_of w8 tag) ((form tag).spell a) rest)
          ∙ rw (tags.again tag ((form tag).spell a ++ rest) has.0) ((forms tag).again a rest has.1);
      takes = λ bytes a rest fits e.
          let t = bind_ok (number_at w8 least greatest bytes) (λ tag. (form tag.0).read tag.1) (a, rest) e in
          let here = tags.takes bytes t.0.0 t.0.1 fits t.1 in
          let there = (forms t.0.0).takes t.0.1 a rest here.fits t.2 in
          let same = sym (tells t.0.0 a here.has.0 here.has.1 there.has) in
          record {
            whole = here.whole ∙ ap (λ z. bytes_of w8 t.0.0 ++ z) there.whole ∙ sym (append_assoc (bytes_of w8 t.0.0) ((form t.0.0).spell a) rest) ∙ ap (λ k. (bytes_of w8 k ++ (form k).spell a) ++ rest) same;
            has = subst (λ k. ((least ≤ k) × (k ≤ greatest)) × (form k).has a) same (here.has, there.has);
            fits = there.fits;
          };
    }

-- ---- records, each after the one before it

-- the first of the list comes after the last one
abbrev StartsAfter : {K V : Type 0} → (K → K → Ordering) → Option K → List (K × V) → Type 0
StartsAfter cmp last [] = Unit {0}
StartsAfter cmp last (e ∷ es) = comes_after cmp last e.0 ≡ true

module _ {K V : Type 0} (cmp : K → K → Ordering) (total : IsTotalOrder cmp) (same : TellsApart cmp) (F : Format K) (G : Format V) (f : Lawful F) (g : Lawful G) where
  abbrev Fits : K × V → Type 0
  Fits e = F.has e.0 × G.has e.1

  abbrev spell_one : K × V → List ℕ
  spell_one e = F.spell e.0 ++ G.spell e.1

  is_after : (k q : K) → cmp k q ≡ Less → comes_after cmp (Some k) q ≡ true
  is_after k q e = rw e refl

  starts : (k : K) (es : List (K × V)) → IsBelow cmp k es → StartsAfter cmp (Some k) es
  starts k [] b = tt
  starts k (e ∷ es) b = is_after k e.0 b.0

  below_all : (k : K) (es : List (K × V)) → StartsAfter cmp (Some k) es → IsRising cmp es → IsBelow cmp k es
  below_all k [] s r = tt
  below_all k (e ∷ es) s r = let less = less_is (cmp k e.0) s in (less, below_trans cmp total same k e.0 es less r.0)

  key_again : (last : Option K) (k : K) (rest : List ℕ) → F.has k → comes_after cmp last k ≡ true → key_at cmp F last (F.spell k ++ rest) ≡ Ok (k, rest)
  unfolding key_at
  key_again last k rest has after = rw (f.again k rest has, after) refl

  record_again : (last : Option K) (e : K × V) (rest : List ℕ) → Fits e → comes_after cmp last e.0 ≡ true → record_at cmp F G last (spell_one e ++ rest) ≡ Ok (e, rest)
  unfolding record_at
  record_again last e rest has after =
      ap (record_at cmp F G last) (append_assoc (F.spell e.0) (G.spell e.1) rest)
      ∙ rw (key_again last e.0 (G.spell e.1 ++ rest) has.0 after, g.again e.1 rest has.1) refl

  again_all : (last : Option K) (es : List (K × V)) (rest : List ℕ) → StartsAfter cmp last es → IsRising cmp es → AllByRecursion Fits es → records_at cmp F G (length es) last (flat_map spell_one es ++ rest) ≡ Ok (es, rest)
  unfolding records_at
  again_all last [] rest s r has = refl
  again_all last (e ∷ es) rest s r has =
      let regrouped : flat_map spell_one (e ∷ es) ++ rest ≡ spell_one e ++ (flat_map spell_one es ++ rest) = ap (λ z. z ++ rest) (flat_map-cons spell_one e es) ∙ append_assoc (spell_one e) (flat_map spell_one es) rest in
      ap (records_at cmp F G (suc (length es)) last) regrouped
      ∙ rw (record_again last e (flat_map spell_one es ++ rest) has.0 s, again_all (Some e.0) es rest (starts e.0 es r.0) r.1 has.1) refl

  -- the key that was read, and that it comes after the last one
  record KeyTook (last : Option K) (bytes : List ℕ) (k : K) (rest : List ℕ) : Type 0 where
    took : Took F bytes k rest
    after : comes_after cmp last k ≡ true

  key_takes : (last : Option K) (bytes : List ℕ) (k : K) (rest : List ℕ) → IsBytes bytes → key_at cmp F last bytes ≡ Ok (k, rest) → KeyTook last bytes k rest
  unfolding key_at
  key_takes last bytes k rest fits e =
      let made : K × List ℕ = (k, rest) in
      let a = bind_ok (F.read bytes) (λ key. cond (comes_after cmp last key.0) (Ok key) (Err (length bytes))) made e in
      let test = guard_ok (comes_after cmp last a.0.0) (length bytes) a.0 made a.2 in
      subst (λ (y : K × List ℕ). KeyTook last bytes y.0 y.1) test.1 (record { took = f.takes bytes a.0.0 a.0.1 fits a.1; after = test.0 })

  record RecordTook (last : Option K) (bytes : List ℕ) (e : K × V) (rest : List ℕ) : Type 0 where
    whole : bytes ≡ spell_one e ++ rest
    has : Fits e
    fits : IsBytes rest
    after : comes_after cmp last e.0 ≡ true

  record_takes : (last : Option K) (bytes : List ℕ) (e : K × V) (rest : List ℕ) → IsBytes bytes → record_at cmp F G last bytes ≡ Ok (e, rest) → RecordTook last bytes e rest
  unfolding record_at
  record_takes last bytes e rest fits h =
      let made : (K × V) × List ℕ = (e, rest) in
      let a = bind_ok (key_at cmp F last bytes) (λ key. G.read key.1 >>= λ value. Ok ((key.0, value.0), value.1)) made h in
      let b = bind_ok (G.read a.0.1) (λ value. Ok ((a.0.0, value.0), value.1)) made a.2 in
      let here = key_takes last bytes a.0.0 a.0.1 fits a.1 in
      let there = g.takes a.0.1 b.0.0 b.0.1 here.took.fits b.1 in
      let found : (K × V) × List ℕ = ((a.0.0, b.0.0), b.0.1) in
      subst (λ (y : (K × V) × List ℕ). RecordTook last bytes y.0 y.1) (ok_is found made b.2) (record {
        whole = here.took.whole ∙ ap (λ z. F.spell a.0.0 ++ z) there.whole ∙ sym (append_assoc (F.spell a.0.0) (G.spell b.0.0) b.0.1);
        has = (here.took.has, there.has);
        fits = there.fits;
        after = here.after;
      })

  record AllTook (n : ℕ) (last : Option K) (bytes : List ℕ) (es : List (K × V)) (rest : List ℕ) : Type 0 where
    whole : bytes ≡ flat_map spell_one es ++ rest
    len : length es ≡ n
    starts_after : StartsAfter cmp last es
    rising : IsRising cmp es
    has : AllByRecursion Fits es
    fits : IsBytes rest

  take_all : (n : ℕ) (last : Option K) (bytes : List ℕ) (es : List (K × V)) (rest : List ℕ) → IsBytes bytes → records_at cmp F G n last bytes ≡ Ok (es, rest) → AllTook n last bytes es rest
  unfolding records_at
  take_all zero last bytes es rest fits h =
      let made : List (K × V) × List ℕ = (es, rest) in
      let found : List (K × V) × List ℕ = ([], bytes) in
      subst (λ (y : List (K × V) × List ℕ). AllTook 0 last bytes y.0 y.1) (ok_is found made h) (record { whole = refl; len = refl; starts_after = tt; rising = tt; has = tt; fits = fits })
  take_all (suc n) last bytes es rest fits h =
      let made : List (K × V) × List ℕ = (es, rest) in
      let a = bind_ok (record_at cmp F G last bytes) (λ first. records_at cmp F G n (Some first.0.0) first.1 >>= λ others. Ok (first.0 ∷ others.0, others.1)) made h in
      let b = bind_ok (records_at cmp F G n (Some a.0.0.0) a.0.1) (λ others. Ok (a.0.0 ∷ others.0, others.1)) made a.2 in
      let here = record_takes last bytes a.0.0 a.0.1 fits a.1 in
      let there = take_all n (Some a.0.0.0) a.0.1 b.0.0 b.0.1 here.fits b.1 in
      let found : List (K × V) × List ℕ = (a.0.0 ∷ b.0.0, b.0.1) in
      subst (λ (y : List (K × V) × List ℕ). AllTook (suc n) last bytes y.0 y.1) (ok_is found made b.2) (record {
        whole = here.whole ∙ ap (λ z. spell_one a.0.0 ++ z) there.whole ∙ sym (append_assoc (spell_one a.0.0) (flat_map spell_one b.0.0) b.0.1) ∙ ap (λ z. z ++ b.0.1) (sym (flat_map-cons spell_one a.0.0 b.0.0));
        len = ap suc there.len;
        starts_after = here.after;
        rising = (below_all a.0.0.0 b.0.0 there.starts_after there.rising, there.rising);
        has = (here.has, there.has);
        fits = there.fits;
      })

  pub counted_lawful : (w : Width) (limit greatest : ℕ) → IsWide w limit → greatest < limit → Lawful (with_count w greatest cmp F G)
  counted_lawful w limit greatest wide below =
      let counts = number_lawful w limit 0 greatest wide below in
      record {
        again = λ es rest has.
            ap (with_count w greatest cmp F G).read (append_assoc (bytes_of w (length es)) (flat_map spell_one es) rest)
            ∙ rw (counts.again (length es) (flat_map spell_one es ++ rest) (omega arith, has.0)) (again_all None es rest (starts_first es) has.1 has.2);
        takes = λ bytes es rest fits h.
            let n = bind_ok (number_at w 0 greatest bytes) (λ count. records_at cmp F G count.0 None count.1) (es, rest) h in
            let here = counts.takes bytes n.0.0 n.0.1 fits n.1 in
            let there = take_all n.0.0 None n.0.1 es rest here.fits n.2 in
            record {
              whole = here.whole ∙ ap (λ z. bytes_of w n.0.0 ++ z) there.whole ∙ sym (append_assoc (bytes_of w n.0.0) (flat_map spell_one es) rest) ∙ ap (λ k. (bytes_of w k ++ flat_map spell_one es) ++ rest) (sym there.len);
              has = (omega (arith, here.has.1, there.len), there.rising, there.has);
              fits = there.fits;
            };
      }
    where
      starts_first : (es : List (K × V)) → StartsAfter cmp None es
      starts_first [] = tt
      starts_first (e ∷ es) = refl

  pub records_lawful : Lawful (records cmp F G)
  records_lawful = counted_lawful w64 (2 ^ 64) (2 ^ 64 - 1) wide64 (omega arith)
