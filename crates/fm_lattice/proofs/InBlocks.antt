-- A key in blocks: what it is for the pairs of all is what it is for those of its block.
use Rattle.std.proofs.Common.{◌≡◌, ℕ, zero, suc, ◌+◌, ◌<◌, List, [], ◌∷◌, ◌++◌, length, get_or, set, Some, refl, sym, ◌∙◌, ap, subst, arith, append_assoc, append-nil, length-append}
use Rattle.std.specs.Prelude.{cond}
use Rattle.std.specs.Ordering.{is_eq}
use Rattle.std.specs.List.{insert}
use Rattle.std.specs.Cmp.{IsTotalOrder}
use Rattle.std.specs.declared.cmp.Ordering.{Ordering}
use Rattle.std.specs.declared.cmp.Ordering.TheVariants.{Less}
use Rattle.fm_lattice.specs.Chains.{TellsApart, by_order}
use Rattle.fm_lattice.specs.laws.ChainLaws.{by_cases, less_greater, greater_less}
use Rattle.fm_lattice.specs.Maps.{lookup, IsBelow, IsRising, put}
use Rattle.fm_lattice.specs.laws.MapLaws.{below_trans, lookup_below}
use Rattle.fm_lattice.specs.inner.SortedVec.{HasKeyAt, IsInsertionIndex}
use Rattle.fm_lattice.specs.Stocks.{Stock}
use Rattle.fm_lattice.specs.Blocks.{pairs_of}
use Rattle.fm_lattice.specs.inner.BlockOrder.{BeginsWith, AreHeaded, IsAbove, IsBlockOf}
use Rattle.fm_lattice.proofs.Places.{below_at}

module _ {K V : Type 0} (cmp : K → K → Ordering) (total : IsTotalOrder cmp) (same : TellsApart cmp) where
  pub below_front : (k : K) (xs ys : List (K × V)) → IsBelow cmp k (xs ++ ys) → IsBelow cmp k xs
  below_front k [] ys b = tt
  below_front k (x ∷ xs) ys b = (b.0, below_front k xs ys b.1)

  pub below_back : (k : K) (xs ys : List (K × V)) → IsBelow cmp k (xs ++ ys) → IsBelow cmp k ys
  below_back k [] ys b = b
  below_back k (x ∷ xs) ys b = below_back k xs ys b.1

  pub rising_front : (xs ys : List (K × V)) → IsRising cmp (xs ++ ys) → IsRising cmp xs
  rising_front [] ys r = tt
  rising_front (x ∷ xs) ys r = (below_front x.0 xs ys r.0, rising_front xs ys r.1)

  pub rising_back : (xs ys : List (K × V)) → IsRising cmp (xs ++ ys) → IsRising cmp ys
  rising_back [] ys r = r
  rising_back (x ∷ xs) ys r = rising_back xs ys r.1

  pub above_trans : (j k : K) (es : List (K × V)) → IsAbove cmp j es → cmp j k ≡ Less → IsAbove cmp k es
  above_trans j k [] a e = tt
  above_trans j k (x ∷ es) a e = (total.trans x.0 j k a.0 e, above_trans j k es a.1 e)

  pub above_append : (k : K) (xs ys : List (K × V)) → IsAbove cmp k xs → IsAbove cmp k ys → IsAbove cmp k (xs ++ ys)
  above_append k [] ys a b = b
  above_append k (x ∷ xs) ys a b = (a.0, above_append k xs ys a.1 b)

  -- above the last of what rises is above all of it
  pub above_last : (k : K) (es : List (K × V)) (i : ℕ) (d : K × V) → IsRising cmp es → i + 1 ≡ length es → cmp (get_or es i d).0 k ≡ Less → IsAbove cmp k es
  above_last k [] i d r last less = absurd (omega (arith, last))
  above_last k (x ∷ []) zero d r last less = (less, tt)
  above_last k (x ∷ y ∷ es) zero d r last less = absurd (omega (arith, last))
  above_last k (x ∷ []) (suc i) d r last less = absurd (omega (arith, last))
  above_last k (x ∷ y ∷ es) (suc i) d r last less =
      let rest = above_last k (y ∷ es) i d r.1 (omega (arith, last)) less in
      (total.trans x.0 y.0 k r.0.0 rest.0, rest)

  -- what begins with a key
  pub first_below : (k j : K) (es ys : List (K × V)) → BeginsWith j es → IsRising cmp (es ++ ys) → cmp k j ≡ Less → IsBelow cmp k (es ++ ys)
  first_below k j [] ys h r e = absurd h
  first_below k j (x ∷ es) ys h r e = let less : cmp k x.0 ≡ Less = subst (λ z. cmp k z ≡ Less) (sym h) e in (less, below_trans cmp total same k x.0 (es ++ ys) less r.0)

  pub below_first : (k j : K) (es ys : List (K × V)) → BeginsWith j es → IsBelow cmp k (es ++ ys) → cmp k j ≡ Less
  below_first k j [] ys h b = absurd h
  below_first k j (x ∷ es) ys h b = subst (λ z. cmp k z ≡ Less) h b.0

  pub first_apart : (j : K) (es ys : List (K × V)) → BeginsWith j es → IsRising cmp (es ++ ys) → IsBelow cmp j ys
  first_apart j [] ys h r = absurd h
  first_apart j (x ∷ es) ys h r = subst (λ z. IsBelow cmp z ys) h (below_back x.0 es ys r.0)

  -- what is in front of a key that is the first of what follows
  pub front_below : (j : K) (xs es : List (K × V)) → BeginsWith j es → IsRising cmp (xs ++ es) → IsAbove cmp j xs
  front_below j [] es h r = tt
  front_below j (x ∷ xs) es h r = (below_first_of x.0 j es h (below_back x.0 xs es r.0), front_below j xs es h r.1)
    where
      below_first_of : (k j : K) (es : List (K × V)) → BeginsWith j es → IsBelow cmp k es → cmp k j ≡ Less
      below_first_of k j [] h b = absurd h
      below_first_of k j (x ∷ es) h b = subst (λ z. cmp k z ≡ Less) h b.0

  pub lookup_front : (k : K) (xs ys : List (K × V)) → IsBelow cmp k ys → lookup cmp k (xs ++ ys) ≡ lookup cmp k xs
  lookup_front k [] ys b = lookup_below cmp total same k ys b
  lookup_front k (x ∷ xs) ys b = ap (cond (is_eq (cmp k x.0)) (Some x.1)) (lookup_front k xs ys b)

  pub lookup_back : (k : K) (xs ys : List (K × V)) → IsAbove cmp k xs → lookup cmp k (xs ++ ys) ≡ lookup cmp k ys
  lookup_back k [] ys a = refl
  lookup_back k (x ∷ xs) ys a = rw (less_greater cmp total x.0 k a.0) (lookup_back k xs ys a.1)

  -- above a key that the list begins with, if the list is above
  first_above : (j k : K) (es ys : List (K × V)) → BeginsWith j es → IsAbove cmp k (es ++ ys) → cmp j k ≡ Less
  first_above j k [] ys h a = absurd h
  first_above j k (x ∷ es) ys h a = subst (λ z. cmp z k ≡ Less) h a.0

  -- above the last block is above all
  pub above_blocks : (k : K) (bs : List (K × Stock (K × V))) (i : ℕ) (d : K × Stock (K × V)) → AreHeaded bs → IsRising cmp (pairs_of bs) → i + 1 ≡ length bs → IsAbove cmp k (get_or bs i d).1.items → IsAbove cmp k (pairs_of bs)
  above_blocks k [] i d h r last above = absurd (omega (arith, last))
  above_blocks k (b ∷ []) zero d h r last above = above_append k b.1.items [] above tt
  above_blocks k (b ∷ c ∷ bs) zero d h r last above = absurd (omega (arith, last))
  above_blocks k (b ∷ []) (suc i) d h r last above = absurd (omega (arith, last))
  above_blocks k (b ∷ c ∷ bs) (suc i) d h r last above =
      let rest = above_blocks k (c ∷ bs) i d h.1 (rising_back b.1.items (pairs_of (c ∷ bs)) r) (omega (arith, last)) above in
      let front : IsAbove cmp c.0 b.1.items = front_below c.0 b.1.items (pairs_of (c ∷ bs)) (begins_in c.0 c.1.items (pairs_of bs) h.1.0) r in
      above_append k b.1.items (pairs_of (c ∷ bs)) (above_trans c.0 k b.1.items front (first_above c.0 k c.1.items (pairs_of bs) h.1.0 rest)) rest
    where
      begins_in : (j : K) (es ys : List (K × V)) → BeginsWith j es → BeginsWith j (es ++ ys)
      begins_in j [] ys h = absurd h
      begins_in j (x ∷ es) ys h = h

  module _ (join : V → V → V) where
    pub put_front : (k : K) (v : V) (xs ys : List (K × V)) → IsBelow cmp k ys → put cmp join k v (xs ++ ys) ≡ put cmp join k v xs ++ ys
    put_front k v [] [] b = refl
    put_front k v [] (y ∷ ys) b = rw b.0 refl
    put_front k v (x ∷ xs) ys b =
        by_cases (cmp k x.0) (λ o. by_order o ((k, v) ∷ x ∷ (xs ++ ys)) ((x.0, join x.1 v) ∷ (xs ++ ys)) (x ∷ put cmp join k v (xs ++ ys)) ≡ by_order o ((k, v) ∷ x ∷ xs) ((x.0, join x.1 v) ∷ xs) (x ∷ put cmp join k v xs) ++ ys)
        (λ _. refl) (λ _. refl) (λ _. ap (λ z. x ∷ z) (put_front k v xs ys b))

    pub put_back : (k : K) (v : V) (xs ys : List (K × V)) → IsAbove cmp k xs → put cmp join k v (xs ++ ys) ≡ xs ++ put cmp join k v ys
    put_back k v [] ys a = refl
    put_back k v (x ∷ xs) ys a = rw (less_greater cmp total x.0 k a.0) (ap (λ z. x ∷ z) (put_back k v xs ys a.1))

  module _ where
    -- the keys of blocks rise too
    pub below_blocks : (k : K) (bs : List (K × Stock (K × V))) → AreHeaded bs → IsBelow cmp k (pairs_of bs) → IsBelow cmp k bs
    below_blocks k [] h b = tt
    below_blocks k (c ∷ bs) h b = (below_first k c.0 c.1.items (pairs_of bs) h.0 b, below_blocks k bs h.1 (below_back k c.1.items (pairs_of bs) b))

    pub blocks_rise : (bs : List (K × Stock (K × V))) → AreHeaded bs → IsRising cmp (pairs_of bs) → IsRising cmp bs
    blocks_rise [] h r = tt
    blocks_rise (c ∷ bs) h r = (below_blocks c.0 bs h.1 (first_apart c.0 c.1.items (pairs_of bs) h.0 r), blocks_rise bs h.1 (rising_back c.1.items (pairs_of bs) r))

    -- a key below the first block is below all
    pub below_all : (k : K) (bs : List (K × Stock (K × V))) → AreHeaded bs → IsRising cmp (pairs_of bs) → ((d : K × Stock (K × V)) → 0 < length bs → cmp k (get_or bs 0 d).0 ≡ Less) → IsBelow cmp k (pairs_of bs)
    below_all k [] h r first = tt
    below_all k (c ∷ bs) h r first = first_below k c.0 c.1.items (pairs_of bs) h.0 r (first c (omega arith))

    -- the key of a later block is above all before
    above_block : (es : List (K × V)) (bs : List (K × Stock (K × V))) (i : ℕ) (d : K × Stock (K × V)) → AreHeaded bs → IsRising cmp (es ++ pairs_of bs) → i < length bs → IsAbove cmp (get_or bs i d).0 es
    above_block [] bs i d h r lt = tt
    above_block (x ∷ es) bs i d h r lt = (below_at cmp total same x.0 bs i d (below_blocks x.0 bs h (below_back x.0 es (pairs_of bs) r.0)) lt, above_block es bs i d h r.1 lt)

    pub block_at : (bs : List (K × Stock (K × V))) (k : K) (i : ℕ) → AreHeaded bs → IsRising cmp (pairs_of bs) → HasKeyAt cmp bs k i → IsBlockOf cmp k bs i
    block_at [] k i h r at = absurd (omega (arith, at.in_range))
    block_at (c ∷ bs) k zero h r at = subst (λ z. IsBelow cmp z (pairs_of bs)) (same c.0 k (at.has_key c)) (first_apart c.0 c.1.items (pairs_of bs) h.0 r)
    block_at (c ∷ bs) k (suc i) h r at =
        let inside : i < length bs = omega (arith, at.in_range) in (
          subst (λ z. IsAbove cmp z c.1.items) (same (get_or bs i c).0 k (at.has_key c)) (above_block c.1.items bs i c h.1 r inside),
          block_at bs k i h.1 (rising_back c.1.items (pairs_of bs) r) (record { in_range = inside; has_key = λ d. at.has_key d }),
        )

    pub block_before : (bs : List (K × Stock (K × V))) (k : K) (i : ℕ) → AreHeaded bs → IsRising cmp (pairs_of bs) → IsInsertionIndex cmp bs k (suc i) → IsBlockOf cmp k bs i
    block_before [] k i h r gap = absurd (omega (arith, gap.in_range))
    block_before (c ∷ bs) k zero h r gap = below_all k bs h.1 (rising_back c.1.items (pairs_of bs) r) (λ d lt. greater_less cmp total (get_or bs 0 d).0 k (gap.after 1 d (omega arith) (omega arith)))
    block_before (c ∷ bs) k (suc i) h r gap =
        let inside : i < length bs = omega (arith, gap.in_range) in (
          above_trans (get_or bs i c).0 k c.1.items (above_block c.1.items bs i c h.1 r inside) (gap.before (suc i) c (omega arith)),
          block_before bs k i h.1 (rising_back c.1.items (pairs_of bs) r) (record { in_range = omega (arith, gap.in_range); before = λ j d lt. gap.before (suc j) d (omega arith); after = λ j d le lt. gap.after (suc j) d (omega arith) (omega arith) }),
        )

    pub block_first : (bs : List (K × Stock (K × V))) (k : K) → AreHeaded bs → IsRising cmp (pairs_of bs) → 0 < length bs → IsInsertionIndex cmp bs k 0 → IsBlockOf cmp k bs 0
    block_first [] k h r some gap = absurd (omega arith)
    block_first (c ∷ bs) k h r some gap = below_back k c.1.items (pairs_of bs) (first_below k c.0 c.1.items (pairs_of bs) h.0 r (greater_less cmp total c.0 k (gap.after 0 c (omega arith) (omega arith))))

    pub inside_blocks : (bs : List (K × Stock (K × V))) (k : K) (i : ℕ) → IsBlockOf cmp k bs i → i < length bs
    inside_blocks [] k i is = absurd is
    inside_blocks (c ∷ bs) k zero is = omega arith
    inside_blocks (c ∷ bs) k (suc i) is = let rest = inside_blocks bs k i is.1 in omega arith

    pub rising_in : (bs : List (K × Stock (K × V))) (i : ℕ) (d : K × Stock (K × V)) → IsRising cmp (pairs_of bs) → i < length bs → IsRising cmp (get_or bs i d).1.items
    rising_in [] i d r lt = absurd (omega arith)
    rising_in (c ∷ bs) zero d r lt = rising_front c.1.items (pairs_of bs) r
    rising_in (c ∷ bs) (suc i) d r lt = rising_in bs i d (rising_back c.1.items (pairs_of bs) r) (omega arith)

    pub lookup_in : (bs : List (K × Stock (K × V))) (k : K) (i : ℕ) (d : K × Stock (K × V)) → IsBlockOf cmp k bs i → lookup cmp k (pairs_of bs) ≡ lookup cmp k (get_or bs i d).1.items
    lookup_in [] k i d is = absurd is
    lookup_in (c ∷ bs) k zero d is = lookup_front k c.1.items (pairs_of bs) is
    lookup_in (c ∷ bs) k (suc i) d is = lookup_back k c.1.items (pairs_of bs) is.0 ∙ lookup_in bs k i d is.1

    pub put_in : (join : V → V → V) (bs : List (K × Stock (K × V))) (k : K) (v : V) (i : ℕ) (d c : K × Stock (K × V)) → IsBlockOf cmp k bs i → c.1.items ≡ put cmp join k v (get_or bs i d).1.items → pairs_of (set bs i c) ≡ put cmp join k v (pairs_of bs)
    put_in join [] k v i d c is e = absurd is
    put_in join (b ∷ bs) k v zero d c is e = ap (λ z. z ++ pairs_of bs) e ∙ sym (put_front join k v b.1.items (pairs_of bs) is)
    put_in join (b ∷ bs) k v (suc i) d c is e = ap (λ z. b.1.items ++ z) (put_in join bs k v i d c is.1 e) ∙ sym (put_back join k v b.1.items (pairs_of bs) is.0)

    pub block_set : (bs : List (K × Stock (K × V))) (k : K) (i : ℕ) (c : K × Stock (K × V)) → IsBlockOf cmp k bs i → IsBlockOf cmp k (set bs i c) i
    block_set [] k i c is = absurd is
    block_set (a ∷ bs) k zero c is = is
    block_set (a ∷ bs) k (suc i) c is = (is.0, block_set bs k i c is.1)

    -- a block in two
    pub cut_left : (bs : List (K × Stock (K × V))) (k : K) (i : ℕ) (d b c : K × Stock (K × V)) → IsRising cmp (pairs_of bs) → IsBlockOf cmp k bs i → b.1.items ++ c.1.items ≡ (get_or bs i d).1.items → BeginsWith c.0 c.1.items → cmp k c.0 ≡ Less → IsBlockOf cmp k (insert (set bs i b) (suc i) c) i
    cut_left [] k i d b c r is parts begins less = absurd is
    cut_left (a ∷ bs) k zero d b c r is parts begins less =
        let whole : IsRising cmp (b.1.items ++ (c.1.items ++ pairs_of bs)) = rw (sym (append_assoc b.1.items c.1.items (pairs_of bs)), parts) r in
        first_below k c.0 c.1.items (pairs_of bs) begins (rising_back b.1.items (c.1.items ++ pairs_of bs) whole) less
    cut_left (a ∷ bs) k (suc i) d b c r is parts begins less = (is.0, cut_left bs k i d b c (rising_back a.1.items (pairs_of bs) r) is.1 parts begins less)

    pub cut_right : (bs : List (K × Stock (K × V))) (k : K) (i : ℕ) (d b c : K × Stock (K × V)) → IsBlockOf cmp k bs i → IsAbove cmp k b.1.items → IsBlockOf cmp k (insert (set bs i b) (suc i) c) (suc i)
    cut_right [] k i d b c is above = absurd is
    cut_right (a ∷ bs) k zero d b c is above = (above, is)
    cut_right (a ∷ bs) k (suc i) d b c is above = (is.0, cut_right bs k i d b c is.1 above)

module _ {K V : Type 0} where
  pub pairs_cut : (bs : List (K × Stock (K × V))) (i : ℕ) (d b c : K × Stock (K × V)) → i < length bs → b.1.items ++ c.1.items ≡ (get_or bs i d).1.items → pairs_of (insert (set bs i b) (suc i) c) ≡ pairs_of bs
  pairs_cut [] i d b c lt parts = absurd (omega arith)
  pairs_cut (a ∷ bs) zero d b c lt parts = sym (append_assoc b.1.items c.1.items (pairs_of bs)) ∙ ap (λ z. z ++ pairs_of bs) parts
  pairs_cut (a ∷ bs) (suc i) d b c lt parts = ap (λ z. a.1.items ++ z) (pairs_cut bs i d b c (omega arith) parts)

  pub lower_at : (bs : List (K × Stock (K × V))) (i : ℕ) (b c d : K × Stock (K × V)) → i < length bs → get_or (insert (set bs i b) (suc i) c) i d ≡ b
  lower_at [] i b c d lt = absurd (omega arith)
  lower_at (a ∷ bs) zero b c d lt = refl
  lower_at (a ∷ bs) (suc i) b c d lt = lower_at bs i b c d (omega arith)

  pub upper_at : (bs : List (K × Stock (K × V))) (i : ℕ) (b c d : K × Stock (K × V)) → i < length bs → get_or (insert (set bs i b) (suc i) c) (suc i) d ≡ c
  upper_at [] i b c d lt = absurd (omega arith)
  upper_at (a ∷ bs) zero b c d lt = refl
  upper_at (a ∷ bs) (suc i) b c d lt = upper_at bs i b c d (omega arith)

  -- a block in place of another with the same pairs
  pub pairs_set : (bs : List (K × Stock (K × V))) (i : ℕ) (d c : K × Stock (K × V)) → c.1.items ≡ (get_or bs i d).1.items → pairs_of (set bs i c) ≡ pairs_of bs
  pairs_set [] i d c e = refl
  pairs_set (a ∷ bs) zero d c e = ap (λ z. z ++ pairs_of bs) e
  pairs_set (a ∷ bs) (suc i) d c e = ap (λ z. a.1.items ++ z) (pairs_set bs i d c e)

  pub headed_set : (bs : List (K × Stock (K × V))) (i : ℕ) (c : K × Stock (K × V)) → AreHeaded bs → BeginsWith c.0 c.1.items → AreHeaded (set bs i c)
  headed_set [] i c h begins = tt
  headed_set (a ∷ bs) zero c h begins = (begins, h.1)
  headed_set (a ∷ bs) (suc i) c h begins = (h.0, headed_set bs i c h.1 begins)

  pub headed_insert : (bs : List (K × Stock (K × V))) (i : ℕ) (c : K × Stock (K × V)) → AreHeaded bs → BeginsWith c.0 c.1.items → AreHeaded (insert bs i c)
  headed_insert [] zero c h begins = (begins, tt)
  headed_insert [] (suc i) c h begins = (begins, tt)
  headed_insert (a ∷ bs) zero c h begins = (begins, h)
  headed_insert (a ∷ bs) (suc i) c h begins = (h.0, headed_insert bs i c h.1 begins)

  pub begins_at : (bs : List (K × Stock (K × V))) (i : ℕ) (d : K × Stock (K × V)) → AreHeaded bs → i < length bs → BeginsWith (get_or bs i d).0 (get_or bs i d).1.items
  begins_at [] i d h lt = absurd (omega arith)
  begins_at (a ∷ bs) zero d h lt = h.0
  begins_at (a ∷ bs) (suc i) d h lt = begins_at bs i d h.1 (omega arith)

  -- how many pairs there are when a block changes
  pub count_set : (bs : List (K × Stock (K × V))) (i : ℕ) (d c : K × Stock (K × V)) → i < length bs → length (pairs_of (set bs i c)) + length (get_or bs i d).1.items ≡ length (pairs_of bs) + length c.1.items
  count_set [] i d c lt = absurd (omega arith)
  count_set (a ∷ bs) zero d c lt = omega (arith, length-append c.1.items (pairs_of bs), length-append a.1.items (pairs_of bs))
  count_set (a ∷ bs) (suc i) d c lt = omega (arith, length-append a.1.items (pairs_of (set bs i c)), length-append a.1.items (pairs_of bs), count_set bs i d c (omega arith))

  -- a pair at the end
  pub pairs_push : (bs : List (K × Stock (K × V))) (c : K × Stock (K × V)) → pairs_of (bs ++ c ∷ []) ≡ pairs_of bs ++ c.1.items
  pairs_push [] c = append-nil c.1.items
  pairs_push (a ∷ bs) c = ap (λ z. a.1.items ++ z) (pairs_push bs c) ∙ sym (append_assoc a.1.items (pairs_of bs) c.1.items)

  pub headed_push : (bs : List (K × Stock (K × V))) (c : K × Stock (K × V)) → AreHeaded bs → BeginsWith c.0 c.1.items → AreHeaded (bs ++ c ∷ [])
  headed_push [] c h begins = (begins, tt)
  headed_push (a ∷ bs) c h begins = (h.0, headed_push bs c h.1 begins)

  pub pairs_last : (bs : List (K × Stock (K × V))) (i : ℕ) (d c : K × Stock (K × V)) (es : List (K × V)) → i + 1 ≡ length bs → c.1.items ≡ (get_or bs i d).1.items ++ es → pairs_of (set bs i c) ≡ pairs_of bs ++ es
  pairs_last [] i d c es last e = absurd (omega arith)
  pairs_last (a ∷ []) zero d c es last e = rw (append-nil, append-nil) e
  pairs_last (a ∷ b ∷ bs) zero d c es last e = absurd (omega arith)
  pairs_last (a ∷ bs) (suc i) d c es last e = ap (λ z. a.1.items ++ z) (pairs_last bs i d c es (omega arith) e) ∙ sym (append_assoc a.1.items (pairs_of bs) es)

module _ {K V : Type 0} where
  pub begins_first : (es : List (K × V)) (d : K × V) → 0 < length es → BeginsWith (get_or es 0 d).0 es
  begins_first [] d lt = absurd (omega arith)
  begins_first (x ∷ es) d lt = refl

  pub begins_front : (k : K) (xs ys : List (K × V)) → BeginsWith k (xs ++ ys) → 0 < length xs → BeginsWith k xs
  begins_front k [] ys b lt = absurd (omega arith)
  begins_front k (x ∷ xs) ys b lt = b

  pub begins_more : (k : K) (xs ys : List (K × V)) → BeginsWith k xs → BeginsWith k (xs ++ ys)
  begins_more k [] ys b = absurd b
  begins_more k (x ∷ xs) ys b = b

  pub begins_some : (k : K) (es : List (K × V)) → BeginsWith k es → 0 < length es
  begins_some k [] b = absurd b
  begins_some k (x ∷ es) b = omega arith
