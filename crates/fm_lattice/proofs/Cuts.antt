-- A block in two: nothing is lost, and the key goes to the one or the other.
use Rattle.std.proofs.Common.{◌≡◌, ℕ, suc, ◌<◌, true, List, ◌++◌, length, get_or, set, sym, ◌∙◌, ap, subst}
use Rattle.std.specs.List.{insert}
use Rattle.std.proofs.lemmas.List.{get_or_default, get_or-set_same}
use Rattle.std.specs.Cmp.{IsTotalOrder}
use Rattle.std.specs.declared.cmp.Ordering.{Ordering}
use Rattle.std.specs.declared.cmp.Ordering.TheVariants.{Less, Equal, Greater}
use Rattle.fm_lattice.specs.Chains.{TellsApart}
use Rattle.fm_lattice.specs.laws.ChainLaws.{greater_less}
use Rattle.fm_lattice.specs.Maps.{IsRising}
use Rattle.fm_lattice.specs.Stocks.{Stock}
use Rattle.fm_lattice.specs.Blocks.{pairs_of}
use Rattle.fm_lattice.specs.inner.BlockOrder.{BeginsWith, AreHeaded, IsAbove, IsBlockOf, IsOwnedAt, GoesToOwned, TakesKey}
use Rattle.fm_lattice.proofs.InBlocks.{inside_blocks, rising_in, begins_at, begins_front, front_below, above_trans, cut_left, cut_right, pairs_cut, headed_set, headed_insert, lower_at, upper_at, pairs_set, block_set}
use Rattle.fm_lattice.proofs.Owned.{owned_cut, owned_set}

module _ {K V : Type 0} (cmp : K → K → Ordering) (total : IsTotalOrder cmp) (same : TellsApart cmp)
    (bs new : List (K × Stock (K × V))) (k : K) (i : ℕ) (b c w : K × Stock (K × V)) (is : IsBlockOf cmp k bs i)
    (made : new ≡ insert (set bs i b) (suc i) c) (parts : b.1.items ++ c.1.items ≡ w.1.items) (read : w ≡ get_or bs i w) where
  inside : i < length bs
  inside = inside_blocks cmp total same bs k i is

  halves : b.1.items ++ c.1.items ≡ (get_or bs i w).1.items
  halves = parts ∙ ap (λ z. z.1.items) read

  pub cut_pairs : pairs_of new ≡ pairs_of bs
  cut_pairs = ap pairs_of made ∙ pairs_cut bs i w b c inside halves

  pub cut_headed : AreHeaded bs → b.0 ≡ w.0 → 0 < length b.1.items → BeginsWith c.0 c.1.items → AreHeaded new
  cut_headed headed key some first =
      let old : BeginsWith w.0 w.1.items = subst (λ z. BeginsWith z.0 z.1.items) (sym read) (begins_at bs i w headed inside) in
      let lower : BeginsWith b.0 b.1.items = subst (λ z. BeginsWith z b.1.items) (sym key) (begins_front w.0 b.1.items c.1.items (subst (BeginsWith w.0) (sym parts) old) some) in
      subst AreHeaded (sym made) (headed_insert (set bs i b) (suc i) c (headed_set bs i b headed lower) first)

  pub cut_owned : b.0 ≡ w.0 → b.1.owned ≡ true → c.1.owned ≡ true → (j : K) → GoesToOwned cmp bs j → GoesToOwned cmp new j
  cut_owned key lower upper j goes = subst (λ z. GoesToOwned cmp z j) (sym made) (owned_cut cmp j bs i w b c inside (key ∙ ap (λ z. z.0) read) lower upper goes)

  pub takes_lower : IsRising cmp (pairs_of bs) → BeginsWith c.0 c.1.items → b.1.owned ≡ true → length b.1.items < b.1.room → cmp k c.0 ≡ Less → TakesKey cmp k new i
  takes_lower rises first owned room less = record {
    is_block = subst (λ z. IsBlockOf cmp k z i) (sym made) (cut_left cmp total same bs k i w b c rises is halves first less);
    owned = λ d. subst (λ z. z.1.owned ≡ true) (sym (ap (λ z. get_or z i d) made ∙ lower_at bs i b c d inside)) owned;
    room = λ none d. subst (λ z. length z.1.items < z.1.room) (sym (ap (λ z. get_or z i d) made ∙ lower_at bs i b c d inside)) room;
  }

  takes_upper : c.1.owned ≡ true → length c.1.items < c.1.room → IsAbove cmp k b.1.items → TakesKey cmp k new (suc i)
  takes_upper owned room above = record {
    is_block = subst (λ z. IsBlockOf cmp k z (suc i)) (sym made) (cut_right cmp total same bs k i w b c is above);
    owned = λ d. subst (λ z. z.1.owned ≡ true) (sym (ap (λ z. get_or z (suc i) d) made ∙ upper_at bs i b c d inside)) owned;
    room = λ none d. subst (λ z. length z.1.items < z.1.room) (sym (ap (λ z. get_or z (suc i) d) made ∙ upper_at bs i b c d inside)) room;
  }

  lower_below : IsRising cmp (pairs_of bs) → BeginsWith c.0 c.1.items → IsAbove cmp c.0 b.1.items
  lower_below rises first = front_below cmp total same c.0 b.1.items c.1.items first (subst (IsRising cmp) (sym halves) (rising_in cmp total same bs i w rises inside))

  pub takes_first : IsRising cmp (pairs_of bs) → BeginsWith c.0 c.1.items → c.1.owned ≡ true → length c.1.items < c.1.room → cmp k c.0 ≡ Equal → TakesKey cmp k new (suc i)
  takes_first rises first owned room equal = takes_upper owned room (subst (λ z. IsAbove cmp z b.1.items) (sym (same k c.0 equal)) (lower_below rises first))

  pub takes_later : IsRising cmp (pairs_of bs) → BeginsWith c.0 c.1.items → c.1.owned ≡ true → length c.1.items < c.1.room → cmp k c.0 ≡ Greater → TakesKey cmp k new (suc i)
  takes_later rises first owned room greater = takes_upper owned room (above_trans cmp total same c.0 k b.1.items (lower_below rises first) (greater_less cmp total k c.0 greater))

-- a block in place of another with the same pairs
module _ {K V : Type 0} (cmp : K → K → Ordering) (total : IsTotalOrder cmp) (same : TellsApart cmp) (bs : List (K × Stock (K × V))) (k : K) (i : ℕ) (c w : K × Stock (K × V)) (is : IsBlockOf cmp k bs i) (read : w ≡ get_or bs i w) where
  -- what holds of the block that was read
  pub at_any : (P : K × Stock (K × V) → Type 0) → P w → (d : K × Stock (K × V)) → P (get_or bs i d)
  at_any P p d = subst P (read ∙ get_or_default bs i w d (inside_blocks cmp total same bs k i is)) p

  pub same_pairs : c.1.items ≡ w.1.items → pairs_of (set bs i c) ≡ pairs_of bs
  same_pairs items = pairs_set bs i w c (items ∙ ap (λ z. z.1.items) read)

  pub same_headed : AreHeaded bs → c.0 ≡ w.0 → c.1.items ≡ w.1.items → AreHeaded (set bs i c)
  same_headed headed key items =
      let old : BeginsWith w.0 w.1.items = subst (λ z. BeginsWith z.0 z.1.items) (sym read) (begins_at bs i w headed (inside_blocks cmp total same bs k i is)) in
      headed_set bs i c headed (subst (λ z. BeginsWith z c.1.items) (sym key) (subst (BeginsWith w.0) (sym items) old))

  pub same_owned : c.0 ≡ w.0 → c.1.owned ≡ true → (j : K) → GoesToOwned cmp bs j → GoesToOwned cmp (set bs i c) j
  same_owned key owned j goes = owned_set cmp j bs i w c (key ∙ ap (λ z. z.0) read) owned goes

  pub set_alone : c.1.owned ≡ true → IsOwnedAt (set bs i c) i
  set_alone owned d = subst (λ z. z.1.owned ≡ true) (sym (get_or-set_same bs i c d (inside_blocks cmp total same bs k i is))) owned

  pub takes_wider : c.1.owned ≡ true → length c.1.items < c.1.room → TakesKey cmp k (set bs i c) i
  takes_wider owned room = record {
    is_block = block_set cmp total same bs k i c is;
    owned = λ d. subst (λ z. z.1.owned ≡ true) (sym (get_or-set_same bs i c d (inside_blocks cmp total same bs k i is))) owned;
    room = λ none d. subst (λ z. length z.1.items < z.1.room) (sym (get_or-set_same bs i c d (inside_blocks cmp total same bs k i is))) room;
  }
