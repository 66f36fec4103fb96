-- Blocks that are copied or shared one after another.
use Rattle.std.proofs.Common.{◌≡◌, ℕ, zero, suc, ◌<◌, List, [], ◌∷◌, ◌++◌, length, get_or, set, take, take-suc, refl, sym, ◌∙◌, ap, subst, arith}
use Rattle.fm_lattice.specs.Stocks.{Stock}
use Rattle.fm_lattice.specs.Blocks.{pairs_of}
use Rattle.fm_lattice.specs.inner.BlockOrder.{BeginsWith, AreHeaded}
use Rattle.fm_lattice.proofs.InBlocks.{pairs_push, pairs_set, headed_set, headed_push, begins_at}

take_set : {X : Type 0} (xs : List X) (i : ℕ) (x : X) → i < length xs → take (suc i) (set xs i x) ≡ take i xs ++ x ∷ []
take_set [] i x lt = absurd (omega arith)
take_set (y ∷ xs) zero x lt = refl
take_set (y ∷ xs) (suc i) x lt = ap (λ z. y ∷ z) (take_set xs i x (omega arith))

module _ {K V : Type 0} (bs done : List (K × Stock (K × V))) (i : ℕ) (w copy : K × Stock (K × V)) (lt : i < length bs) (read : w ≡ get_or bs i w) (key : copy.0 ≡ w.0) (items : copy.1.items ≡ w.1.items) (headed : AreHeaded bs) where
  begins : BeginsWith copy.0 copy.1.items
  begins =
      let old : BeginsWith w.0 w.1.items = subst (λ z. BeginsWith z.0 z.1.items) (sym read) (begins_at bs i w headed lt) in
      subst (λ z. BeginsWith z copy.1.items) (sym key) (subst (BeginsWith w.0) (sym items) old)

  pub more_headed : AreHeaded done → AreHeaded (done ++ copy ∷ [])
  more_headed so_far = headed_push done copy so_far begins

  pub more_pairs : pairs_of done ≡ pairs_of (take i bs) → pairs_of (done ++ copy ∷ []) ≡ pairs_of (take (suc i) bs)
  more_pairs so_far =
      let next : take (suc i) bs ≡ take i bs ++ w ∷ [] = take-suc bs i w lt ∙ ap (λ z. take i bs ++ z ∷ []) (sym read) in
      pairs_push done copy ∙ ap (λ z. z ++ copy.1.items) so_far ∙ ap (λ z. pairs_of (take i bs) ++ z) items ∙ sym (pairs_push (take i bs) w) ∙ ap pairs_of (sym next)

  -- where the block itself becomes a shared one
  module _ (new : K × Stock (K × V)) (new_key : new.0 ≡ w.0) (new_items : new.1.items ≡ w.1.items) where
    pub shared_same : pairs_of (set bs i new) ≡ pairs_of bs
    shared_same = pairs_set bs i w new (new_items ∙ ap (λ z. z.1.items) read)

    pub shared_headed : AreHeaded (set bs i new)
    shared_headed =
        let old : BeginsWith w.0 w.1.items = subst (λ z. BeginsWith z.0 z.1.items) (sym read) (begins_at bs i w headed lt) in
        headed_set bs i new headed (subst (λ z. BeginsWith z new.1.items) (sym new_key) (subst (BeginsWith w.0) (sym new_items) old))

    pub shared_more : pairs_of done ≡ pairs_of (take i bs) → pairs_of (done ++ copy ∷ []) ≡ pairs_of (take (suc i) (set bs i new))
    shared_more so_far =
        pairs_push done copy ∙ ap (λ z. z ++ copy.1.items) so_far ∙ ap (λ z. pairs_of (take i bs) ++ z) (items ∙ sym new_items) ∙ sym (pairs_push (take i bs) new) ∙ ap pairs_of (sym (take_set bs i new lt))
