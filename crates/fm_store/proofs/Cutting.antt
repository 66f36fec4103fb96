-- A store of which a part of the end is cut off.
use Rattle.std.proofs.Common.{◌≡◌, ◌⊎◌, ℕ, zero, suc, ◌-◌, ◌<◌, ◌≤◌, List, [], ◌∷◌, ◌++◌, length, take, Option, Some, None, IfSome, refl, sym, ap, ◌∙◌, subst, arith, append_assoc, inl, inr}
use Rattle.std.specs.Option.{option_map}
use Rattle.std.proofs.lemmas.Bool.{cases_lt}
use Rattle.std.proofs.lemmas.List.{append-nil, length-take, take-append-le}
use Rattle.fm_delta.specs.declared.packet.Packet.{Packet}
use Rattle.fm_store.specs.Devices.{HoldsBytes}
use Rattle.fm_store.specs.Frames.{frames}
use Rattle.fm_store.specs.Tails.{AreZeros, IsTorn, IsTail}
use Rattle.fm_store.specs.Heads.{HeadModel, head_record}
use Rattle.fm_store.specs.Stores.{magic, HasStoreOf, IsRecovery, KeepsStore}
use Rattle.fm_store.specs.declared.frames.Tail.TheVariants.{Clean, Torn}
use Rattle.fm_store.proofs.Framing.{take_past, short_front}
use Rattle.fm_store.proofs.Reading.{take_none}
use Rattle.fm_store.proofs.OneStore.{one_store}

-- ---- a front of a tail

zeros_take : (n : ℕ) (xs : List ℕ) → AreZeros xs → AreZeros (take n xs)
zeros_take zero xs none i = refl
zeros_take (suc n) [] none i = refl
zeros_take (suc n) (x ∷ xs) none zero = none zero
zeros_take (suc n) (x ∷ xs) none (suc i) = zeros_take n xs (λ j. none (suc j)) i

no_zeros : AreZeros []
no_zeros i = refl

-- a front of bytes that are torn is torn, unless it is empty
torn_front : (n : ℕ) (rest : List ℕ) → 0 < n → IsTorn rest → IsTorn (take n rest)
torn_front n rest some torn =
    let front = torn.1 in
    let zeros = torn.2 in
    let long : 0 < length (take n rest) = omega (arith, length-take n rest, torn.0, some) in
    elim (cases_lt (length front) n) [
      | inl past ↦
          let is : take n rest ≡ front ++ take (n - length front) zeros = ap (take n) torn.3 ∙ take_past front zeros n (n - length front) (omega (arith, past)) in
          (long, front, take (n - length front) zeros, is, zeros_take (n - length front) zeros torn.4, torn.5)
      | inr within ↦
          let is : take n rest ≡ take n front ++ [] = ap (take n) torn.3 ∙ take-append-le n front zeros within ∙ sym (append-nil (take n front)) in
          elim torn.5 [
            | inl empty ↦ absurd (let len : length front ≡ 0 = ap length empty in omega (arith, len, within, some))
            | inr short ↦ (long, take n front, [], is, no_zeros, inr (short_front front n some within short))
          ]
    ]

tail_front : (n : ℕ) (rest : List ℕ) → IsTail rest Clean ⊎ IsTail rest Torn → IsTail (take n rest) Clean ⊎ IsTail (take n rest) Torn
tail_front zero rest ends = inl refl
tail_front (suc n) rest (inl clean) = inl (ap (take (suc n)) clean ∙ take_none (suc n))
tail_front (suc n) rest (inr torn) = inr (torn_front (suc n) rest (omega arith) torn)

-- ---- a front of a store

has_cut : (head : HeadModel) (bytes : List ℕ) (ps : List Packet) (whole n : ℕ) → HasStoreOf head ps whole bytes → whole ≤ n → HasStoreOf head ps whole (take n bytes)
has_cut head bytes ps whole n has le =
    let rs = head_record head ∷ has.records in record {
      records = has.records;
      rest = take (n - whole) has.rest;
      fit = has.fit;
      are =
          ap (take n) (has.are ∙ sym (append_assoc magic (frames rs) has.rest))
          ∙ take_past (magic ++ frames rs) has.rest n (n - whole) (omega (arith, has.size, le))
          ∙ append_assoc magic (frames rs) (take (n - whole) has.rest);
      size = has.size;
      ends = tail_front (n - whole) has.rest has.ends;
      packets_are = has.packets_are;
    }

pub keeps_same : (head : HeadModel) (o n : Option (List ℕ)) → n ≡ o → KeepsStore head o n
keeps_same head None n same = tt
keeps_same head (Some all) n same = λ ps whole has. subst (λ (m : Option (List ℕ)). IfSome m (λ left. HasStoreOf head ps whole left)) (sym same) has

store_of_recovery : (head : HeadModel) (bytes : List ℕ) (ps : List Packet) (whole : ℕ) → IsRecovery head ps whole bytes → (whole ≡ 0 → ⊥) → HasStoreOf head ps whole bytes
store_of_recovery head bytes ps whole (inl none) some = absurd (some none.0)
store_of_recovery head bytes ps whole (inr has) some = has

pub keeps_cut : (head other : HeadModel) (o new : Option (List ℕ)) (bytes : List ℕ) (ps : List Packet) (whole n : ℕ) → IfSome o (λ all. bytes ≡ all) → IsRecovery head ps whole bytes → (whole ≡ 0 → ⊥) → whole ≤ n → new ≡ option_map (take n) o → KeepsStore other o new
keeps_cut head other None new bytes ps whole n is recovery some le cut = tt
keeps_cut head other (Some all) new bytes ps whole n is recovery some le cut = λ qs m has.
    let found = subst (λ (l : List ℕ). HasStoreOf head ps whole l) is (store_of_recovery head bytes ps whole recovery some) in
    let same : m ≡ whole = (one_store other head qs ps m whole all has found).2 in
    subst (λ (o : Option (List ℕ)). IfSome o (λ left. HasStoreOf other qs m left)) (sym cut) (has_cut other all qs m n has (omega (arith, same, le)))

-- ---- what is held, by what was read

read_is : (o : Option (List ℕ)) (bytes kept : List ℕ) → IfSome o (λ all. bytes ≡ all) → kept ≡ bytes → HoldsBytes o kept
read_is None bytes kept is kept_is = tt
read_is (Some all) bytes kept is kept_is = sym (kept_is ∙ is)

pub holds_same : (old new : Option (List ℕ)) (bytes kept : List ℕ) → new ≡ old → IfSome old (λ all. bytes ≡ all) → kept ≡ bytes → HoldsBytes new kept
holds_same old new bytes kept same is kept_is = subst (λ (o : Option (List ℕ)). HoldsBytes o kept) (sym same) (read_is old bytes kept is kept_is)

cut_is : (o : Option (List ℕ)) (bytes kept : List ℕ) (whole : ℕ) → IfSome o (λ all. bytes ≡ all) → kept ≡ take whole bytes → HoldsBytes (option_map (take whole) o) kept
cut_is None bytes kept whole is kept_is = tt
cut_is (Some all) bytes kept whole is kept_is = sym (kept_is ∙ ap (take whole) is)

pub holds_cut : (old new : Option (List ℕ)) (bytes kept : List ℕ) (whole : ℕ) → new ≡ option_map (take whole) old → IfSome old (λ all. bytes ≡ all) → kept ≡ take whole bytes → HoldsBytes new kept
holds_cut old new bytes kept whole cut is kept_is = subst (λ (o : Option (List ℕ)). HoldsBytes o kept) (sym cut) (cut_is old bytes kept whole is kept_is)
