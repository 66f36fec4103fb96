-- Reading the records of a store one by one: what was found so far, one packet more, the end, and damage.
use Rattle.std.proofs.Common.{◌≡◌, ◌⊎◌, None, ℕ, ◌-◌, ◌<◌, ◌^◌, List, [], ◌∷◌, ◌++◌, length, refl, sym, ap, ◌∙◌, subst, arith, append_assoc, length-append, inl, inr}
use Rattle.std.proofs.lemmas.List.{append-nil}
use Rattle.fm_delta.specs.declared.packet.Packet.{Packet}
use Rattle.fm_wire.specs.Grammar.{IsPacket, Spells, spelling, version_from, fault}
use Rattle.fm_store.specs.Frames.{frame, frames}
use Rattle.fm_store.specs.Tails.{AreRecords, IsTail}
use Rattle.fm_store.specs.Heads.{HeadModel, head_record}
use Rattle.fm_store.specs.Stores.{SpellEach, magic, IsDamagedAt, IsCauseOf}
use Rattle.fm_store.specs.declared.frames.Tail.TheVariants.{Damaged}
use Rattle.fm_store.specs.declared.store_fault.StoreFault.{StoreFault}
use Rattle.fm_store.specs.declared.store_fault.StoreFault.TheVariants as faults

-- so far these packets were read of the bytes, and the rest is left
pub record SoFar (head : HeadModel) (bytes rest : List ℕ) (packets : List Packet) : Type 0 where
  pub records : List (List ℕ)
  pub fit : AreRecords (head_record head ∷ records)
  pub are : bytes ≡ magic ++ (frames (head_record head ∷ records) ++ rest)
  pub packets_are : SpellEach records packets

-- ---- none yet

pub none_so_far : (head : HeadModel) (bytes rest : List ℕ) → bytes ≡ magic ++ (frame (head_record head) ++ rest) → length (head_record head) < 2 ^ 64 → SoFar head bytes rest []
none_so_far head bytes rest is fits = record {
  records = [];
  fit = (fits, tt);
  are = is ∙ ap (λ (l : List ℕ). magic ++ (l ++ rest)) (sym (append-nil (frame (head_record head))));
  packets_are = tt;
}

-- ---- one more

frames_push : (rs : List (List ℕ)) (r rest : List ℕ) → frames (rs ++ r ∷ []) ++ rest ≡ frames rs ++ (frame r ++ rest)
frames_push [] r rest = ap (λ (l : List ℕ). l ++ rest) (append-nil (frame r))
frames_push (s ∷ rs) r rest =
    append_assoc (frame s) (frames (rs ++ r ∷ [])) rest ∙ ap (λ (l : List ℕ). frame s ++ l) (frames_push rs r rest) ∙ sym (append_assoc (frame s) (frames rs) (frame r ++ rest))

pub fit_push : (rs : List (List ℕ)) (r : List ℕ) → AreRecords rs → length r < 2 ^ 64 → AreRecords (rs ++ r ∷ [])
fit_push [] r fit fits = (fits, tt)
fit_push (s ∷ rs) r fit fits = (fit.0, fit_push rs r fit.1 fits)

pub each_push : (rs : List (List ℕ)) (ps : List Packet) (r : List ℕ) (p : Packet) → SpellEach rs ps → IsPacket p → Spells r p → SpellEach (rs ++ r ∷ []) (ps ++ p ∷ [])
each_push [] [] r p each is spells = (is, spells, tt)
each_push [] (q ∷ ps) r p each is spells = absurd each
each_push (s ∷ rs) [] r p each is spells = absurd each
each_push (s ∷ rs) (q ∷ ps) r p each is spells = (each.0, each.1, each_push rs ps r p each.2 is spells)

-- a packet's own spelling spells it: no number but one names the first version
pub spells_own : (p : Packet) → Spells (spelling p) p
spells_own p = (version_from 0, tt, refl)

pub one_more : (head : HeadModel) (bytes rest r after : List ℕ) (ps : List Packet) (p : Packet) → SoFar head bytes rest ps → rest ≡ frame r ++ after → length r < 2 ^ 64 → IsPacket p → Spells r p → SoFar head bytes after (ps ++ p ∷ [])
one_more head bytes rest r after ps p so_far is fits packet spells =
    let rs = head_record head ∷ so_far.records in record {
      records = so_far.records ++ r ∷ [];
      fit = fit_push rs r so_far.fit fits;
      are = so_far.are ∙ ap (λ (l : List ℕ). magic ++ (frames rs ++ l)) is ∙ ap (λ (l : List ℕ). magic ++ l) (sym (frames_push rs r after));
      packets_are = each_push so_far.records ps r p so_far.packets_are packet spells;
    }

-- ---- what errors say

pub place_of : (head : HeadModel) (bytes rest : List ℕ) (ps : List Packet) (so_far : SoFar head bytes rest ps) → length bytes - length rest ≡ length (magic ++ frames (head_record head ∷ so_far.records))
place_of head bytes rest ps so_far =
    let rs = head_record head ∷ so_far.records in
    let len : length bytes ≡ length (magic ++ (frames rs ++ rest)) = ap length so_far.are in
    omega (arith, len, length-append magic (frames rs ++ rest), length-append (frames rs) rest, length-append magic (frames rs))

pub damaged_so_far : (head : HeadModel) (bytes rest : List ℕ) (ps : List Packet) (place : ℕ) → SoFar head bytes rest ps → place ≡ length bytes - length rest
    → IsTail rest Damaged ⊎ ((r : List ℕ) × (after : List ℕ) × (length r < 2 ^ 64) × (rest ≡ frame r ++ after) × (fault r ≡ None → ⊥)) → IsDamagedAt head place bytes
damaged_so_far head bytes rest ps place so_far is cause = inr (inr (record {
  records = so_far.records;
  rest = rest;
  fit = so_far.fit;
  are = so_far.are;
  at = is ∙ place_of head bytes rest ps so_far;
  cause = cause;
}))

pub cause_memory : (head : HeadModel) (bytes : List ℕ) (e : StoreFault) → e ≡ faults.OutOfMemory → IsCauseOf head e bytes
cause_memory head bytes e is = subst (λ (f : StoreFault). IsCauseOf head f bytes) (sym is) tt

pub cause_damaged : (head : HeadModel) (bytes : List ℕ) (e : StoreFault) (place : ℕ) → e ≡ faults.Damaged place → IsDamagedAt head place bytes → IsCauseOf head e bytes
cause_damaged head bytes e place is damaged = subst (λ (f : StoreFault). IsCauseOf head f bytes) (sym is) damaged

-- a record that is no packet, or memory ran out for it
pub cause_packet : (head : HeadModel) (bytes rest r after : List ℕ) (ps : List Packet) (place : ℕ) (e : StoreFault) → SoFar head bytes rest ps → place ≡ length bytes - length rest → length r < 2 ^ 64 → rest ≡ frame r ++ after
    → (e ≡ faults.OutOfMemory) ⊎ ((e ≡ faults.Damaged place) × (fault r ≡ None → ⊥)) → IsCauseOf head e bytes
cause_packet head bytes rest r after ps place e so_far at fits is (inl memory) = cause_memory head bytes e memory
cause_packet head bytes rest r after ps place e so_far at fits is (inr bad) =
    cause_damaged head bytes e place bad.0 (damaged_so_far head bytes rest ps place so_far at (inr (r, after, fits, is, bad.1)))

-- a tail that is damaged
pub cause_tail : (head : HeadModel) (bytes rest : List ℕ) (ps : List Packet) (place : ℕ) → SoFar head bytes rest ps → place ≡ length bytes - length rest → IsTail rest Damaged → IsCauseOf head (faults.Damaged place) bytes
cause_tail head bytes rest ps place so_far at damaged = damaged_so_far head bytes rest ps place so_far at (inl damaged)
