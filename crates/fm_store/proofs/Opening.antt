-- Stores on a device: the bytes that are written, and damage that is found.
use Rattle.std.proofs.Common.{◌≡◌, ℕ, ◌<◌, ◌^◌, List, [], ◌∷◌, ◌++◌, length, Option, Some, None, IfSome, sym, ap, ◌∙◌, subst, append_assoc}
use Rattle.std.proofs.lemmas.List.{append-nil}
use Rattle.fm_delta.specs.declared.packet.Packet.{Packet}
use Rattle.fm_wire.specs.Grammar.{IsPacket, spelling}
use Rattle.fm_store.specs.Frames.{frame, frames}
use Rattle.fm_store.specs.Heads.{HeadModel, head_record}
use Rattle.fm_store.specs.Stores.{IsStoreOf, IsDamagedAt, IsCauseOf, magic}
use Rattle.fm_store.specs.declared.store_fault.StoreFault.{StoreFault}
use Rattle.fm_store.specs.declared.store_fault.StoreFault.TheVariants as faults
use Rattle.fm_store.proofs.Recovering.{fit_push, each_push, spells_own}

-- ---- what is written

frames_one : (rs : List (List ℕ)) (r : List ℕ) → frames (rs ++ r ∷ []) ≡ frames rs ++ frame r
frames_one [] r = append-nil (frame r)
frames_one (s ∷ rs) r = ap (λ (l : List ℕ). frame s ++ l) (frames_one rs r) ∙ sym (append_assoc (frame s) (frames rs) (frame r))

pub store_none : (head : HeadModel) (old new : List ℕ) → old ≡ magic → length (head_record head) < 2 ^ 64 → new ≡ old ++ frame (head_record head) → IsStoreOf head [] new
store_none head old new begins fits is = record {
  records = [];
  fit = (fits, tt);
  are = is ∙ ap (λ (l : List ℕ). l ++ frame (head_record head)) begins ∙ ap (λ (l : List ℕ). magic ++ l) (sym (append-nil (frame (head_record head))));
  packets_are = tt;
}

pub store_push : (head : HeadModel) (old new : List ℕ) (ps : List Packet) (p : Packet) → IsStoreOf head ps old → IsPacket p → length (spelling p) < 2 ^ 64 → new ≡ old ++ frame (spelling p) → IsStoreOf head (ps ++ p ∷ []) new
store_push head old new ps p store packet fits is =
    let rs = head_record head ∷ store.records in record {
      records = store.records ++ spelling p ∷ [];
      fit = fit_push rs (spelling p) store.fit fits;
      are =
          is ∙ ap (λ (l : List ℕ). l ++ frame (spelling p)) store.are
          ∙ append_assoc magic (frames rs) (frame (spelling p))
          ∙ ap (λ (l : List ℕ). magic ++ l) (sym (frames_one rs (spelling p)));
      packets_are = each_push store.records ps (spelling p) p store.packets_are packet (spells_own p);
    }

-- ---- what is found

pub damaged_found : (head : HeadModel) (o : Option (List ℕ)) (bytes : List ℕ) (e : StoreFault) (place : ℕ) → IfSome o (λ all. bytes ≡ all) → IsCauseOf head e bytes → e ≡ faults.Damaged place → IfSome o (λ all. IsDamagedAt head place all)
damaged_found head None bytes e place is cause named = tt
damaged_found head (Some all) bytes e place is cause named = subst (λ (l : List ℕ). IsDamagedAt head place l) is (subst (λ (f : StoreFault). IsCauseOf head f bytes) named cause)
