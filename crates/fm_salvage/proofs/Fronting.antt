-- Records that were read one by one: none, one more, and all.
use Rattle.std.proofs.Common.{◌≡◌, ℕ, ◌+◌, ◌-◌, ◌≤◌, List, [], ◌∷◌, ◌++◌, length, refl, sym, ap, ◌∙◌, arith, append_assoc, length-append}
use Rattle.fm_delta.specs.declared.packet.Packet.{Packet}
use Rattle.fm_store.specs.Frames.{frame, frames}
use Rattle.fm_store.specs.Heads.{HeadModel, head_record}
use Rattle.fm_store.specs.Stores.{magic}
use Rattle.fm_store.proofs.Recovering.{fit_push, each_push}
use Rattle.fm_store.specs.declared.frames.Tail.{Tail}
use Rattle.fm_salvage.specs.StoreFronts.{IsEnd, IsFront}
use Rattle.fm_salvage.specs.inner.FrameReading.{AreRead, HasHead, HasPacket}

pub none_read : (bytes : List ℕ) → AreRead [] [] bytes bytes
none_read bytes = record { fit = tt; are = refl; packets_are = tt }

frames_more : (rs : List (List ℕ)) (r rest : List ℕ) → frames (rs ++ r ∷ []) ++ rest ≡ frames rs ++ (frame r ++ rest)
frames_more [] r rest = append_assoc (frame r) [] rest
frames_more (s ∷ rs) r rest =
    append_assoc (frame s) (frames (rs ++ r ∷ [])) rest ∙ ap (λ (l : List ℕ). frame s ++ l) (frames_more rs r rest) ∙ sym (append_assoc (frame s) (frames rs) (frame r ++ rest))

pub one_read : (rs : List (List ℕ)) (ps : List Packet) (rest bytes after : List ℕ) (p : Packet) (size : ℕ) → AreRead rs ps rest bytes → (h : HasPacket p size after rest) → AreRead (rs ++ h.read ∷ []) (ps ++ p ∷ []) after bytes
one_read rs ps rest bytes after p size so_far h = record {
  fit = fit_push rs h.read so_far.fit h.fits;
  are = so_far.are ∙ ap (λ (l : List ℕ). frames rs ++ l) h.are ∙ sym (frames_more rs h.read after);
  packets_are = each_push rs ps h.read p so_far.packets_are h.packet h.spells;
}

-- how long the frames are
pub lengths : (rs : List (List ℕ)) (ps : List Packet) (rest bytes : List ℕ) → AreRead rs ps rest bytes → length bytes ≡ length (frames rs) + length rest
lengths rs ps rest bytes so_far = ap length so_far.are ∙ length-append (frames rs) rest

-- what is left is shorter
pub shorter : (p : Packet) (size : ℕ) (after rest : List ℕ) (h : HasPacket p size after rest) → length rest ≡ length (frame h.read) + length after
shorter p size after rest h = ap length h.are ∙ length-append (frame h.read) after

-- behind the head
pub front_of : (head : HeadModel) (bytes behind rest : List ℕ) (rs : List (List ℕ)) (ps : List Packet) (place : ℕ) (tail : Tail) → HasHead head behind bytes → AreRead rs ps rest behind → IsEnd rest tail → place ≡ length bytes - length rest
    → IsFront head rs ps place tail bytes
front_of head bytes behind rest rs ps place tail has read ends at =
    let are : bytes ≡ magic ++ (frames (head_record head ∷ rs) ++ rest) =
    has.are ∙ ap (λ (l : List ℕ). magic ++ (frame (head_record head) ++ l)) read.are ∙ ap (λ (l : List ℕ). magic ++ l) (sym (append_assoc (frame (head_record head)) (frames rs) rest)) in
    let whole : List ℕ = magic ++ frames (head_record head ∷ rs) in
    let len : length bytes ≡ length whole + length rest = ap length (are ∙ sym (append_assoc magic (frames (head_record head ∷ rs)) rest)) ∙ length-append whole rest in
    record {
      rest = rest;
      valid = has.valid;
      fit = (has.fits, read.fit);
      are = are;
      packets_are = read.packets_are;
      at = at ∙ omega (arith, len);
      ends = ends;
    }

-- where the frames behind the head begin
pub begins_at : (head : HeadModel) (bytes behind : List ℕ) → HasHead head behind bytes → length bytes - length behind ≡ 8 + length (frame (head_record head))
begins_at head bytes behind has =
    let len : length bytes ≡ length (magic ++ (frame (head_record head) ++ behind)) = ap length has.are in
    let eight : length magic ≡ 8 = refl in
    omega (arith, len, eight, length-append magic (frame (head_record head) ++ behind), length-append (frame (head_record head)) behind)

pub behind_fits : (head : HeadModel) (bytes behind : List ℕ) → HasHead head behind bytes → length behind ≤ length bytes
behind_fits head bytes behind has =
    let len : length bytes ≡ length (magic ++ (frame (head_record head) ++ behind)) = ap length has.are in
    omega (arith, len, length-append magic (frame (head_record head) ++ behind), length-append (frame (head_record head)) behind)
