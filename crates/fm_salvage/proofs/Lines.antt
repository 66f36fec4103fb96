-- The lines of packets, one by one.
use Rattle.std.proofs.Common.{◌≡◌, ℕ, ◌+◌, ◌-◌, ◌≤◌, List, [], ◌∷◌, ◌++◌, length, refl, sym, ap, ◌∙◌, arith, append_assoc, length-append, inl, Option, Result, Ok, Err}
use Rattle.std.specs.Prelude.{IfOk}
use Rattle.std.proofs.lemmas.List.{append-nil}
use Rattle.fm_delta.specs.declared.packet.Packet.{Packet}
use Rattle.fm_store.specs.Frames.{frame, frames}
use Rattle.fm_store.specs.Stores.{SpellEach}
use Rattle.fm_store.specs.Heads.{HeadModel}
use Rattle.fm_store.specs.declared.frames.Tail.{Tail}
use Rattle.fm_salvage.specs.StoreFronts.{IsEnd, damage_of}
use Rattle.fm_salvage.specs.inner.FrameReading.{AreRead, HasHead, HasPacket}
use Rattle.fm_records.specs.declared.refusal.Refusal.{Refusal}
use Rattle.fm_salvage.specs.declared.salvaged.Salvaged.{Salvaged}
use Rattle.fm_salvage.specs.ListingText.{IsFrontListed, IsStoreListed, first_place, head_line, record_line, lines_of_records, end_line}
use Rattle.fm_salvage.specs.inner.RecordLines.{IsRestListed}
use Rattle.fm_salvage.proofs.Fronting.{none_read, one_read, lengths, front_of, begins_at}

-- so far these records were read of the bytes, and their lines added to the old text
pub record SoFar (total : ℕ) (bytes rest old text : List ℕ) : Type 0 where
  pub records : List (List ℕ)
  pub packets : List Packet
  pub read : AreRead records packets rest bytes
  pub text_is : text ≡ old ++ lines_of_records (total - length bytes) records packets

pub none_listed : (total : ℕ) (bytes old : List ℕ) → SoFar total bytes bytes old old
none_listed total bytes old = record { records = []; packets = []; read = none_read bytes; text_is = sym (append-nil old) }

one_line_more : (place : ℕ) (rs : List (List ℕ)) (ps : List Packet) (r : List ℕ) (p : Packet) → SpellEach rs ps
    → lines_of_records place (rs ++ r ∷ []) (ps ++ p ∷ []) ≡ lines_of_records place rs ps ++ record_line (place + length (frames rs)) (length r) p
one_line_more place [] [] r p each =
    append-nil (record_line place (length r) p) ∙ ap (λ (n : ℕ). record_line n (length r) p) (omega arith)
one_line_more place [] (q ∷ ps) r p each = absurd each
one_line_more place (s ∷ rs) [] r p each = absurd each
one_line_more place (s ∷ rs) (q ∷ ps) r p each =
    let later = one_line_more (place + length (frame s)) rs ps r p each.2 in
    let at : (place + length (frame s)) + length (frames rs) ≡ place + length (frames (s ∷ rs)) = omega (arith, length-append (frame s) (frames rs)) in
    let line = record_line place (length s) q in
    ap (λ (l : List ℕ). line ++ l) (later ∙ ap (λ (n : ℕ). lines_of_records (place + length (frame s)) rs ps ++ record_line n (length r) p) at)
    ∙ sym (append_assoc line (lines_of_records (place + length (frame s)) rs ps) (record_line (place + length (frames (s ∷ rs))) (length r) p))

pub one_listed : (total : ℕ) (bytes rest old text after new : List ℕ) (p : Packet) (size : ℕ) → length bytes ≤ total → SoFar total bytes rest old text → HasPacket p size after rest
    → new ≡ text ++ record_line (total - length rest) size p → SoFar total bytes after old new
one_listed total bytes rest old text after new p size fits so_far h is =
    let rs = so_far.records in
    let ps = so_far.packets in
    let first : ℕ = total - length bytes in
    let place : total - length rest ≡ first + length (frames rs) = omega (arith, lengths rs ps rest bytes so_far.read, fits) in
    let line : record_line (total - length rest) size p ≡ record_line (first + length (frames rs)) (length h.read) p =
    ap (λ (n : ℕ). record_line n size p) place ∙ ap (λ (n : ℕ). record_line (first + length (frames rs)) n p) h.size_is in
    record {
      records = rs ++ h.read ∷ [];
      packets = ps ++ p ∷ [];
      read = one_read rs ps rest bytes after p size so_far.read h;
      text_is =
          is ∙ ap (λ (l : List ℕ). l ++ record_line (total - length rest) size p) so_far.text_is
          ∙ append_assoc old (lines_of_records first rs ps) (record_line (total - length rest) size p)
          ∙ ap (λ (l : List ℕ). old ++ l) (ap (λ (l : List ℕ). lines_of_records first rs ps ++ l) line ∙ sym (one_line_more first rs ps h.read p so_far.read.packets_are));
    }

pub all_listed : (total : ℕ) (bytes rest old text new : List ℕ) (tail : Tail) (damage : Option ℕ) → SoFar total bytes rest old text → IsEnd rest tail → new ≡ text ++ end_line tail (total - length rest)
    → damage ≡ damage_of tail (total - length rest) → IsRestListed total bytes old new damage
all_listed total bytes rest old text new tail damage so_far ends is told =
    let lines = lines_of_records (total - length bytes) so_far.records so_far.packets in
    record {
      records = so_far.records;
      packets = so_far.packets;
      rest = rest;
      tail = tail;
      read = so_far.read;
      ends = ends;
      text_is = is ∙ ap (λ (l : List ℕ). l ++ end_line tail (total - length rest)) so_far.text_is ∙ append_assoc old lines (end_line tail (total - length rest));
      damage_is = told;
    }

pub front_listed : (head : HeadModel) (bytes behind old text : List ℕ) (damage : Option ℕ) → HasHead head behind bytes → old ≡ head_line head → IsRestListed (length bytes) behind old text damage → IsFrontListed bytes text damage
front_listed head bytes behind old text damage has begun rest =
    let place : ℕ = length bytes - length rest.rest in
    let first : length bytes - length behind ≡ first_place head = begins_at head bytes behind has in
    record {
      head = head;
      records = rest.records;
      packets = rest.packets;
      place = place;
      tail = rest.tail;
      front = front_of head bytes behind rest.rest rest.records rest.packets place rest.tail has rest.read rest.ends refl;
      text_is =
          rest.text_is ∙ ap (λ (l : List ℕ). l ++ (lines_of_records (length bytes - length behind) rest.records rest.packets ++ end_line rest.tail place)) begun
          ∙ ap (λ (n : ℕ). head_line head ++ (lines_of_records n rest.records rest.packets ++ end_line rest.tail place)) first;
      damage_is = rest.damage_is;
    }

-- ---- what is returned

pub ended_listed : (total : ℕ) (bytes rest old text : List ℕ) (tail : Tail) (place : ℕ) (r : Result Salvaged Refusal) → SoFar total bytes rest old text → (place ≡ total - length rest) × IsEnd rest tail
    → IfOk r (λ s. s.text.items ≡ text ++ end_line tail place) → IfOk r (λ s. s.damage ≡ damage_of tail place) → IfOk r (λ s. IsRestListed total bytes old s.text.items s.damage)
ended_listed total bytes rest old text tail place (Err e) so_far end is told = tt
ended_listed total bytes rest old text tail place (Ok s) so_far end is told =
    all_listed total bytes rest old text s.text.items tail s.damage so_far end.1 (is ∙ ap (λ (n : ℕ). text ++ end_line tail n) end.0) (told ∙ ap (damage_of tail) end.0)

pub file_listed : (head : HeadModel) (bytes behind old : List ℕ) (r : Result Salvaged Refusal) → HasHead head behind bytes → old ≡ head_line head
    → IfOk r (λ s. IsRestListed (length bytes) behind old s.text.items s.damage) → IfOk r (λ s. IsStoreListed bytes s.text.items s.damage)
file_listed head bytes behind old (Err e) has begun listed = tt
file_listed head bytes behind old (Ok s) has begun listed = inl (front_listed head bytes behind old s.text.items s.damage has begun listed)
