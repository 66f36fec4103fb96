-- The pieces of packets are those of their halves.
use Rattle.std.proofs.Common.{◌≡◌, ℕ, ◌<◌, ◌≤◌, List, [], ◌∷◌, ◌++◌, map, refl, sym, ap, subst, ◌∙◌, append_assoc, arith}
use Rattle.std.specs.List.{AllByRecursion}
use Rattle.std.proofs.lemmas.List.{append-nil, map-append}
use Rattle.fm_records.specs.Table.{Table}
use Rattle.fm_records.specs.Ranges.{CanBe}
use Rattle.fm_delta.specs.declared.packet.Packet.{Packet}
use Rattle.fm_delta.specs.Deltas.{joined_all}
use Rattle.fm_delta.specs.inner.JoinedDeltas.{AllCanBe, IsJoinOf}
use Rattle.fm_delta.proofs.GroupLaws.{join_one, join_parts}
use Rattle.fm_wire.specs.Grammar.{packet_size}
use Rattle.fm_store.specs.Pieces.{IsPiece, ArePieces, ArePiecesOfEach}
use Rattle.fm_store.specs.inner.Halves.{behind_each_other}
use Rattle.fm_store.proofs.Halving.{joined_halves}

abbrev values : List Packet → List Table
values = map (λ (q : Packet). q.value)

-- a packet that fits
pub one_piece : (most : ℕ) (p : Packet) → CanBe p.value → packet_size p ≤ most → ArePieces most p (p ∷ [])
one_piece most p can fits = record {
  each = (record { sender = refl; number = refl; can_be = can; fits = fits }, tt);
  together = sym (join_one p.value can).value;
  whole = λ _. refl;
}

-- ---- one that does not

all_can_be : (most : ℕ) (p : Packet) (qs : List Packet) → AllByRecursion (IsPiece most p) qs → AllCanBe (values qs)
all_can_be most p [] h = tt
all_can_be most p (q ∷ qs) h = (h.0.can_be, all_can_be most p qs h.1)

join_of : (most : ℕ) (p : Packet) (qs : List Packet) → ArePieces most p qs → IsJoinOf p.value (values qs)
join_of most p qs h = record { can_be = all_can_be most p qs h.each; value = sym h.together }

-- pieces of a half are pieces of the whole
passed_on : (most : ℕ) (p half : Packet) (qs : List Packet) → half.sender ≡ p.sender → half.number ≡ p.number → AllByRecursion (IsPiece most half) qs → AllByRecursion (IsPiece most p) qs
passed_on most p half [] same_sender same_number h = tt
passed_on most p half (q ∷ qs) same_sender same_number h = (
  record { sender = h.0.sender ∙ same_sender; number = h.0.number ∙ same_number; can_be = h.0.can_be; fits = h.0.fits },
  passed_on most p half qs same_sender same_number h.1,
)

all_both : (P : Packet → Type 0) (xs ys : List Packet) → AllByRecursion P xs → AllByRecursion P ys → AllByRecursion P (xs ++ ys)
all_both P [] ys p q = q
all_both P (x ∷ xs) ys p q = (p.0, all_both P xs ys p.1 q)

pub pieces_of_halves : (most : ℕ) (p : Packet) (front behind : Table) (qs rs : List Packet) → CanBe p.value → most < packet_size p → behind_each_other front behind ≡ p.value
    → ArePieces most (record { sender = p.sender; number = p.number; value = front }) qs → ArePieces most (record { sender = p.sender; number = p.number; value = behind }) rs
    → ArePieces most p (qs ++ rs)
pieces_of_halves most p front behind qs rs can long halves a b =
    let first : Packet = record { sender = p.sender; number = p.number; value = front } in
    let second : Packet = record { sender = p.sender; number = p.number; value = behind } in
    let whole = subst (λ (k : Table). CanBe k) (sym halves) can in
    let joined = join_parts front behind (values qs) (values rs) (join_of most first qs a) (join_of most second rs b) in
    record {
      each = all_both (IsPiece most p) qs rs (passed_on most p first qs refl refl a.each) (passed_on most p second rs refl refl b.each);
      together = ap joined_all (map-append (λ (q : Packet). q.value) qs rs) ∙ sym joined.value ∙ joined_halves front behind whole.table ∙ halves;
      whole = λ fits. absurd (omega (arith, long, fits));
    }

-- ---- packet by packet

pub none_each : (most : ℕ) → ArePiecesOfEach most [] []
none_each most = refl

pub one_more : (most : ℕ) (ps : List Packet) (p : Packet) (qs own : List Packet) → ArePiecesOfEach most ps qs → ArePieces most p own → ArePiecesOfEach most (ps ++ p ∷ []) (qs ++ own)
one_more most [] p qs own so_far h = (own, [], h, refl, ap (λ (xs : List Packet). xs ++ own) so_far ∙ sym (append-nil own))
one_more most (x ∷ xs) p qs own so_far h =
    (so_far.0, so_far.1 ++ own, so_far.2, one_more most xs p so_far.1 own so_far.3 h, ap (λ (ys : List Packet). ys ++ own) so_far.4 ∙ append_assoc so_far.0 so_far.1 own)

-- the pieces of the packets before those that are left
pub record SoFar (most : ℕ) (all rest pieces : List Packet) : Type 0 where
  pub done : List Packet
  pub are : all ≡ done ++ rest
  pub pieces_are : ArePiecesOfEach most done pieces

pub at_first : (most : ℕ) (all rest pieces : List Packet) → rest ≡ all → pieces ≡ [] → SoFar most all rest pieces
at_first most all rest pieces is none = record { done = []; are = sym is; pieces_are = none }

pub with_next : (most : ℕ) (all rest left pieces new own : List Packet) (p : Packet) → SoFar most all rest pieces → rest ≡ p ∷ left → ArePieces most p own → new ≡ pieces ++ own → SoFar most all left new
with_next most all rest left pieces new own p so_far next h is = record {
  done = so_far.done ++ p ∷ [];
  are = so_far.are ∙ ap (λ (xs : List Packet). so_far.done ++ xs) next ∙ sym (append_assoc so_far.done (p ∷ []) left);
  pieces_are = subst (λ (xs : List Packet). ArePiecesOfEach most (so_far.done ++ p ∷ []) xs) (sym is) (one_more most so_far.done p pieces own so_far.pieces_are h);
}

pub at_last : (most : ℕ) (all rest pieces : List Packet) → SoFar most all rest pieces → rest ≡ [] → ArePiecesOfEach most all pieces
at_last most all rest pieces so_far none =
    let all_done : all ≡ so_far.done = so_far.are ∙ ap (λ (xs : List Packet). so_far.done ++ xs) none ∙ append-nil so_far.done in
    subst (λ (xs : List Packet). ArePiecesOfEach most xs pieces) (sym all_done) so_far.pieces_are
