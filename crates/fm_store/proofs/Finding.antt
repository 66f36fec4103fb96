-- The bytes of a store are not taken for unfinished, for damaged, or for those of another head.
use Rattle.std.proofs.Common.{◌≡◌, ◌⊎◌, ℕ, ◌<◌, ◌^◌, List, [], ◌∷◌, ◌++◌, length, drop, None, refl, sym, ap, ◌∙◌, subst, arith, append_assoc, length-append, inl, inr}
use Rattle.fm_delta.specs.declared.packet.Packet.{Packet}
use Rattle.fm_wire.specs.Grammar.{IsPacket, Spells, fault}
use Rattle.fm_wire.proofs.PacketLaws.{none_where_spelled}
use Rattle.fm_store.specs.Frames.{frame, frames}
use Rattle.fm_store.specs.Tails.{IsReadAs}
use Rattle.fm_store.specs.Heads.{HeadModel, head_record}
use Rattle.fm_store.specs.Stores.{SpellEach, magic, HasStoreOf, IsUnfinished, HasOtherHead, IsDamagedBehind, IsDamagedAt, IsCauseOf}
use Rattle.fm_store.specs.declared.frames.Tail.{Tail}
use Rattle.fm_store.specs.declared.frames.Tail.TheVariants.{Clean, Torn, Damaged}
use Rattle.fm_store.specs.declared.store_fault.StoreFault.{StoreFault}
use Rattle.fm_store.specs.declared.store_fault.StoreFault.TheVariants as faults
use Rattle.fm_store.proofs.Framing.{frame_same, framed_not_zeros}
use Rattle.fm_store.proofs.Reading.{not_tail, not_damaged, reads_after, reads_front}
use Rattle.fm_store.proofs.OneStore.{behind}

-- the bytes begin with the frame of the head
head_first : (h : HeadModel) (ps : List Packet) (n : ℕ) (bytes : List ℕ) (s : HasStoreOf h ps n bytes) → bytes ≡ magic ++ (frame (head_record h) ++ (frames s.records ++ s.rest))
head_first h ps n bytes s = s.are ∙ ap (λ (l : List ℕ). magic ++ l) (append_assoc (frame (head_record h)) (frames s.records) s.rest)

-- what is behind the magic bytes is one list
same_behind : (bytes xs ys : List ℕ) → bytes ≡ magic ++ xs → bytes ≡ magic ++ ys → xs ≡ ys
same_behind bytes xs ys p q = sym (behind xs) ∙ ap (drop 8) (sym p ∙ q) ∙ behind ys

pub finished : (h : HeadModel) (ps : List Packet) (n : ℕ) (bytes : List ℕ) → HasStoreOf h ps n bytes → IsUnfinished bytes → ⊥
finished h ps n bytes s (inl torn) =
    let len : length magic ≡ length (torn.0 ++ torn.1) = ap length torn.3 in
    framed_not_zeros magic (head_record h) (frames s.records ++ s.rest) torn.0 torn.2 torn.5 (omega (arith, len, length-append torn.0 torn.1)) (sym (head_first h ps n bytes s) ∙ torn.4)
finished h ps n bytes s (inr left) =
    let more = frames s.records ++ s.rest in
    let is : left.0 ≡ frame (head_record h) ++ more = same_behind bytes left.0 (frame (head_record h) ++ more) left.1 (head_first h ps n bytes s) in
    elim left.2 [
      | inl clean ↦ not_tail left.0 (head_record h) more Clean s.fit.0 is clean
      | inr torn ↦ not_tail left.0 (head_record h) more Torn s.fit.0 is torn
    ]

no_other : (h : HeadModel) (ps : List Packet) (n : ℕ) (bytes : List ℕ) → HasStoreOf h ps n bytes → HasOtherHead h bytes → ⊥
no_other h ps n bytes s other =
    let more = frames s.records ++ s.rest in
    let is = same_behind bytes (frame other.0 ++ other.1) (frame (head_record h) ++ more) other.3 (head_first h ps n bytes s) in
    other.4 (frame_same other.0 (head_record h) other.1 more other.2 s.fit.0 is).0

-- ---- damage

-- how what is behind the magic bytes is read
reads_whole : (h : HeadModel) (ps : List Packet) (n : ℕ) (bytes : List ℕ) (s : HasStoreOf h ps n bytes) → IsReadAs (drop 8 bytes) (head_record h ∷ s.records) Clean ⊎ IsReadAs (drop 8 bytes) (head_record h ∷ s.records) Torn
reads_whole h ps n bytes s =
    let rs = head_record h ∷ s.records in
    let is : drop 8 bytes ≡ frames rs ++ s.rest = ap (drop 8) s.are ∙ behind (frames rs ++ s.rest) in
    elim s.ends [
      | inl clean ↦ inl (subst (λ (l : List ℕ). IsReadAs l rs Clean) (sym is) (reads_after rs s.rest Clean s.fit clean))
      | inr torn ↦ inr (subst (λ (l : List ℕ). IsReadAs l rs Torn) (sym is) (reads_after rs s.rest Torn s.fit torn))
    ]

each_middle : (xs : List (List ℕ)) (r : List ℕ) (ys : List (List ℕ)) (ps : List Packet) → SpellEach (xs ++ r ∷ ys) ps → (p : Packet) × IsPacket p × Spells r p
each_middle [] r ys [] each = absurd each
each_middle [] r ys (p ∷ ps) each = (p, each.0, each.1)
each_middle (x ∷ xs) r ys [] each = absurd each
each_middle (x ∷ xs) r ys (p ∷ ps) each = each_middle xs r ys ps each.2

-- a frame at the front is read first
reads_first : (rest r after : List ℕ) (more : List (List ℕ)) (t : Tail) → length r < 2 ^ 64 → rest ≡ frame r ++ after → IsReadAs rest more t → (others : List (List ℕ)) × (more ≡ r ∷ others)
reads_first rest r after [] t fits is reads = absurd (not_tail rest r after t fits is reads)
reads_first rest r after (s ∷ ss) t fits is reads =
    let same = (frame_same s r reads.0 after reads.1 fits (sym reads.2 ∙ is)).0 in
    (ss, λ i. same i ∷ ss)

-- a record of a store is a packet
packet_at : (h : HeadModel) (ps : List Packet) (n place : ℕ) (bytes r after : List ℕ) (t : Tail) (s : HasStoreOf h ps n bytes) (d : IsDamagedBehind h place bytes) → IsReadAs (drop 8 bytes) (head_record h ∷ s.records) t
    → length r < 2 ^ 64 → d.rest ≡ frame r ++ after → fault r ≡ None
packet_at h ps n place bytes r after t s d reads fits is =
    let rs = head_record h ∷ s.records in
    let ds = head_record h ∷ d.records in
    let same : drop 8 bytes ≡ frames ds ++ d.rest = ap (drop 8) d.are ∙ behind (frames ds ++ d.rest) in
    let front = reads_front ds rs d.rest t d.fit (subst (λ (l : List ℕ). IsReadAs l rs t) same reads) in
    let first = reads_first d.rest r after front.0 t fits is front.2 in
    let all : rs ≡ ds ++ r ∷ first.0 = front.1 ∙ ap (λ (us : List (List ℕ)). ds ++ us) first.1 in
    let records : s.records ≡ d.records ++ r ∷ first.0 = ap (drop 1) all in
    none_where_spelled r (each_middle d.records r first.0 ps (subst (λ (us : List (List ℕ)). SpellEach us ps) records s.packets_are))

no_damage : (h : HeadModel) (ps : List Packet) (n place : ℕ) (bytes : List ℕ) → HasStoreOf h ps n bytes → IsDamagedAt h place bytes → ⊥
no_damage h ps n place bytes s (inl none) = none.1.1 (frame (head_record h) ++ (frames s.records ++ s.rest)) (head_first h ps n bytes s)
no_damage h ps n place bytes s (inr (inl head)) =
    let more = frames s.records ++ s.rest in
    let is = same_behind bytes head.1.0 (frame (head_record h) ++ more) head.1.1 (head_first h ps n bytes s) in
    not_tail head.1.0 (head_record h) more Damaged s.fit.0 is head.1.2
no_damage h ps n place bytes s (inr (inr d)) =
    let ds = head_record h ∷ d.records in
    let same : drop 8 bytes ≡ frames ds ++ d.rest = ap (drop 8) d.are ∙ behind (frames ds ++ d.rest) in
    let both = reads_whole h ps n bytes s in
    elim d.cause [
      | inl damaged ↦ (not_damaged (drop 8 bytes) (head_record h ∷ s.records) ds Damaged both (subst (λ (l : List ℕ). IsReadAs l ds Damaged) (sym same) (reads_after ds d.rest Damaged d.fit damaged))).1 refl
      | inr bad ↦ bad.4 (elim both [
        | inl clean ↦ packet_at h ps n place bytes bad.0 bad.1 Clean s d clean bad.2 bad.3
        | inr torn ↦ packet_at h ps n place bytes bad.0 bad.1 Torn s d torn bad.2 bad.3
      ])
    ]

pub no_fault : (h : HeadModel) (ps : List Packet) (n : ℕ) (bytes : List ℕ) (e : StoreFault) → HasStoreOf h ps n bytes → IsCauseOf h e bytes → e ≡ faults.OutOfMemory
no_fault h ps n bytes faults.OutOfMemory s cause = refl
no_fault h ps n bytes (faults.Device d) s cause = absurd cause
no_fault h ps n bytes (faults.Damaged place) s cause = absurd (no_damage h ps n place bytes s cause)
no_fault h ps n bytes faults.OtherCluster s cause = absurd (no_other h ps n bytes s cause)
