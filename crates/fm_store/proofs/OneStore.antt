-- Bytes have one store at most, and a crash leaves it with all that was on the disk.
use Rattle.std.proofs.Common.{◌≡◌, ℕ, zero, suc, ◌-◌, ◌≤◌, List, [], ◌∷◌, ◌++◌, length, get_or, take, drop, refl, sym, ap, ◌∙◌, subst, arith, append_assoc, length-append, inl, inr}
use Rattle.std.proofs.lemmas.List.{append-nil, drop_at, take-append-drop}
use Rattle.fm_delta.specs.declared.packet.Packet.{Packet}
use Rattle.fm_wire.specs.Grammar.{IsPacket, Spells, spelling_in}
use Rattle.fm_wire.proofs.PacketLaws.{begins}
use Rattle.fm_store.specs.Frames.{frames}
use Rattle.fm_store.specs.Tails.{AreRecords, IsReadAs}
use Rattle.fm_store.specs.Devices.{IsLeftByCrash}
use Rattle.fm_store.specs.Heads.{HeadModel, head_record}
use Rattle.fm_store.specs.Stores.{SpellEach, magic, IsStoreOf, HasStoreOf}
use Rattle.fm_store.specs.declared.frames.Tail.{Tail}
use Rattle.fm_store.specs.declared.frames.Tail.TheVariants.{Clean, Torn}
use Rattle.fm_store.proofs.Framing.{take_past}
use Rattle.fm_store.proofs.Reading.{reads_once, reads_front, reads_after, crash_is}
use Rattle.fm_store.proofs.HeadLaws.{head_same}

-- ---- packets by their records

one_packet : (r : List ℕ) (p q : Packet) → IsPacket p → IsPacket q → Spells r p → Spells r q → p ≡ q
one_packet r p q is_p is_q s t = (begins s.0 t.0 p q [] is_p is_q s.1 t.1 (append-nil (spelling_in s.0 p) ∙ sym s.2 ∙ t.2)).1

each_same : (rs : List (List ℕ)) (ps qs : List Packet) → SpellEach rs ps → SpellEach rs qs → ps ≡ qs
each_same [] [] [] a b = refl
each_same [] [] (q ∷ qs) a b = absurd b
each_same [] (p ∷ ps) qs a b = absurd a
each_same (r ∷ rs) [] qs a b = absurd a
each_same (r ∷ rs) (p ∷ ps) [] a b = absurd b
each_same (r ∷ rs) (p ∷ ps) (q ∷ qs) a b =
    let here = one_packet r p q a.0 b.0 a.1 b.1 in
    let rest = each_same rs ps qs a.2 b.2 in
    λ i. here i ∷ rest i

each_front : (rs more : List (List ℕ)) (ps all : List Packet) → SpellEach rs ps → SpellEach (rs ++ more) all → (ms : List Packet) × (all ≡ ps ++ ms) × SpellEach more ms
each_front [] more [] all a b = (all, refl, b)
each_front [] more (p ∷ ps) all a b = absurd a
each_front (r ∷ rs) more [] all a b = absurd a
each_front (r ∷ rs) more (p ∷ ps) [] a b = absurd b
each_front (r ∷ rs) more (p ∷ ps) (q ∷ all) a b =
    let here = one_packet r q p b.0 a.0 b.1 a.1 in
    let rest = each_front rs more ps all a.2 b.2 in
    (rest.0, (λ i. here i ∷ rest.1 i), rest.2)

each_take : (n : ℕ) (rs : List (List ℕ)) (ps : List Packet) → SpellEach rs ps → SpellEach (take n rs) (take n ps)
each_take zero rs ps a = tt
each_take (suc n) [] [] a = tt
each_take (suc n) [] (p ∷ ps) a = absurd a
each_take (suc n) (r ∷ rs) [] a = absurd a
each_take (suc n) (r ∷ rs) (p ∷ ps) a = (a.0, a.1, each_take n rs ps a.2)

-- ---- one store

pub behind : (xs : List ℕ) → drop 8 (magic ++ xs) ≡ xs
behind xs = drop_at magic xs 8 refl

-- how what is behind the magic bytes is read
reads_store : (h : HeadModel) (ps : List Packet) (m : ℕ) (bytes : List ℕ) (s : HasStoreOf h ps m bytes) → (t : Tail) × IsReadAs (drop 8 bytes) (head_record h ∷ s.records) t
reads_store h ps m bytes s =
    let rs = head_record h ∷ s.records in
    let is : drop 8 bytes ≡ frames rs ++ s.rest = ap (drop 8) s.are ∙ behind (frames rs ++ s.rest) in
    elim s.ends [
      | inl clean ↦ (Clean, subst (λ (l : List ℕ). IsReadAs l rs Clean) (sym is) (reads_after rs s.rest Clean s.fit clean))
      | inr torn ↦ (Torn, subst (λ (l : List ℕ). IsReadAs l rs Torn) (sym is) (reads_after rs s.rest Torn s.fit torn))
    ]

pub one_store : (h g : HeadModel) (ps qs : List Packet) (m n : ℕ) (bytes : List ℕ) → HasStoreOf h ps m bytes → HasStoreOf g qs n bytes → (h ≡ g) × (ps ≡ qs) × (m ≡ n)
one_store h g ps qs m n bytes s t =
    let a = reads_store h ps m bytes s in
    let b = reads_store g qs n bytes t in
    let same = (reads_once (drop 8 bytes) (head_record h ∷ s.records) (head_record g ∷ t.records) a.0 b.0 a.1 b.1).0 in
    let heads : head_record h ≡ head_record g = ap (λ (rs : List (List ℕ)). get_or rs 0 []) same in
    let records : s.records ≡ t.records = ap (drop 1) same in (
      head_same h g heads,
      each_same t.records ps qs (subst (λ (rs : List (List ℕ)). SpellEach rs ps) records s.packets_are) t.packets_are,
      s.size ∙ ap (λ (rs : List (List ℕ)). length (magic ++ frames rs)) same ∙ sym t.size,
    )

-- ---- after a crash

-- of two stores, of which one begins as the other, the records are those of the other and then more
more_records : (h : HeadModel) (ps all : List Packet) (old held : List ℕ) (a : IsStoreOf h ps old) (b : IsStoreOf h all held) → old ≡ take (length old) held
    → (more : List (List ℕ)) × (head_record h ∷ b.records ≡ (head_record h ∷ a.records) ++ more)
more_records h ps all old held a b begins_as =
    let rs = head_record h ∷ a.records in
    let ts = head_record h ∷ b.records in
    let x = drop (length old) held in
    let parts : held ≡ magic ++ (frames rs ++ x) =
    sym (take-append-drop (length old) held) ∙ ap (λ (l : List ℕ). l ++ x) (sym begins_as ∙ a.are) ∙ append_assoc magic (frames rs) x in
    let same : frames ts ≡ frames rs ++ x = sym (behind (frames ts)) ∙ ap (drop 8) (sym b.are ∙ parts) ∙ behind (frames rs ++ x) in
    let reads : IsReadAs (frames ts) ts Clean = subst (λ (l : List ℕ). IsReadAs l ts Clean) (append-nil (frames ts)) (reads_after ts [] Clean b.fit refl) in
    let front = reads_front rs ts x Clean a.fit (subst (λ (l : List ℕ). IsReadAs l ts Clean) same reads) in
    (front.0, front.1)

-- what a crash leaves behind the magic bytes
left_behind : (rs : List (List ℕ)) (held left : List ℕ) (kept : ℕ) → held ≡ magic ++ frames rs → 8 ≤ kept → IsLeftByCrash held kept left → IsLeftByCrash (frames rs) (kept - 8) (drop 8 left)
left_behind rs held left kept is enough may =
    let eight : length magic ≡ 8 = refl in
    let n = may.count - 8 in
    let front : take may.count held ≡ magic ++ take n (frames rs) = ap (take may.count) is ∙ take_past magic (frames rs) may.count n (omega (arith, eight, enough, may.enough)) in record {
      count = n;
      zeros = may.zeros;
      enough = omega (arith, enough, may.enough);
      are_zeros = may.are_zeros;
      is =
          ap (drop 8) (may.is ∙ ap (λ (l : List ℕ). l ++ may.zeros) front ∙ append_assoc magic (take n (frames rs)) may.zeros)
          ∙ behind (take n (frames rs) ++ may.zeros);
    }

pub restart : (h : HeadModel) (ps all qs : List Packet) (m kept : ℕ) (old held left : List ℕ) → IsStoreOf h ps old → length old ≤ kept → IsStoreOf h all held → old ≡ take (length old) held
    → IsLeftByCrash held kept left → HasStoreOf h qs m left → (more : List Packet) × (n : ℕ) × (all ≡ ps ++ more) × (qs ≡ ps ++ take n more)
restart h ps all qs m kept old held left a durable b begins_as may s =
    let rs = head_record h ∷ a.records in
    let ts = head_record h ∷ b.records in
    let more = more_records h ps all old held a b begins_as in
    let eight : length magic ≡ 8 = refl in
    let long : length old ≡ length (magic ++ frames rs) = ap length a.are in
    let size = length-append magic (frames rs) in
    let behind_is = left_behind ts held left kept b.are (omega (arith, eight, durable, long, size)) may in
    let read = reads_store h qs m left s in
    let crash = crash_is rs more.0 (head_record h ∷ s.records) (kept - 8) (drop 8 left) read.0
    (subst AreRecords more.1 b.fit) (omega (arith, eight, durable, long, size))
    (subst (λ (us : List (List ℕ)). IsLeftByCrash (frames us) (kept - 8) (drop 8 left)) more.1 behind_is) read.1 in
    let these : b.records ≡ a.records ++ more.0 = ap (drop 1) more.1 in
    let those : s.records ≡ a.records ++ take crash.0 more.0 = ap (drop 1) crash.1 in
    let here = each_front a.records more.0 ps all a.packets_are (subst (λ (us : List (List ℕ)). SpellEach us all) these b.packets_are) in
    let there = each_front a.records (take crash.0 more.0) ps qs a.packets_are (subst (λ (us : List (List ℕ)). SpellEach us qs) those s.packets_are) in
    let cut : there.0 ≡ take crash.0 here.0 = each_same (take crash.0 more.0) there.0 (take crash.0 here.0) there.2 (each_take crash.0 more.0 here.0 here.2) in
    (here.0, crash.0, here.1, there.1 ∙ ap (λ (ms : List Packet). ps ++ ms) cut)
