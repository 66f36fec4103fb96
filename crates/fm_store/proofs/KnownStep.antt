-- What is known of coordinators, from packet to packet.
use Rattle.std.proofs.Common.{◌≡◌, ℕ, ◌==◌, Bool, true, false, List, [], ◌∷◌, ◌++◌, map, refl, sym, ap, ◌∙◌, Option, Some, None, unwrap_or}
use Rattle.std.proofs.lemmas.List.{append-nil}
use Rattle.std.proofs.lemmas.List.Elements.{All-nil, All-cons, All-append}
use Rattle.fm_records.specs.Ranges.{CanBe}
use Rattle.fm_records.specs.Table.{Table}
use Rattle.fm_records.specs.Know.{table_of}
use Rattle.fm_records.specs.Joined.{table_join}
use Rattle.fm_delta.specs.declared.packet.Packet.{Packet}
use Rattle.fm_store.specs.Stores.{values_of}
use Rattle.fm_store.specs.KnownPackets.{HasTaken, with_values, known_packet, known_packets, packet_with, packets_with, unknown, with_packets}
use Rattle.fm_store.specs.inner.OnePacket.{with_packet}
use Rattle.fm_store.specs.declared.known.Known.{Known}
use Rattle.fm_store.proofs.Knowing.{joined_push, of_none, of_one, values_append}

-- ---- one packet more

onto_push : (o : Option Table) (ks : List Table) (k : Table) → with_values o (ks ++ k ∷ []) ≡ Some (table_join (unwrap_or (with_values o ks) (table_of [])) k)
onto_push o [] k = refl
onto_push o (j ∷ ks) k = ap (λ (t : Table). Some t) (joined_push (unwrap_or o (table_of [])) (j ∷ ks) k)

one_step : (one : Known) (ps : List Packet) (p : Packet) → with_packets (ps ++ p ∷ []) one ≡ with_packet p (with_packets ps one)
one_step one ps p = go (p.sender == one.number) refl
  where
    go : (b : Bool) → (p.sender == one.number) ≡ b → with_packets (ps ++ p ∷ []) one ≡ with_packet p (with_packets ps one)
    go true own =
        let more : values_of one.number (ps ++ p ∷ []) ≡ values_of one.number ps ++ p.value ∷ [] =
        values_append one.number ps p ∙ ap (λ (vs : List Table). values_of one.number ps ++ vs) (of_one (p.sender == one.number) p own) in
        let value = ap (with_values one.value) more ∙ onto_push one.value (values_of one.number ps) p.value in
        rw own (ap (λ (o : Option Table). record { number = one.number; value = o }) value)
    go false other =
        let same : values_of one.number (ps ++ p ∷ []) ≡ values_of one.number ps =
        values_append one.number ps p ∙ ap (λ (vs : List Table). values_of one.number ps ++ vs) (of_none (p.sender == one.number) p other) ∙ append-nil (values_of one.number ps) in
        rw other (ap (λ (vs : List Table). record { number = one.number; value = with_values one.value vs }) same)

all_step : (old : List Known) (ps : List Packet) (p : Packet) → map (with_packets (ps ++ p ∷ [])) old ≡ map (with_packet p) (map (with_packets ps) old)
all_step [] ps p = refl
all_step (one ∷ old) ps p = λ i. one_step one ps p i ∷ all_step old ps p i

pub one_taken : (old known new : List Known) (ps : List Packet) (p : Packet) → HasTaken old ps known → CanBe p.value → new ≡ map (with_packet p) known → HasTaken old (ps ++ p ∷ []) new
one_taken old known new ps p so_far can is =
    let all = All-cons (λ (q : Packet). CanBe q.value) p [] can (All-nil (λ (q : Packet). CanBe q.value)) in
    (is ∙ ap (map (with_packet p)) so_far.0 ∙ sym (all_step old ps p), All-append (λ (q : Packet). CanBe q.value) ps (p ∷ []) so_far.1 all)

-- ---- all of them

packet_is : (n : ℕ) (ps : List Packet) → packet_with n (with_values None (values_of n ps)) ≡ known_packet ps n
packet_is n [] = refl
packet_is n (p ∷ ps) = go (p.sender == n) refl (packet_is n ps)
  where
    go : (b : Bool) → (p.sender == n) ≡ b → packet_with n (with_values None (values_of n ps)) ≡ known_packet ps n → packet_with n (with_values None (values_of n (p ∷ ps))) ≡ known_packet (p ∷ ps) n
    go true own others = rw own refl
    go false other others = rw other others

packets_are : (ns : List ℕ) (ps : List Packet) → packets_with (map (with_packets ps) (map unknown ns)) ≡ known_packets ns ps
packets_are [] ps = refl
packets_are (n ∷ ns) ps = λ i. packet_is n ps i ++ packets_are ns ps i

pub packets_known : (ns : List ℕ) (ps : List Packet) (known : List Known) → HasTaken (map unknown ns) ps known → packets_with known ≡ known_packets ns ps
packets_known ns ps known has = ap packets_with has.0 ∙ packets_are ns ps
