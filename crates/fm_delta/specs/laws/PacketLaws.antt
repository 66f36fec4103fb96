-- The test of packets for equality is exact.
use Rattle.std.specs.Prelude.{◌≡◌, Bool, true, ◌==◌, ◌&&◌}
use Rattle.std.specs.Bool.{Decides}
use Rattle.std.specs.Cmp.{IsPartialEquivalence}
use Rattle.std.proofs.Common.{ap, eq-eqb}
use Rattle.std.proofs.lemmas.Bool.{eqb-true}
use Rattle.fm_records.proofs.LookupLaws.{both_true}
use Rattle.fm_records.specs.laws.RecordEqualityLaws.{equivalence}
use Rattle.fm_know.specs.KnowledgeEquality.{same_table}
use Rattle.fm_know.specs.laws.KnowledgeEqualityLaws.{table_Decides}
use Rattle.fm_delta.specs.declared.packet.Packet.{Packet}
use Rattle.fm_delta.specs.Packets.{same_packet}

all_three : (a b c : Bool) → a ≡ true → b ≡ true → c ≡ true → (a && b) && c ≡ true
all_three a b c p q r = (λ i. (p i && q i) && r i)

pub packet_Decides : (p q : Packet) → Decides (same_packet p q) (p ≡ q)
packet_Decides p q = (
  λ h.
      let parts = both_true (p.sender == q.sender && p.number == q.number) (same_table p.value q.value) h in
      let front = both_true (p.sender == q.sender) (p.number == q.number) parts.0 in
      let sender = eqb-true p.sender q.sender front.0 in
      let number = eqb-true p.number q.number front.1 in
      let value = (table_Decides p.value q.value).0 parts.1 in
      λ i. record { sender = sender i; number = number i; value = value i },
  λ e. all_three _ _ _ (eq-eqb p.sender q.sender (ap (λ z. z.sender) e)) (eq-eqb p.number q.number (ap (λ z. z.number) e)) ((table_Decides p.value q.value).1 (ap (λ z. z.value) e)),
)

pub packet_equivalence : IsPartialEquivalence same_packet
packet_equivalence = equivalence same_packet packet_Decides
