-- What coordinators know by the packets of a store (this project's profile).
use Rattle.std.specs.Prelude.{◌≡◌, ◌==◌, ℕ, cond, List, [], ◌∷◌, map, All, Option, Some, None, unwrap_or}
use Rattle.std.specs.List.{flat_map, list_any}
use Rattle.fm_records.specs.Table.{Table}
use Rattle.fm_records.specs.Know.{table_of}
use Rattle.fm_records.specs.Ranges.{CanBe}
use Rattle.fm_delta.specs.declared.packet.Packet.{Packet}
use Rattle.fm_delta.specs.Deltas.{joined_from}
use Rattle.fm_store.specs.Stores.{values_of, recovered}
use Rattle.fm_store.specs.declared.known.Known.{Known}

-- all that a coordinator knew by its packets, as one packet of its own; none if it has no packets
abbrev pub known_packet : List Packet → ℕ → List Packet
known_packet packets n = cond (list_any (λ p. p.sender == n) packets) (record { sender = n; number = 0; value = recovered n packets } ∷ []) []

-- the same of each of these coordinators
abbrev pub known_packets : List ℕ → List Packet → List Packet
known_packets numbers packets = flat_map (known_packet packets) numbers

-- a coordinator of which nothing is known
abbrev pub unknown : ℕ → Known
unknown n = record { number = n; value = None }

-- what was known, if anything, with these joined in
abbrev pub with_values : Option Table → List Table → Option Table
with_values known [] = known
with_values known (k ∷ ks) = Some (joined_from (unwrap_or known (table_of [])) (k ∷ ks))

-- what is known of a coordinator with its packets among these
abbrev pub with_packets : List Packet → Known → Known
with_packets packets one = record { number = one.number; value = with_values one.value (values_of one.number packets) }

-- these packets were taken, each of which says what can be: what was known of each coordinator is known with its packets among them
abbrev pub HasTaken : List Known → List Packet → List Known → Type 0
HasTaken old packets new = (new ≡ map (with_packets packets) old) × All (λ p. CanBe p.value) packets

-- what is known of a coordinator, if anything, as a packet of its own
abbrev pub packet_with : ℕ → Option Table → List Packet
packet_with number None = []
packet_with number (Some k) = record { sender = number; number = 0; value = k } ∷ []

-- the same of each of these
abbrev pub packets_with : List Known → List Packet
packets_with = flat_map (λ one. packet_with one.number one.value)
