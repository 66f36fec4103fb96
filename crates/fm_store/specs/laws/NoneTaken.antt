-- Before the first packet.
use Rattle.std.specs.Prelude.{◌≡◌, List, [], ◌∷◌, map, refl}
use Rattle.std.proofs.Common.{ap}
use Rattle.std.proofs.lemmas.List.Elements.{All-nil}
use Rattle.fm_records.specs.Ranges.{CanBe}
use Rattle.fm_delta.specs.declared.packet.Packet.{Packet}
use Rattle.fm_store.specs.KnownPackets.{HasTaken, with_packets}
use Rattle.fm_store.specs.declared.known.Known.{Known}

same : (xs : List Known) → xs ≡ map (with_packets []) xs
same [] = refl
same (x ∷ xs) = ap (λ (ys : List Known). x ∷ ys) (same xs)

pub none_taken : (known : List Known) → HasTaken known [] known
none_taken known = (same known, All-nil (λ (p : Packet). CanBe p.value))
