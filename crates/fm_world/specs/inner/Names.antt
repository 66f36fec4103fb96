-- Packets by their names: sender and number.
use Rattle.std.specs.Prelude.{◌≡◌, ◌≤◌, ℕ, List, [], ◌∷◌, length, take, Option, Some, None}
use Rattle.std.specs.Ordering.{nat_cmp, ordering_then}
use Rattle.std.specs.declared.cmp.Ordering.{Ordering}
use Rattle.std.specs.Map.{lookup}
use Rattle.std.specs.BTreeMap.{is_at}
use Rattle.fm_delta.specs.declared.packet.Packet.{Packet}

abbrev pub name_of : Packet → ℕ × ℕ
name_of p = (p.sender, p.number)

abbrev pub name_cmp : ℕ × ℕ → ℕ × ℕ → Ordering
name_cmp a b = ordering_then (nat_cmp a.0 b.0) (nat_cmp a.1 b.1)

-- none of the packets has the name
abbrev pub AreOthers : ℕ × ℕ → List Packet → Type 0
AreOthers name [] = Unit {0}
AreOthers name (p ∷ ps) = (name_of p ≡ name → ⊥) × AreOthers name ps

-- no packet before the place has the name; if there is no place, none at all
abbrev pub StartsAt : List Packet → ℕ × ℕ → Option ℕ → Type 0
StartsAt ps name None = AreOthers name ps
StartsAt ps name (Some place) = (place ≤ length ps) × AreOthers name (take place ps)

-- so it is for each name
abbrev pub AreNamed : List ((ℕ × ℕ) × ℕ) → List Packet → Type 0
AreNamed starts ps = (name : ℕ × ℕ) → StartsAt ps name (lookup (is_at (name_cmp name)) starts)
