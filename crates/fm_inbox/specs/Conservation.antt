-- The rule of an inbox: what was put is what was taken and what is still there (this project's profile).
use Rattle.std.specs.Prelude.{◌≡◌, ℕ, ◌+◌, List, [], ◌∷◌}
use Rattle.fm_delta.specs.declared.packet.Packet.{Packet}

-- the weights of the items, added up
abbrev pub weigh : {X : Type 0} → (X → ℕ) → List X → ℕ
weigh h [] = 0
weigh h (x ∷ xs) = h x + weigh h xs

-- two lists have each packet as often: however packets are weighed, both weigh the same
abbrev pub SamePackets : List Packet → List Packet → Type 0
SamePackets xs ys = (h : Packet → ℕ) → weigh h xs ≡ weigh h ys
