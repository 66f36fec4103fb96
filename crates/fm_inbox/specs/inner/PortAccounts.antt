-- The accounts of the ports of an inbox, and that they balance.
use Rattle.std.specs.Prelude.{◌≡◌, ℕ, ◌+◌, ◌<◌, List, []}
use mathlib.Core.Option.{some}
use lib.ListN.{get_elem?}
use Rattle.fm_delta.specs.declared.packet.Packet.{Packet}
use Rattle.fm_inbox.specs.declared.conservation.PortAccount.{PortAccount}
use Rattle.fm_inbox.specs.Conservation.{weigh}

abbrev pub account : ℕ → ℕ → List Packet → List Packet → PortAccount
account parts whole put taken = record { parts = parts; whole = whole; put = put; taken = taken }

abbrev pub parts_in_account : PortAccount → ℕ
parts_in_account v = v.parts

-- what was put, and taken, by weight
abbrev pub put_weight : (Packet → ℕ) → PortAccount → ℕ
put_weight h v = weigh h v.put

abbrev pub taken_of : (Packet → ℕ) → PortAccount → ℕ
taken_of h v = weigh h v.taken

-- a pass with no part has put and taken nothing, and one with a part knows how many there are
abbrev pub IsProper : ℕ → PortAccount → Type 0
IsProper n v = (v.parts ≡ 0 → (v.put ≡ []) × (v.taken ≡ [])) × (0 < v.parts → v.whole ≡ n)

-- all that was put is all that was taken and what is still there, and each pass is proper
abbrev pub IsBalanced : List Packet → List PortAccount → Type 0
IsBalanced items accounts =
    ((h : Packet → ℕ) → weigh (put_weight h) accounts ≡ weigh (taken_of h) accounts + weigh h items)
    × ((i : ℕ) (v : PortAccount) → get_elem? accounts i ≡ some v → IsProper (weigh parts_in_account accounts) v)
