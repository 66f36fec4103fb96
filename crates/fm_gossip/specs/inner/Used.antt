-- The ports through which the members of a fleet pass packets on (this project's profile).
use Rattle.std.specs.Prelude.{◌≡◌, ℕ, ◌+◌, ◌==◌, Bool, true, false, cond, List, [], ◌∷◌}
use Rattle.fm_delta.specs.declared.packet.Packet.{Packet}
use Rattle.fm_inbox.specs.Ports.{InboxModel, PortModel, after_put, after_take}
use Rattle.fm_gossip.specs.Passing.{Passed}

-- a port through which nothing was put or taken
abbrev pub new_port : InboxModel → PortModel
new_port b = record { inbox = b.id; ports = b.ports; put = []; taken = [] }

-- a member's port when it ended: from its own inbox it took what it got, and into another it put what it sent
abbrev pub used_port : Bool → Passed → InboxModel → PortModel
used_port true m b = record { inbox = b.id; ports = b.ports; put = []; taken = m.got }
used_port false m b = record { inbox = b.id; ports = b.ports; put = m.sent; taken = [] }

-- its ports of these inboxes, of which the first is at the place `at`, and its own at the place `own`
abbrev pub used_ports : ℕ → ℕ → Passed → List InboxModel → List PortModel
used_ports own at m [] = []
used_ports own at m (b ∷ bs) = used_port (at == own) m b ∷ used_ports own (at + 1) m bs

-- the ports once the packet was put through all but the one at the place `own`; the first is at the place `at`
abbrev pub put_past : ℕ → ℕ → Packet → List PortModel → List PortModel
put_past own at p [] = []
put_past own at p (q ∷ qs) = cond (at == own) q (after_put q p) ∷ put_past own (at + 1) p qs

-- the port once these packets were taken through it
abbrev pub after_takes : PortModel → List Packet → PortModel
after_takes q [] = q
after_takes q (p ∷ ps) = after_takes (after_take q p) ps

-- the members' ports of these inboxes; the first member is at the place `at`
abbrev pub AreUsed : ℕ → List InboxModel → List Passed → List (List PortModel) → Type 0
AreUsed at bs [] [] = Unit {0}
AreUsed at bs (m ∷ ms) (qs ∷ qss) = (qs ≡ used_ports at 0 m bs) × AreUsed (at + 1) bs ms qss
AreUsed at bs [] (qs ∷ qss) = ⊥
AreUsed at bs (m ∷ ms) [] = ⊥

-- the members' ports of the inbox at the place `own`
abbrev pub column : ℕ → ℕ → InboxModel → List Passed → List PortModel
column own at b [] = []
column own at b (m ∷ ms) = used_port (own == at) m b ∷ column own (at + 1) b ms
