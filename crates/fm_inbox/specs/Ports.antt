-- What contracts see of an inbox and of its ports (this project's profile).
use Rattle.std.specs.Prelude.{◌≡◌, ℕ, ◌+◌, ◌-◌, List, [], ◌∷◌, ◌++◌, length}
use Rattle.crossbeam_queue.specs.Passes.{Pass, view}
use Rattle.atomic_table.specs.Seated.{TableId}
use Rattle.fm_delta.specs.declared.packet.Packet.{Packet}
use Rattle.fm_inbox.specs.declared.conservation.PortAccount.{PortAccount}

-- which inbox it is, how many ports it has, and how many packets it takes
pub record InboxModel : Type 0 where
  pub id : TableId
  pub ports : ℕ
  pub size : ℕ

-- a port's inbox, how many ports that has, and what was put and taken through this one, in order
pub record PortModel : Type 0 where
  pub inbox : TableId
  pub ports : ℕ
  pub put : List Packet
  pub taken : List Packet

-- an inbox with its ports: how many of them are out
pub record PortPoolModel : Type 0 where
  pub inbox : InboxModel
  pub out : ℕ

abbrev pub seen_inbox : TableId → ℕ → ℕ → InboxModel
seen_inbox id ports size = record { id = id; ports = ports; size = size }

-- all ports are out but for so many
abbrev pub seen_pool : InboxModel → ℕ → PortPoolModel
seen_pool b closed = record { inbox = b; out = b.ports - closed }

abbrev pub seen_port : TableId → PortAccount → PortModel
seen_port id v = record { inbox = id; ports = v.whole; put = v.put; taken = v.taken }

-- what a pass stands for
abbrev pub account_of : Pass Packet PortAccount → PortAccount
account_of p = view p

-- it is a port of this inbox
abbrev pub IsPortOf : InboxModel → PortModel → Type 0
IsPortOf b p = (p.inbox ≡ b.id) × (p.ports ≡ b.ports)

-- and nothing was put or taken through it
abbrev pub IsNewPortOf : InboxModel → PortModel → Type 0
IsNewPortOf b p = (p.inbox ≡ b.id) × (p.ports ≡ b.ports) × (p.put ≡ []) × (p.taken ≡ [])

-- if it is the only port, its inbox has so many packets: those that were put and not taken
abbrev pub AloneHas : ℕ → PortModel → Type 0
AloneHas n p = p.ports ≡ 1 → length p.put ≡ length p.taken + n

-- the port once a packet was put, or taken, through it
abbrev pub after_put : PortModel → Packet → PortModel
after_put p x = record { inbox = p.inbox; ports = p.ports; put = p.put ++ x ∷ []; taken = p.taken }

abbrev pub after_take : PortModel → Packet → PortModel
after_take p x = record { inbox = p.inbox; ports = p.ports; put = p.put; taken = p.taken ++ x ∷ [] }

-- all that was put, and all that was taken, through these ports
abbrev pub all_put : List PortModel → List Packet
all_put [] = []
all_put (p ∷ ps) = p.put ++ all_put ps

abbrev pub all_taken : List PortModel → List Packet
all_taken [] = []
all_taken (p ∷ ps) = p.taken ++ all_taken ps
