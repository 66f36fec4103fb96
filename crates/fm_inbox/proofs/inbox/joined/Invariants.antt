use Rattle.std.specs.Prelude.{◌≡◌, ℕ, ◌+◌, ◌≤◌, ◌<◌, All, vec_len}
use Rattle.crossbeam_queue.specs.Passes.{IsPassOf, ruled_capacity}
use Rattle.fm_delta.specs.declared.packet.Packet.{Packet}
use Rattle.fm_inbox.specs.Conservation.{weigh}
use Rattle.fm_inbox.specs.inner.PortAccounts.{put_weight, taken_of}
use Rattle.fm_inbox.specs.Ports.{account_of, IsPortOf, seen_inbox}
use Rattle.fm_inbox.specs.inner.PortWeights.{put_by, taken_weight}
use Rattle.fm_inbox.proofs.inbox.joined.Given as goal

abbrev pub invariant-loop-port : goal.invariant-loop-port
invariant-loop-port l = IsPassOf l.queue l.pass × ((account_of l.pass).whole ≡ l.whole) × (0 < (account_of l.pass).parts) × (l.whole ≤ (account_of l.pass).parts + vec_len l.ports)
    × All (IsPortOf (seen_inbox l.queue.table.shared.table_id l.whole (ruled_capacity l.queue))) l.ports.items
    × ((h : Packet → ℕ) → (put_weight h (account_of l.pass) + weigh (put_by h) l.ports.items ≡ weigh (put_by h) l.fn.ports.items) × (taken_of h (account_of l.pass) + weigh (taken_weight h) l.ports.items ≡ weigh (taken_weight h) l.fn.ports.items))

abbrev pub decreases-loop-port : goal.decreases-loop-port
decreases-loop-port l = goal.left-loop-port l
