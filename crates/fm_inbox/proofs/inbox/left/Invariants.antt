use Rattle.std.specs.Prelude.{◌≡◌, ℕ, ◌+◌, ◌≤◌, ◌<◌, length, vec_len, vec_capacity}
use Rattle.crossbeam_queue.specs.Passes.{IsPassOf}
use Rattle.fm_delta.specs.declared.packet.Packet.{Packet}
use Rattle.fm_inbox.specs.Conservation.{weigh}
use Rattle.fm_inbox.specs.inner.PortAccounts.{taken_of}
use Rattle.fm_inbox.specs.Ports.{account_of}
use Rattle.fm_inbox.proofs.inbox.left.Given as goal

abbrev pub invariant-loop-i : goal.invariant-loop-i
invariant-loop-i g l = IsPassOf l.queue l.pass × (0 < (account_of l.pass).parts) × ((account_of l.pass).whole ≤ (account_of l.pass).parts)
    × (vec_len l.room ≡ l._i) × (l.count ≤ vec_capacity l.room)
    × ((account_of l.pass).put ≡ (account_of l.fn.pass).put)
    × ((h : Packet → ℕ) → taken_of h (account_of l.pass) ≡ taken_of h (account_of l.fn.pass) + weigh h l.room.items)
    × (length (account_of l.pass).put + l._i ≡ length (account_of l.pass).taken + l.count)
