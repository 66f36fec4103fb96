use Rattle.std.specs.Prelude.{◌≡◌, ◌+◌, ◌≤◌, [], All, vec_len, vec_capacity}
use Rattle.crossbeam_queue.specs.Passes.{IsPassOf, ruled_capacity}
use Rattle.fm_inbox.specs.inner.PortAccounts.{account}
use Rattle.fm_inbox.specs.Ports.{account_of, IsNewPortOf, seen_inbox}
use Rattle.fm_inbox.proofs.inbox.Inbox.with_ports.Given as goal

abbrev pub invariant-loop-i : goal.invariant-loop-i
invariant-loop-i l = IsPassOf l.queue l.pass × (account_of l.pass ≡ account l._i l._i [] [])

abbrev pub invariant-loop-i-2 : goal.invariant-loop-i-2
invariant-loop-i-2 l = IsPassOf l.queue l.pass × ((account_of l.pass).parts + l._i ≡ l.ports + 1) × (account_of l.pass ≡ account (account_of l.pass).parts l.ports [] []) × (vec_len l.made + 1 ≡ l._i) × (l.ports ≤ vec_capacity l.made)
    × All (IsNewPortOf (seen_inbox l.queue.table.shared.table_id l.ports (ruled_capacity l.queue))) l.made.items
