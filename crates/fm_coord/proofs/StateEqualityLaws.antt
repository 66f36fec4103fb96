-- That the derived equalities of calls, replies and entries are those of the values.
use Rattle.std.specs.Prelude.{◌≡◌, ℕ, Bool, ◌==◌, ◌&&◌}
use Rattle.std.specs.Bool.{Decides}
use Rattle.std.proofs.Common.{ap, eq-eqb, rules}
use Rattle.std.proofs.lemmas.Bool.{eqb-true}
use Rattle.fm_records.proofs.LookupLaws.{both_true}
use Rattle.fm_records.specs.Table.{Table}
use Rattle.fm_records.specs.laws.RecordEqualityLaws.{op_Decides}
use Rattle.fm_know.specs.KnowledgeEquality.{same_table}
use Rattle.fm_know.specs.laws.KnowledgeEqualityLaws.{table_Decides}
use Rattle.fm_delta.specs.laws.PacketLaws.{packet_Decides}
use Rattle.fm_round.specs.laws.PlanEqualityLaws.{plan_Decides, admitted_Decides}
use Rattle.fm_coord.specs.declared.entry.Range.{Range}
use Rattle.fm_coord.specs.declared.entry.Range.TheVariants.{Interval}
use Rattle.fm_coord.specs.declared.entry.Call.{Call}
use Rattle.fm_coord.specs.declared.entry.Call.TheVariants as call
use Rattle.fm_coord.specs.declared.entry.Reply.{Reply}
use Rattle.fm_coord.specs.declared.entry.Reply.TheVariants as reply
use Rattle.fm_coord.specs.declared.entry.Entry.{Entry}
use Rattle.fm_coord.specs.contracts.entry.RangePartialEq.TheImpl as range_eq
use Rattle.fm_coord.specs.contracts.entry.CallPartialEq.TheImpl as call_eq
use Rattle.fm_coord.specs.contracts.entry.ReplyPartialEq.TheImpl as reply_eq
use Rattle.fm_coord.specs.contracts.entry.EntryPartialEq.TheImpl as entry_eq

abbrev pub same_range : Range → Range → Bool
same_range = (range_eq.ghosts).eq

abbrev pub same_call : Call → Call → Bool
same_call = (call_eq.ghosts).eq

abbrev pub same_reply : Reply → Reply → Bool
same_reply = (reply_eq.ghosts).eq

abbrev pub same_entry : Entry → Entry → Bool
same_entry = (entry_eq.ghosts).eq

pub range_Decides : (a b : Range) → Decides (same_range a b) (a ≡ b)
range_Decides (Interval a b) (Interval c d) = search rules
range_Decides a b = search rules

pub call_Decides : (a b : Call) → Decides (same_call a b) (a ≡ b)
call_Decides (call.Tell o) (call.Tell p) = let d = op_Decides o p in (λ h. ap (λ x. call.Tell x) (d.0 h), λ e. d.1 (cc))
call_Decides (call.Merge p) (call.Merge q) = let d = packet_Decides p q in (λ h. ap (λ x. call.Merge x) (d.0 h), λ e. d.1 (cc))
call_Decides (call.Cut r) (call.Cut s) = let d = range_Decides r s in (λ h. ap (λ x. call.Cut x) (d.0 h), λ e. d.1 (cc))
call_Decides (call.Trim m) (call.Trim n) = search rules
call_Decides call.View call.View = search rules
call_Decides (call.Commit p) (call.Commit q) = let d = plan_Decides p q in (λ h. ap (λ x. call.Commit x) (d.0 h), λ e. d.1 (cc))
call_Decides a b = search rules

-- a view's reply: the count, and what was known
seen_Decides : (m n : ℕ) (k l : Table) → Decides (m == n && same_table k l) (reply.Seen m k ≡ reply.Seen n l)
seen_Decides m n k l = (
  λ h.
      let both = both_true (m == n) (same_table k l) h in
      let at = eqb-true m n both.0 in
      let known = (table_Decides k l).0 both.1 in
      λ i. reply.Seen (at i) (known i),
  λ e.
      let at : m ≡ n = cc in
      let known : k ≡ l = cc in
      let left = eq-eqb m n at in
      let right = (table_Decides k l).1 known in
      λ i. left i && right i,
)

pub reply_Decides : (a b : Reply) → Decides (same_reply a b) (a ≡ b)
reply_Decides reply.Nothing reply.Nothing = search rules
reply_Decides (reply.Packet p) (reply.Packet q) = let d = packet_Decides p q in (λ h. ap (λ x. reply.Packet x) (d.0 h), λ e. d.1 (cc))
reply_Decides (reply.Admitted p) (reply.Admitted q) = let d = admitted_Decides p q in (λ h. ap (λ x. reply.Admitted x) (d.0 h), λ e. d.1 (cc))
reply_Decides (reply.Seen m k) (reply.Seen n l) = seen_Decides m n k l
reply_Decides a b = search rules

pub entry_Decides : (a b : Entry) → Decides (same_entry a b) (a ≡ b)
entry_Decides a b = (
  λ h.
      let first = both_true (a.by == b.by) (same_call a.call b.call && same_reply a.reply b.reply) h in
      let rest = both_true (same_call a.call b.call) (same_reply a.reply b.reply) first.1 in
      let by = eqb-true a.by b.by first.0 in
      let call = (call_Decides a.call b.call).0 rest.0 in
      let reply = (reply_Decides a.reply b.reply).0 rest.1 in
      λ i. record { by = by i; call = call i; reply = reply i },
  λ e.
      let by = eq-eqb a.by b.by (ap (λ (z : Entry). z.by) e) in
      let call = (call_Decides a.call b.call).1 (ap (λ (z : Entry). z.call) e) in
      let reply = (reply_Decides a.reply b.reply).1 (ap (λ (z : Entry). z.reply) e) in
      λ i. by i && (call i && reply i),
)
