-- What an intake sends and gets, by what its seat lists.
use Rattle.std.proofs.Common.{◌≡◌, List, [], ◌∷◌, ◌++◌, ℕ, map, refl, sym, ap, ◌∙◌, append_assoc}
use Rattle.std.proofs.lemmas.List.{append-nil}
use Rattle.fm_records.specs.declared.ops.Op.{Op}
use Rattle.fm_delta.specs.declared.packet.Packet.{Packet}
use Rattle.fm_inbox.specs.Ports.{InboxModel, PortModel}
use Rattle.fm_coord.specs.declared.entry.Range.TheVariants.{Full}
use Rattle.fm_coord.specs.declared.entry.Call.TheVariants as call
use Rattle.fm_coord.specs.declared.entry.Reply.TheVariants as reply
use Rattle.fm_coord.specs.declared.entry.Entry.{Entry}
use Rattle.fm_coord.specs.States.{history_entry}
use Rattle.fm_fleet.specs.Seats.{SeatModel, after_call}
use Rattle.fm_gossip.specs.Served.{all_told, all_merged, AreMerged}
use Rattle.fm_gossip.specs.Passing.{merged_by, given_by, merges_in, cuts_in, passing, passed_in}
use Rattle.fm_gossip.specs.inner.Used.{new_port, used_ports}

cuts_last : (es : List Entry) (e : Entry) → cuts_in (es ++ e ∷ []) ≡ cuts_in es ++ given_by e.reply
cuts_last [] e = append-nil (given_by e.reply)
cuts_last (f ∷ es) e = ap (λ z. given_by f.reply ++ z) (cuts_last es e) ∙ sym (append_assoc (given_by f.reply) (cuts_in es) (given_by e.reply))

merges_last : (es : List Entry) (e : Entry) → merges_in (es ++ e ∷ []) ≡ merges_in es ++ merged_by e.call
merges_last [] e = append-nil (merged_by e.call)
merges_last (f ∷ es) e = ap (λ z. merged_by f.call ++ z) (merges_last es e) ∙ sym (append_assoc (merged_by f.call) (merges_in es) (merged_by e.call))

-- tells neither send nor get

told_cuts : (s : SeatModel) (ops : List Op) → cuts_in (all_told s ops).log ≡ cuts_in s.log
told_cuts s [] = refl
told_cuts s (op ∷ ops) = told_cuts (after_call s (call.Tell op) reply.Nothing) ops ∙ cuts_last s.log (history_entry s.number (call.Tell op) reply.Nothing) ∙ append-nil (cuts_in s.log)

told_merges : (s : SeatModel) (ops : List Op) → merges_in (all_told s ops).log ≡ merges_in s.log
told_merges s [] = refl
told_merges s (op ∷ ops) = told_merges (after_call s (call.Tell op) reply.Nothing) ops ∙ merges_last s.log (history_entry s.number (call.Tell op) reply.Nothing) ∙ append-nil (merges_in s.log)

-- merges get

merged_cuts : (s : SeatModel) (ps : List Packet) → cuts_in (all_merged s ps).log ≡ cuts_in s.log
merged_cuts s [] = refl
merged_cuts s (p ∷ ps) = merged_cuts (after_call s (call.Merge p) reply.Nothing) ps ∙ cuts_last s.log (history_entry s.number (call.Merge p) reply.Nothing) ∙ append-nil (cuts_in s.log)

merged_merges : (s : SeatModel) (ps : List Packet) → merges_in (all_merged s ps).log ≡ merges_in s.log ++ ps
merged_merges s [] = sym (append-nil (merges_in s.log))
merged_merges s (p ∷ ps) =
    merged_merges (after_call s (call.Merge p) reply.Nothing) ps ∙ ap (λ z. z ++ ps) (merges_last s.log (history_entry s.number (call.Merge p) reply.Nothing)) ∙ append_assoc (merges_in s.log) (p ∷ []) ps

-- an intake of a new seat sends the packet that it cut, and gets those that it merged
of_intake : (s u t : SeatModel) (tells : List Op) (others : List ℕ) (p : Packet) (merged : AreMerged others u t) → u ≡ after_call (all_told s tells) (call.Cut Full) (reply.Packet p) → s.log ≡ [] → passed_in t ≡ passing (p ∷ []) merged.packets
of_intake s u t tells others p merged cut empty =
    let told = all_told s tells in
    let e = history_entry told.number (call.Cut Full) (reply.Packet p) in
    let sent : cuts_in u.log ≡ p ∷ [] = ap (λ (z : SeatModel). cuts_in z.log) cut ∙ cuts_last told.log e ∙ ap (λ z. z ++ p ∷ []) (told_cuts s tells ∙ ap cuts_in empty) in
    let none : merges_in u.log ≡ [] = ap (λ (z : SeatModel). merges_in z.log) cut ∙ merges_last told.log e ∙ append-nil (merges_in told.log) ∙ told_merges s tells ∙ ap merges_in empty in
    let cuts : cuts_in t.log ≡ p ∷ [] = ap (λ (z : SeatModel). cuts_in z.log) merged.merges ∙ merged_cuts u merged.packets ∙ sent in
    let merges : merges_in t.log ≡ merged.packets = ap (λ (z : SeatModel). merges_in z.log) merged.merges ∙ merged_merges u merged.packets ∙ ap (λ z. z ++ merged.packets) none in
    λ i. passing (cuts i) (merges i)

pub ports_after : (place : ℕ) (s u t : SeatModel) (tells : List Op) (others : List ℕ) (p given : Packet) (merged : AreMerged others u t) (before after wrote : List PortModel) → u ≡ after_call (all_told s tells) (call.Cut Full) (reply.Packet p) → given ≡ p → after ≡ wrote
    → ((bs : List InboxModel) → before ≡ map new_port bs → wrote ≡ used_ports place 0 (passing (given ∷ []) merged.packets) bs)
    → (bs : List InboxModel) → s.log ≡ [] → before ≡ map new_port bs → after ≡ used_ports place 0 (passed_in t) bs
ports_after place s u t tells others p given merged before after wrote cut same is used bs empty new =
    is ∙ used bs new ∙ ap (λ q. used_ports place 0 (passing (q ∷ []) merged.packets) bs) same ∙ ap (λ m. used_ports place 0 m bs) (sym (of_intake s u t tells others p merged cut empty))
