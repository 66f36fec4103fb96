use Rattle.std.proofs.Common.{ℕ, List, ◌+◌, ◌++◌, ◌∙◌, ap, append_assoc, codes, length}
use Rattle.fm_records.specs.Table.{Table}
use Rattle.fm_delta.specs.Deltas.{end_of}
use Rattle.fm_wire.specs.Grammar.{packet_size}
use Rattle.fm_coord.specs.declared.entry.Range.TheVariants.{Full}
use Rattle.fm_coord.specs.States.{cut_packet}
use Rattle.fm_query.specs.SizeText.{known_size_text, history_lines, size_line}
use Rattle.fm_query.proofs.size_text.size_text.Goals as goal

pub returns-clause-ok : goal.returns-clause-ok
returns-clause-ok g c =
    let s = c.args.coordinator.now.state in
    let known = known_size_text s.knowledge in
    let history = history_lines (length s.history) s.limit s.deltas.floor (end_of s.deltas) in
    let packet : ℕ → List ℕ = λ n. size_line (codes "packet") n in
    c.in_ok-write_size.ensures.ok
    ∙ ap (λ before. before ++ packet c.packet_size.result) (c.in_ok-write_history.ensures.ok ∙ ap (λ before. before ++ history) (c.in_ok-write_by_tally.ensures.ok ∙ ap (λ start. start ++ known) c.new-lines.ensures.bytes))
    ∙ ap (λ n. (known ++ history) ++ packet n) (c.packet_size.ensures s.number (s.cuts + 1) ∙ ap (λ (k : Table). packet_size (record { sender = s.number; number = s.cuts + 1; value = k })) c.knowledge.ensures)
    ∙ append_assoc known history (packet (packet_size (cut_packet s Full)))
