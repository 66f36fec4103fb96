use Rattle.std.proofs.Common.{◌∙◌, ◌++◌, ℕ, List, ap}
use Rattle.fm_store.specs.Heads.{HeadModel}
use Rattle.fm_salvage.specs.ListingText.{head_line}
use Rattle.fm_salvage.proofs.Lines.{file_listed}
use Rattle.fm_salvage.proofs.listing.list_records.Goals as goal

pub returns-in_ok-put_head-in-Ok-clause-ok : goal.returns-in_ok-put_head-in-Ok-clause-ok
returns-in_ok-put_head-in-Ok-clause-ok c =
    let h = c.in-Ok.head in
    let head : HeadModel = record { label = h.label.now; numbers = h.numbers.items } in
    file_listed head c.args.bytes.now h.frames.now c.put_head.new.text.items c.list_packets.result c.in-Ok.ensures.ok
    (c.in_ok-put_head-in-Ok.ensures.ok ∙ ap (λ (l : List ℕ). l ++ head_line head) c.new-text.ensures.items) c.list_packets.ensures.ok
