use Rattle.std.proofs.Common.{◌<◌, length, rules}
use Rattle.fm_store.specs.Tails.{IsShort}
use Rattle.fm_store.proofs.Framing.{torn_by_written}
use Rattle.fm_store.proofs.frames.tail_of.Goals as goal
use Rattle.fm_store.proofs.frames.tail_of.Goals.{then-is_empty-2, else-is_empty-2}

pub returns-else-is_short : goal.returns-else-is_short
returns-else-is_short c =
    let zeros = c.without_zeros-written.ensures.zeros in
    let some : 0 < length c.args.bytes.now = search rules in
    let some_written : 0 < length c.without_zeros-written.result.now = elim c.if-is_empty-2.branch [ then-is_empty-2 w ↦ absurd (search rules) | else-is_empty-2 w ↦ search rules ] in
    let whole : IsShort c.without_zeros-written.result.now → ⊥ = elim c.if-is_empty-2.branch [ then-is_empty-2 w ↦ absurd (search rules) | else-is_empty-2 w ↦ (λ short. search rules) ] in (
      some,
      torn_by_written c.args.bytes.now c.without_zeros-written.result.now zeros.0 zeros.1 zeros.2 c.without_zeros-written.ensures.last some_written whole,
      c.requires,
    )
