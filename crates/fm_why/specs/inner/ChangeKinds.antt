-- The kinds of changes.
use Rattle.fm_why.specs.declared.reasons.Change.{Change}
use Rattle.fm_why.specs.declared.reasons.Change.TheVariants.{Slot, Bandwidth}

-- more bandwidth, and no slot
abbrev pub IsBandwidth : Change → Type 0
IsBandwidth Slot = ⊥
IsBandwidth (Bandwidth by) = Unit {0}
