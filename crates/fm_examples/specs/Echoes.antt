-- Lines that are answered by themselves.
use Rattle.std.specs.Prelude.{◌≡◌, ◌⊎◌, ◌∷◌, ◌++◌, ℕ, List, []}
use Rattle.fm_records.specs.declared.refusal.Refusal.TheVariants.{OutOfMemory}
use Rattle.fm_io.specs.Replies.{accepted_reply, refusal_reply}

-- the line comes to itself with a line feed, or there was no memory for it; nothing changes
abbrev pub Echoes : {D : Type 0} → D → List ℕ → List ℕ → D → Type 0
Echoes old line text new = ((text ≡ accepted_reply (line ++ 10 ∷ [])) ⊎ (text ≡ refusal_reply OutOfMemory)) × (new ≡ old)
