-- A deferred keeper that takes a delta in.
use Rattle.std.specs.Prelude.{◌≡◌, ◌⊎◌, false, None}
use Rattle.fm_policy.specs.Changes.{Keys, joined_keys}
use Rattle.fm_edit.specs.declared.deferred.Deferred.{Deferred}

-- the keys are pending, and nothing else changed; or all is forgotten, and the next look builds
abbrev pub DeferredAbsorbs : Deferred → Keys → Deferred → Type 0
DeferredAbsorbs old keys new =
    ((new.editor ≡ old.editor) × (new.pending ≡ joined_keys old.pending keys) × (new.edits ≡ old.edits) × (new.builds ≡ old.builds))
    ⊎ ((new.editor ≡ None) × (new.built ≡ false) × (new.edits ≡ old.edits) × (new.builds ≡ old.builds))
