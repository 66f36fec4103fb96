-- What an Editor is: fresh or stale, and for which table. Own.
use Rattle.std.specs.Prelude.{ℕ, ◌+◌, ◌-◌, ◌^◌, Bool, min}
use Rattle.fm_records.specs.Table.{Table}
use Rattle.fm_edit.specs.declared.editor.Editor.{Editor}
use Rattle.fm_edit.specs.EditorState.{IsEditorState}

abbrev pub is_fresh_editor : Editor → Bool
is_fresh_editor e = e.fresh

-- how many tasks its edits took out of its memory
abbrev pub taken_out : Editor → ℕ
taken_out e = e.memory.index.taken

-- it holds the network of the table, and remembers the table
abbrev pub IsFor : Editor → Table → Type 0
IsFor e k = IsEditorState e.memory e.network k

-- a count of at most 2^64 - 1, with one more
abbrev pub one_more : ℕ → ℕ
one_more n = min (n + 1) (2 ^ 64 - 1)
