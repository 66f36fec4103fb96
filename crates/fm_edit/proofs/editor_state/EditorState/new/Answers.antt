use Rattle.fm_edit.specs.EditorState.{none_out}
use Rattle.fm_edit.proofs.editor_state.EditorState.new.Goals as goal

pub returns : goal.returns
returns c = record { sees = c.new.ensures; counts = c.new-2.ensures none_out }
