use Rattle.fm_store.specs.inner.Halves.{longest}
use Rattle.fm_store.proofs.pieces.+put_pieces.Given as goal

abbrev pub decreases-put_pieces : goal.decreases-put_pieces
decreases-put_pieces l = longest l.packet.value
