use Rattle.std.specs.Prelude.{length}
use Rattle.fm_tests.proofs.threads.fleet.picked.Given as goal

abbrev pub ghosts-play-L-Ledger : goal.ghosts-play-L-Ledger
ghosts-play-L-Ledger g a = record { name = a.blank.name; parts = a.blank.parts }

abbrev pub ghosts-play-L-NodeName : goal.ghosts-play-L-NodeName
ghosts-play-L-NodeName g a = record { base = length a.coordinator.state.history }
