use Rattle.fm_gossip.proofs.serving.serve_one.Given as goal

abbrev pub ghosts-serve-L-Ledger : goal.ghosts-serve-L-Ledger
ghosts-serve-L-Ledger g a = record { name = a.blank.name; parts = a.blank.parts }

abbrev pub ghosts-serve-L-NodeName : goal.ghosts-serve-L-NodeName
ghosts-serve-L-NodeName g a = record { base = 0 }
