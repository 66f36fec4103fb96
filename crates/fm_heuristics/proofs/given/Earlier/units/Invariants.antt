use Rattle.fm_heuristics.proofs.given.Earlier.units.Given as goal

abbrev pub decreases-passing : goal.decreases-passing
decreases-passing l = l.self.left
