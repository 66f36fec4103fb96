use Rattle.std.specs.Prelude.{vec_len}
use Rattle.fm_gossip.proofs.member_threads.+serve_all.Given as goal

abbrev pub decreases-serve_all : goal.decreases-serve_all
decreases-serve_all g l = vec_len l.works
