use Rattle.std.proofs.Common.{codes}
use Rattle.clap.specs.Words.{found_of}
use Rattle.std.specs.Str.Parse.{ParsesUnsigned, ExplainsUnsignedError, HasUnsignedDigitsIfOk}
use Rattle.fm_args.proofs.Matching.{reads}
use Rattle.fm_args.proofs.matched.rounds_in.Goals as goal

pub returns : goal.returns
returns c = reads (λ bs r. ParsesUnsigned 32 10 bs r × ExplainsUnsignedError 10 bs r × HasUnsignedDigitsIfOk bs r) 32 (found_of c.args.matches.now) (codes "rounds") _
    (λ u x g. g.0) c.get_one.ensures.none c.get_one.ensures.value
