use Rattle.std.proofs.Common.{sym}
use Rattle.fm_args.proofs.Helping.{no_topic}
use Rattle.fm_args.proofs.help.is_topic.Goals as goal

pub returns-in_default : goal.returns-in_default
returns-in_default c = let n = c.in_default in
    sym (no_topic c.args.word.now n.not-agree n.not-check n.not-fleet n.not-follow n.not-graph n.not-list n.not-pack n.not-records n.not-recover n.not-solve n.not-plan n.not-unpack n.not-why n.not-winners n.not-help)
