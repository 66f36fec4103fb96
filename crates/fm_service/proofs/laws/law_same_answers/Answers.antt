use Rattle.std.proofs.Common.{ap}
use Rattle.fm_records.proofs.SetExtensionality.{know_same}
use Rattle.fm_net.specs.Network.{net_of}
use Rattle.fm_dimacs.specs.Text.{dump_text}
use Rattle.fm_query.specs.WinnersText.{winners_text}
use Rattle.fm_service.proofs.laws.law_same_answers.Goals as goal

pub returns-clause-graphs : goal.returns-clause-graphs
returns-clause-graphs c = λ a b same. ap (λ t. dump_text (net_of t)) (know_same a.taken b.taken same)

pub returns-clause-winners : goal.returns-clause-winners
returns-clause-winners c = λ a b same. ap winners_text (know_same a.taken b.taken same)
