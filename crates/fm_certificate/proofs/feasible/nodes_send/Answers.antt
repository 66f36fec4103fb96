use Rattle.std.proofs.Common.{rules, tests}
use Rattle.std.proofs.lemmas.Iterator.Consumers.{YieldsList-from_first}
use Rattle.std.proofs.lemmas.Iterator.Search.{all_from_yields_List}
use Rattle.fm_certificate.specs.inner.Checks.{sends}
use Rattle.fm_certificate.proofs.feasible.nodes_send.Goals as goal

pub returns : goal.returns
returns c = all_from_yields_List (sends c.args.flow.now) _ _ _ c.all.ensures.ran (YieldsList-from_first (λ x. x) (λ s. s) _ c.nodes.ensures.all) (λ x b q k. search (rules, tests))
