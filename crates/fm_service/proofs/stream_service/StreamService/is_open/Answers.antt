use Rattle.std.proofs.Common.{◌∙◌}
use Rattle.fm_service.proofs.Unstored.{open_so}
use Rattle.fm_service.proofs.stream_service.StreamService.is_open.Goals as goal

pub returns : goal.returns
returns c = λ o h. c.is_some.ensures ∙ open_so c.args.self.now.session o h
