use Rattle.std.proofs.Common.{◌≡◌, IfOk}
use Rattle.fm_service.specs.Storing.{numbers_listed}
use Rattle.fm_service.proofs.Unstored.{not_open, is_open}
use Rattle.fm_service.proofs.stream_service.StreamService.numbers.Goals as goal

pub returns-in-None : goal.returns-in-None
returns-in-None c = not_open (λ o. c.new.result.items ≡ numbers_listed o) c.args.self.now.session c.in-None.is c.new.ensures.items

pub returns-in-Some : goal.returns-in-Some
returns-in-Some c = is_open (λ o. IfOk c.numbers_of.result (λ numbers. numbers.items ≡ numbers_listed o)) c.args.self.now.session c.in-Some.session c.in-Some.is c.numbers_of.ensures
