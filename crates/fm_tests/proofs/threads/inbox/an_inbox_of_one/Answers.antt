use Rattle.std.proofs.Common.{◌≡◌, length, arith}
use Rattle.std.proofs.lemmas.List.Elements.{All-push}
use Rattle.fm_inbox.specs.Ports.{IsPortOf}
use Rattle.fm_tests.proofs.threads.inbox.an_inbox_of_one.Goals as goal

pub close-requires-2 : goal.close-requires-2
close-requires-2 g c =
    let back = c.in-Err-close.ensures.back in
    let few : length c.pop.new.self.items ≡ 0 = omega (arith, c.in-Some.ensures.len, c.pop.new.self.ok, c.in_ok-inbox.ensures.ports.0) in
    rw (c.in_ok-push.ensures.items, back.0, back.1) (All-push (IsPortOf c.in_ok-inbox.inbox) c.pop.new.self.items _ (λ k d lt. absurd (omega (arith, lt, few))) c.take-2.ensures.port)
