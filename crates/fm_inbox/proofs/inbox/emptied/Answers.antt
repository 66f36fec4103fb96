use Rattle.std.proofs.Common.{arith}
use Rattle.fm_inbox.specs.Ports.{all_taken}
use Rattle.fm_inbox.proofs.Keeps.{weigh-append}
use Rattle.fm_inbox.proofs.Rest.{weigh-all_put, weigh-all_taken}
use Rattle.fm_inbox.proofs.inbox.emptied.Goals as goal

pub returns : goal.returns
returns g c = λ h.
    let s = c.joined-pass.ensures.sums h in
    let ports = c.args.ports.items in
    omega (arith, s.0, s.1, c.left.ensures h, weigh-all_put h ports, weigh-all_taken h ports, weigh-append h (all_taken ports) c.left.result.items)
