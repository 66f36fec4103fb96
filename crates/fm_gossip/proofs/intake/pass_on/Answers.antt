use Rattle.std.proofs.Common.{ap, sym, ◌∙◌}
use Rattle.fm_inbox.specs.declared.owned_port.OwnedPort.{OwnedPort}
use Rattle.fm_gossip.specs.inner.Used.{after_takes}
use Rattle.fm_gossip.proofs.Columns.{on_ok, passed_through}
use Rattle.fm_gossip.proofs.intake.pass_on.Goals as goal

pub returns-clause-merged : goal.returns-clause-merged
returns-clause-merged g c =
    on_ok c.merge_all.result
    (λ m. (
      m.0,
      passed_through (λ d. d.port) c.args.ports.now c.put_all.new.ports c.args.place c.index-ports-place.result c.merge_all.new.own c.args.packet.now m.0.packets c.requires c.index-ports-place.is c.in_ok-put_all.ensures.put
          (m.1 ∙ ap (λ (d : OwnedPort). after_takes d.port m.0.packets) (sym c.index-ports-place.is)),
    ))
    c.merge_all.ensures.merged
