use Rattle.std.proofs.Common.{◌≡◌, ◌∙◌, map, ap, rules}
use Rattle.fm_store.specs.inner.OnePacket.{with_packet}
use Rattle.fm_store.proofs.KnownStep.{one_taken}
use Rattle.fm_store.proofs.known.AllKnownPacketSink.take.Goals as goal

pub returns : goal.returns
returns c = λ first packets so_far.
    let before : c.replace-known.result.items ≡ c.args.self.now.known.items = search rules in
    one_taken first.known.items c.args.self.now.known.items c.in_ok-self.field-0.items packets c.args.packet so_far c.law_can_be.ensures
    (c.in_ok-self.ensures ∙ ap (map (with_packet c.args.packet)) before)
