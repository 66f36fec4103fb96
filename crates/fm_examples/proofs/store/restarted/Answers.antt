use Rattle.std.proofs.Common.{◌∙◌, ap}
use Rattle.std.proofs.lemmas.Option.{IfSome_then}
use Rattle.fm_store.specs.Stores.{recovered}
use Rattle.fm_examples.proofs.store.restarted.Goals as goal

pub returns : goal.returns
returns g c =
    let known = c.in_ok-knowledge_of.ensures.ok ∙ ap (recovered c.args.number) c.deref.ensures.value in record {
      sound = c.in_ok-packets.ensures.sound;
      known = IfSome_then (g.D.Device.content c.args.device.now) c.in_ok-packets.ensures.found (λ all found. (c.in_ok-packets.packets.items, found, known));
    }
