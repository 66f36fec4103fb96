use Rattle.std.proofs.Common.{string_bytes, refl, ap}
use Rattle.fm_durable.specs.DurableServices.{model_of}
use Rattle.fm_durable.proofs.Keeping.{StoredLaws}
use Rattle.fm_durable.proofs.Streams.{followed}
use Rattle.fm_durable.proofs.durable_stream.follow_durable.Goals as goal

pub returns : goal.returns
returns g c = λ behind stand.
    let model = model_of g.D.Device.content g.D.Device.synced g.D.Device.sound in
    let most = c.args.renew_after in
    let label = string_bytes c.args.label in
    let first = model c.args.device in
    let made = c.new-service.ensures in
    let then = c.follow_in_groups-followed.new.responder in
    let law = c.law_stored.ensures in
    let laws : StoredLaws most behind = record {
      opened = law.opened most behind;
      line = λ S line answer k j. law.line S most behind line answer k j;
      stored = law.stored;
      full = law.full;
      marked = law.marked;
      restored_so = law.restored behind;
      listed_so = law.listed most behind;
      known = law.known;
    } in
    followed model g.met.D.Device.known most behind stand laws label c.args.device c.follow_in_groups-followed.result c.ended.result c.new-service.result then (model then.device)
    (record {
      given = g.S.Source.remaining c.args.source.now;
      left = g.S.Source.remaining c.follow_in_groups-followed.new.source;
      source_failed = g.S.Source.has_failed c.follow_in_groups-followed.new.source;
      old = g.W.Out.written c.args.sink.now;
      new = g.W.Out.written c.follow_in_groups-followed.new.sink;
      had_failed = g.W.Out.has_failed c.args.sink.now;
      has_failed = g.W.Out.has_failed c.follow_in_groups-followed.new.sink;
    })
    (ap string_bytes made.label) made.most made.start (ap model made.device) refl c.ended.ensures c.follow_in_groups-followed.ensures
