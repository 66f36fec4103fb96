use Rattle.std.proofs.Common.{◌≡◌, List, Some, string_bytes, subst, ap, ◌∙◌, map, rules}
use Rattle.fm_delta.specs.declared.packet.Packet.{Packet}
use Rattle.fm_store.specs.Heads.{HeadModel}
use Rattle.fm_store.specs.Stores.{IsOpened}
use Rattle.fm_store.specs.KnownPackets.{HasTaken, known_packets, unknown}
use Rattle.fm_store.specs.declared.known.Known.{Known}
use Rattle.fm_service.specs.StreamSteps.{Following}
use Rattle.fm_service.specs.Sessions.{IsIn}
use Rattle.fm_service.specs.Storing.{numbers_listed, Restores}
use Rattle.fm_durable.specs.DurableSteps.{store_head}
use Rattle.fm_durable.specs.DurableServices.{model_of}
use Rattle.fm_durable.proofs.Appending.{held_in}
use Rattle.fm_durable.proofs.Surviving.{keeps_none, keeps_failed, keeps_opened}
use Rattle.fm_durable.proofs.durable_service.DurableService.open.Goals as goal

pub returns-in-Ok-clause-ok : goal.returns-in-Ok-clause-ok
returns-in-Ok-clause-ok g c = λ k is.
    let read = c.in_ok-read_store.ensures.ok in
    let packets = read.0 in
    let old = g.D.Device.content c.args.self.now.device in
    let new = g.D.Device.content c.read_store.new.device in
    let synced = g.D.Device.synced c.read_store.new.device in
    let head = store_head (string_bytes c.args.self.now.label) (Some k) in
    let head_is : c.in_ok-head.head ≡ head = c.in_ok-head.ensures (Some k) is in
    let opened = subst (λ (h : HeadModel). IsOpened h packets old new synced) head_is read.2 in
    let numbers_are : c.deref.result.now ≡ numbers_listed (Some k) = search (rules, c.in_ok-numbers.ensures (Some k) is) in
    let begun = c.in_ok-found.ensures ∙ ap (map unknown) numbers_are in
    let taken = subst (λ (ks : List Known). HasTaken ks packets c.read_store.new.sink.all.known.items) begun read.1 in
    let known_is : c.in_ok-known.known.items ≡ known_packets (numbers_listed (Some k)) packets = c.in_ok-known.ensures.all (numbers_listed (Some k)) packets taken in
    record {
      packets = packets;
      found = opened.found;
      holds = held_in new synced (g.D.Device.sound c.read_store.new.device) head packets opened.left opened.on_disk c.in_ok-read_store.ensures.sound;
      can_be = taken.1;
      most = c.begin_with.ensures.most;
      restores = λ behind stand.
          subst (λ (ps : List Packet). (j : Following) × Restores behind k ps j × IsIn c.begin_with.new.self.session (Some j)) known_is (c.in-Ok.ensures.ok behind stand k is);
    }

pub returns-in_err-head-clause-keeps : goal.returns-in_err-head-clause-keeps
returns-in_err-head-clause-keeps g c = keeps_none (model_of g.D.Device.content g.D.Device.synced g.D.Device.sound c.args.self.now.device)

pub returns-in_err-numbers-clause-keeps : goal.returns-in_err-numbers-clause-keeps
returns-in_err-numbers-clause-keeps g c = keeps_none (model_of g.D.Device.content g.D.Device.synced g.D.Device.sound c.args.self.now.device)

pub returns-in_err-found-clause-keeps : goal.returns-in_err-found-clause-keeps
returns-in_err-found-clause-keeps g c = keeps_none (model_of g.D.Device.content g.D.Device.synced g.D.Device.sound c.args.self.now.device)

pub returns-in_err-read_store-clause-keeps : goal.returns-in_err-read_store-clause-keeps
returns-in_err-read_store-clause-keeps g c =
    let model = model_of g.D.Device.content g.D.Device.synced g.D.Device.sound in
    keeps_failed (model c.args.self.now.device) (model c.read_store.new.device) (g.met.D.Device.known c.args.self.now.device c.read_store.new.device) c.in_err-read_store.ensures.err

pub returns-in_err-known-clause-keeps : goal.returns-in_err-known-clause-keeps
returns-in_err-known-clause-keeps g c =
    let model = model_of g.D.Device.content g.D.Device.synced g.D.Device.sound in
    let read = c.in_ok-read_store.ensures.ok in
    keeps_opened (model c.args.self.now.device) (model c.read_store.new.device) (g.met.D.Device.known c.args.self.now.device c.read_store.new.device)
    c.in_ok-head.head read.0 read.2.found read.2.left

pub returns-in-Ok-clause-keeps : goal.returns-in-Ok-clause-keeps
returns-in-Ok-clause-keeps g c =
    let model = model_of g.D.Device.content g.D.Device.synced g.D.Device.sound in
    let read = c.in_ok-read_store.ensures.ok in
    keeps_opened (model c.args.self.now.device) (model c.read_store.new.device) (g.met.D.Device.known c.args.self.now.device c.read_store.new.device)
    c.in_ok-head.head read.0 read.2.found read.2.left

pub returns-clause-keeps : goal.returns-clause-keeps
returns-clause-keeps g c =
    let model = model_of g.D.Device.content g.D.Device.synced g.D.Device.sound in
    let read = c.in_ok-read_store.ensures.ok in
    keeps_opened (model c.args.self.now.device) (model c.read_store.new.device) (g.met.D.Device.known c.args.self.now.device c.read_store.new.device)
    c.in_ok-head.head read.0 read.2.found read.2.left
