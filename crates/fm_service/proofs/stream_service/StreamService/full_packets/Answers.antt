use Rattle.std.proofs.Common.{◌≡◌, IfOk, map}
use Rattle.fm_coord.specs.Replays.{seen_packet}
use Rattle.fm_service.specs.Storing.{full_packets_in}
use Rattle.fm_service.proofs.Unstored.{not_open, is_open}
use Rattle.fm_service.proofs.stream_service.StreamService.full_packets.Goals as goal

pub returns-in-None : goal.returns-in-None
returns-in-None c = not_open (λ o. c.new.result.items ≡ map seen_packet (full_packets_in o)) c.args.self.now.session c.in-None.is c.new.ensures.items

pub returns-in-Some : goal.returns-in-Some
returns-in-Some c =
    is_open (λ o. IfOk c.full_packets.result (λ packets. packets.items ≡ map seen_packet (full_packets_in o))) c.args.self.now.session c.in-Some.session c.in-Some.is c.full_packets.ensures
