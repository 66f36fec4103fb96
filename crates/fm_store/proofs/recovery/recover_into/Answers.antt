use Rattle.std.proofs.Common.{◌≡◌, ◌<◌, ◌^◌, ◌-◌, [], ◌∷◌, ◌++◌, length, inl, refl, subst, rules}
use Rattle.fm_store.specs.Frames.{frame}
use Rattle.fm_store.specs.Heads.{head_record}
use Rattle.fm_store.specs.Stores.{magic, IsUnfinished}
use Rattle.fm_store.specs.declared.frames.Tail.{Tail}
use Rattle.fm_store.specs.Tails.{IsTail}
use Rattle.fm_store.proofs.Framing.{frame_shorter}
use Rattle.fm_store.proofs.Recovering.{none_so_far, one_more, cause_packet, cause_tail}
use Rattle.fm_store.proofs.recovery.recover_into.Goals as goal

pub returns-in_default-clause-ok : goal.returns-in_default-clause-ok
returns-in_default-clause-ok g c =
    let unfinished : IsUnfinished c.args.bytes.now = search rules in
    ([], g.met.S.PacketSink.none c.args.sink.now, inl (refl, refl, unfinished))

pub loop-rest-init : goal.loop-rest-init
loop-rest-init g c =
    let is : c.args.bytes.now ≡ magic ++ (frame (head_record c.args.head.now) ++ c.in-Some.frames.now) = search rules in
    let fits : length (head_record c.args.head.now) < 2 ^ 64 = search rules in
    ([], g.met.S.PacketSink.none c.args.sink.now, none_so_far c.args.head.now c.args.bytes.now c.in-Some.frames.now is fits)

pub loop-rest-smaller : goal.loop-rest-smaller
loop-rest-smaller g c = frame_shorter c.loop-rest.rest.now c.in-Ok.record.now c.in-Ok.after.now c.in-Ok.ensures.ok

pub loop-rest-preserved : goal.loop-rest-preserved
loop-rest-preserved g c =
    let so_far = c.loop-rest.invariant in
    let packet = c.in-Ok-packet_of.ensures.ok in
    let more = one_more c.args.head.now c.args.bytes.now c.loop-rest.rest.now c.in-Ok.record.now c.in-Ok.after.now so_far.0 c.in-Ok-packet_of.packet
    so_far.2 c.in-Ok.ensures.ok c.in-Ok.ensures.fits packet.0 packet.1 in
    (so_far.0 ++ c.in-Ok-packet_of.packet ∷ [], c.in_ok-take-in-Ok-packet_of.ensures c.args.sink.now so_far.0 so_far.1, more)

pub returns-in-Err-packet_of-clause-err : goal.returns-in-Err-packet_of-clause-err
returns-in-Err-packet_of-clause-err g c =
    let place = length c.args.bytes.now - length c.loop-rest.rest.now in
    cause_packet c.args.head.now c.args.bytes.now c.loop-rest.rest.now c.in-Ok.record.now c.in-Ok.after.now c.loop-rest.invariant.0 place c.in-Err-packet_of.fault
    c.loop-rest.invariant.2 refl c.in-Ok.ensures.fits c.in-Ok.ensures.ok c.in-Err-packet_of.ensures.err

pub returns-in-Err-Damaged-clause-err : goal.returns-in-Err-Damaged-clause-err
returns-in-Err-Damaged-clause-err g c =
    let place = length c.args.bytes.now - length c.loop-rest.rest.now in
    let tail = subst (λ (e : Tail). IsTail c.loop-rest.rest.now e) c.in-Err-Damaged.field-0-is c.in-Err-Damaged.ensures.err in
    cause_tail c.args.head.now c.args.bytes.now c.loop-rest.rest.now c.loop-rest.invariant.0 place c.loop-rest.invariant.2 refl tail
