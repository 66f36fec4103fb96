use Rattle.fm_store.proofs.Framing.{frame_shorter}
use Rattle.fm_salvage.proofs.Lines.{none_listed, one_listed, ended_listed}
use Rattle.fm_salvage.proofs.listing.list_packets.Goals as goal

pub loop-found-init : goal.loop-found-init
loop-found-init c = none_listed c.args.total c.args.frames.now c.args.text.items

pub loop-found-smaller : goal.loop-found-smaller
loop-found-smaller c =
    let h = c.in-Ok.ensures.ok in
    frame_shorter c.loop-found.rest.now h.read c.in-Ok.found.after.now h.are

pub loop-found-preserved : goal.loop-found-preserved
loop-found-preserved c =
    one_listed c.args.total c.args.frames.now c.loop-found.rest.now c.args.text.items c.loop-found.text.items c.in-Ok.found.after.now c.put_record.new.text.items c.in-Ok.found.packet c.in-Ok.found.size
    c.requires c.loop-found.invariant c.in-Ok.ensures.ok c.in_ok-put_record-in-Ok.ensures.ok

pub returns-in-Err-End-clause-ok : goal.returns-in-Err-End-clause-ok
returns-in-Err-End-clause-ok c =
    let e = c.in-Err-End in
    ended_listed c.args.total c.args.frames.now c.loop-found.rest.now c.args.text.items c.loop-found.text.items e.tail e.place c.ended.result
    c.loop-found.invariant (e.ensures.err e.tail e.place e.field-0-is) c.ended.ensures.text c.ended.ensures.damage
