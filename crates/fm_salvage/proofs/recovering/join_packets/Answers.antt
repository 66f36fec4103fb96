use Rattle.std.proofs.Common.{◌≡◌, ◌∙◌, ap, rules}
use Rattle.fm_store.proofs.Framing.{frame_shorter}
use Rattle.fm_salvage.specs.StoreFronts.{damage_of}
use Rattle.fm_salvage.proofs.Knowing.{none_known, one_known, all_known}
use Rattle.fm_salvage.proofs.recovering.join_packets.Goals as goal

pub loop-found-init : goal.loop-found-init
loop-found-init c = none_known c.args.frames.now c.args.all.known.items

pub loop-found-smaller : goal.loop-found-smaller
loop-found-smaller c =
    let h = c.in-Ok.ensures.ok in
    frame_shorter c.loop-found.rest.now h.read c.in-Ok.found.after.now h.are

pub loop-found-preserved : goal.loop-found-preserved
loop-found-preserved c =
    let so_far = c.loop-found.invariant in
    let taken = c.in_ok-take-in-Ok.ensures c.args.all so_far.packets so_far.known_is in
    one_known c.args.frames.now c.loop-found.rest.now c.in-Ok.found.after.now c.args.all.known.items c.loop-found.all.known.items c.take.new.self.known.items c.in-Ok.found.packet c.in-Ok.found.size
    so_far c.in-Ok.ensures.ok taken

pub returns-in-Err-End-clause-ok : goal.returns-in-Err-End-clause-ok
returns-in-Err-End-clause-ok c =
    let e = c.in-Err-End in
    let end = e.ensures.err e.tail e.place e.field-0-is in
    let told : c.damage_of.result ≡ damage_of e.tail e.place = search rules in
    all_known c.args.total c.args.frames.now c.loop-found.rest.now c.args.all.known.items c.loop-found.all.known.items e.tail c.damage_of.result c.loop-found.invariant end.1 (told ∙ ap (damage_of e.tail) end.0)
