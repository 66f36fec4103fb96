use Rattle.std.proofs.Common.{◌≡◌, ◌++◌, ◌∷◌, ◌+◌, [], List, take, sym, subst, arith, rules}
use Rattle.std.proofs.lemmas.List.{take_more, take_all}
use Rattle.fm_delta.specs.declared.packet.Packet.{Packet}
use Rattle.fm_store.specs.Stores.{IsStoreOf, magic}
use Rattle.fm_store.proofs.Opening.{store_none, store_push}
use Rattle.fm_store.proofs.store.store_of.Goals as goal

pub loop-packet-init : goal.loop-packet-init
loop-packet-init c =
    let begins : c.in_ok-bytes.bytes.items ≡ magic = search rules in
    store_none c.args.head.now c.in_ok-bytes.bytes.items c.put_head.new.out.items begins c.in_ok-put_head.ensures.fits c.in_ok-put_head.ensures.added

pub loop-packet-preserved : goal.loop-packet-preserved
loop-packet-preserved c =
    let i = c.loop-packet.packet-index in
    let put = c.in_ok-put_packet.ensures in
    let more : take (i + 1) c.args.packets.now ≡ take i c.args.packets.now ++ c.packet-item.result ∷ [] = grind (arith, take_more) in
    subst (λ (ps : List Packet). IsStoreOf c.args.head.now ps c.put_packet.new.out.items) (sym more)
    (store_push c.args.head.now c.loop-packet.bytes.items c.put_packet.new.out.items (take i c.args.packets.now) c.packet-item.result c.loop-packet.invariant put.packet put.fits put.added)

pub returns : goal.returns
returns c =
    let all : take c.loop-packet.packet-index c.args.packets.now ≡ c.args.packets.now = take_all c.loop-packet.packet-index c.args.packets.now (omega arith) in
    subst (λ (ps : List Packet). IsStoreOf c.args.head.now ps c.loop-packet.bytes.items) all c.loop-packet.invariant
