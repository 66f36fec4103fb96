use Rattle.std.proofs.Common.{◌≡◌, ◌++◌, ◌∷◌, ◌+◌, ◌==◌, [], true, false, take, ap, ◌∙◌, arith, rules}
use Rattle.std.proofs.lemmas.List.{take_more, take_all}
use Rattle.fm_delta.specs.Deltas.{joined_all}
use Rattle.fm_delta.proofs.GroupLaws.{joined_union}
use Rattle.fm_store.specs.Stores.{recovered}
use Rattle.fm_store.proofs.Knowing.{knows_in, knows_out}
use Rattle.fm_store.proofs.recovery.knowledge_of.Goals as goal
use Rattle.fm_store.proofs.recovery.knowledge_of.Goals.{then-eq+in_ok-join_into, else-eq}

pub loop-packet-preserved : goal.loop-packet-preserved
loop-packet-preserved c =
    let i = c.loop-packet.packet-index in
    let p = c.packet-item.result in
    let more : take (i + 1) c.args.packets.now ≡ take i c.args.packets.now ++ p ∷ [] = grind (arith, take_more) in
    elim c.if-eq.branch [
      | then-eq+in_ok-join_into w ↦
          let same : (p.sender == c.args.number) ≡ true = search rules in
          knows_in c.args.number (take i c.args.packets.now) (take (i + 1) c.args.packets.now) p c.loop-packet.known c.if-eq.known c.loop-packet.invariant more same (w.known-is ∙ w.in_ok-join_into.ensures.ok)
      | else-eq w ↦
          let other : (p.sender == c.args.number) ≡ false = search rules in
          knows_out c.args.number (take i c.args.packets.now) (take (i + 1) c.args.packets.now) p c.loop-packet.known c.if-eq.known c.loop-packet.invariant more other w.known-is
    ]

pub returns-clause-union : goal.returns-clause-union
returns-clause-union c = λ Ss are.
    let all : take c.loop-packet.packet-index c.args.packets.now ≡ c.args.packets.now = take_all c.loop-packet.packet-index c.args.packets.now (omega arith) in
    c.loop-packet.invariant ∙ ap (recovered c.args.number) all ∙ ap joined_all are ∙ joined_union Ss
