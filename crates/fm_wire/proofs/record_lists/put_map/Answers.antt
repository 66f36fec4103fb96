use Rattle.std.proofs.Common.{◌++◌, refl, ◌∙◌}
use Rattle.std.specs.Int.{w64}
use Rattle.fm_wire.proofs.Walks.{begun, wrote, written}
use Rattle.fm_wire.specs.declared.version.Version.TheVariants.{Fdg2}
use Rattle.fm_wire.proofs.record_lists.put_map.Goals as goal

pub loop-key-init : goal.loop-key-init
loop-key-init g c =
    begun w64 (λ e. g.K.Codec.format.spell e.0 ++ (g.V.VersionedCodec.format Fdg2).spell e.1) c.args.out.now.items c.put_u64.new.out.items c.len.result c.args.map.now c.into_iter-key-iterator.result
    c.in_ok-put_u64.ensures c.len.ensures (c.into_iter-key-iterator.ensures.into_iter_gives ∙ c.iter-key-items.ensures.rest)

pub loop-key-preserved : goal.loop-key-preserved
loop-key-preserved g c =
    wrote (λ e. g.K.Codec.format.spell e.0 ++ (g.V.VersionedCodec.format Fdg2).spell e.1) c.loop-key.out.items c.put.new.out.items c.put-in-loop-key.new.out.items
    (g.K.Codec.format.spell c.in-Some.key.now) ((g.V.VersionedCodec.format Fdg2).spell c.in-Some.value.now) (c.in-Some.key.now, c.in-Some.value.now)
    c.loop-key.key-iterator c.next.new.self _
    c.in_ok-put.ensures c.in_ok-put-2.ensures refl c.in-Some.ensures.steps c.loop-key.invariant

pub returns-clause-ok : goal.returns-clause-ok
returns-clause-ok g c = written (λ e. g.K.Codec.format.spell e.0 ++ (g.V.VersionedCodec.format Fdg2).spell e.1) c.loop-key.out.items _ c.loop-key.key-iterator c.in-None.ensures.steps.0 c.loop-key.invariant
