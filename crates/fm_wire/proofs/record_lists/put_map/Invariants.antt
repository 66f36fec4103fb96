use Rattle.std.proofs.Common.{◌≡◌, ◌++◌}
use Rattle.std.specs.List.{flat_map}
use Rattle.fm_wire.specs.Formats.{records}
use Rattle.fm_wire.specs.declared.version.Version.TheVariants.{Fdg2}
use Rattle.fm_wire.proofs.record_lists.put_map.Given as goal

-- what is written and the records that are left are what was there and all records
abbrev pub invariant-loop-key : goal.invariant-loop-key
invariant-loop-key g l =
    l.out.items ++ flat_map (λ e. g.K.Codec.format.spell e.0 ++ (g.V.VersionedCodec.format Fdg2).spell e.1) l.key-iterator
    ≡ l.fn.out.items ++ (records g.K.Ord.cmp g.K.Codec.format (g.V.VersionedCodec.format Fdg2)).spell l.map
