use Rattle.std.proofs.Common.{◌≡◌, ◌-◌, None}
use Rattle.fm_wire.specs.Formats.{records_at}
use Rattle.fm_wire.specs.inner.Decoding.{rest_of}
use Rattle.fm_wire.proofs.record_lists.rest_of_records.Given as goal

abbrev pub invariant-loop : goal.invariant-loop
invariant-loop g l =
    let read = records_at g.K.Ord.cmp g.K.Codec.format (g.V.VersionedCodec.format l.version) in
    rest_of (read (l.count - l.counter) l.last l.rest) ≡ rest_of (read l.count None l.bytes)
