use Rattle.std.proofs.Common.{◌≡◌, ◌-◌, None}
use Rattle.fm_wire.specs.Formats.{records_at}
use Rattle.fm_wire.proofs.Walks.{with_front, IsEnd}
use Rattle.fm_wire.proofs.record_lists.read_records.Given as goal

abbrev pub invariant-loop : goal.invariant-loop
invariant-loop g l =
    let read = records_at g.K.Ord.cmp g.K.Codec.format (g.V.VersionedCodec.format l.version) in
    record {
      so_far : with_front l.map (read (l.count - l.counter) l.last l.rest) ≡ read l.count None l.bytes;
      end : IsEnd g.K.Ord.cmp g.met.K.Ord.total l.last l.map;
    }
