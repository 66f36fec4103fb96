use Rattle.std.proofs.Common.{None}
use Rattle.std.proofs.lemmas.Result.{err_from_is_err_and}
use Rattle.fm_wire.specs.Formats.{records_at}
use Rattle.fm_wire.specs.inner.Decoding.{rest_of}
use Rattle.fm_wire.proofs.Walks.{walk_goes_on, walk_ends, walk_done}
use Rattle.fm_wire.proofs.record_lists.rest_of_records.Goals as goal

pub returns-in_err-record : goal.returns-in_err-record
returns-in_err-record g c =
    let total = rest_of (records_at g.K.Ord.cmp g.K.Codec.format (g.V.VersionedCodec.format c.args.version) c.args.count None c.args.bytes.now) in
    let p = err_from_is_err_and c.from_residual.result c.from_residual.ensures.1 in
    rw (p.1, p.2) (walk_ends g.K.Ord.cmp g.K.Codec.format (g.V.VersionedCodec.format c.args.version) c.args.count c.loop.counter c.loop.last c.loop.rest.now c.in_err-record.field-0.0 total c.loop-test.true c.in_err-record.ensures c.loop.invariant)

pub loop-preserved : goal.loop-preserved
loop-preserved g c =
    let total = rest_of (records_at g.K.Ord.cmp g.K.Codec.format (g.V.VersionedCodec.format c.args.version) c.args.count None c.args.bytes.now) in
    walk_goes_on g.K.Ord.cmp g.K.Codec.format (g.V.VersionedCodec.format c.args.version) c.args.count c.loop.counter c.loop.last c.loop.rest.now c.in_ok-record.record c.in_ok-record.after.now total c.loop-test.true c.in_ok-record.ensures c.loop.invariant

pub returns : goal.returns
returns g c =
    let total = rest_of (records_at g.K.Ord.cmp g.K.Codec.format (g.V.VersionedCodec.format c.args.version) c.args.count None c.args.bytes.now) in
    walk_done g.K.Ord.cmp g.K.Codec.format (g.V.VersionedCodec.format c.args.version) c.args.count c.loop.counter c.loop.last c.loop.rest.now total c.loop-test.false c.loop.invariant
