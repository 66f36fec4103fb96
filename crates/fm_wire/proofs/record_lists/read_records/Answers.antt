use Rattle.std.proofs.Common.{◌≡◌, ◌∷◌, ◌++◌, [], None, ◌∙◌}
use Rattle.std.proofs.lemmas.Result.{err_from_is_err_and}
use Rattle.fm_wire.specs.Formats.{records_at}
use Rattle.fm_wire.proofs.Walks.{read_goes_on, read_ends, read_begins, read_done, end_begins, end_next, key_after, put_above}
use Rattle.fm_wire.proofs.record_lists.read_records.Goals as goal

pub loop-init : goal.loop-init
loop-init g c = record {
  so_far = read_begins g.K.Ord.cmp g.K.Codec.format (g.V.VersionedCodec.format c.args.version) c.args.map.now c.args.count None c.args.bytes.now c.requires;
  end = end_begins g.K.Ord.cmp g.met.K.Ord.total None c.args.map.now c.requires;
}

pub returns-in_err-key : goal.returns-in_err-key
returns-in_err-key g c =
    let total = records_at g.K.Ord.cmp g.K.Codec.format (g.V.VersionedCodec.format c.args.version) c.args.count None c.args.bytes.now in
    let p = err_from_is_err_and c.from_residual.result c.from_residual.ensures.1 in
    rw (p.1, p.2) (read_ends g.K.Ord.cmp g.K.Codec.format (g.V.VersionedCodec.format c.args.version) c.loop.map c.args.count c.loop.counter c.loop.last c.loop.rest.now c.in_err-key.field-0.0 total c.loop-test.true c.in_err-key.ensures c.loop.invariant.so_far)

pub loop-preserved : goal.loop-preserved
loop-preserved g c =
    let total = records_at g.K.Ord.cmp g.K.Codec.format (g.V.VersionedCodec.format c.args.version) c.args.count None c.args.bytes.now in
    let key = c.in_ok-key.key in
    let value = c.in_ok-key.value in
    let after = key_after g.K.Ord.cmp g.K.Codec.format (g.V.VersionedCodec.format c.args.version) c.loop.last c.loop.rest.now (key, value) c.in_ok-key.after.now c.in_ok-key.ensures in
    let added : c.put.new.self ≡ c.loop.map ++ (key, value) ∷ [] = c.in_ok-put.ensures.ok ∙ put_above g.K.Ord.cmp g.met.K.Ord.total g.V.Join.join key value c.loop.map (c.loop.invariant.end key after) in
    rw added (record {
      so_far = read_goes_on g.K.Ord.cmp g.K.Codec.format (g.V.VersionedCodec.format c.args.version) c.loop.map c.args.count c.loop.counter c.loop.last c.loop.rest.now (key, value) c.in_ok-key.after.now total c.loop-test.true c.in_ok-key.ensures c.loop.invariant.so_far;
      end = end_next g.K.Ord.cmp g.met.K.Ord.total c.loop.last key value c.loop.map c.loop.invariant.end after;
    })

pub returns : goal.returns
returns g c =
    let total = records_at g.K.Ord.cmp g.K.Codec.format (g.V.VersionedCodec.format c.args.version) c.args.count None c.args.bytes.now in
    read_done g.K.Ord.cmp g.K.Codec.format (g.V.VersionedCodec.format c.args.version) c.loop.map c.args.count c.loop.counter c.loop.last c.loop.rest.now total c.loop-test.false c.loop.invariant.so_far
