use Rattle.std.proofs.Common.{◌+◌, ◌-◌, ◌/◌, arith}
use Rattle.fm_delta.proofs.GroupLaws.{split_between}
use Rattle.fm_delta.proofs.Joined.{parts}
use Rattle.fm_delta.proofs.buffer.+joined_between.Goals as goal

pub returns : goal.returns
returns t c =
    let items = c.args.deltas.now.items in
    let whole = split_between items c.args.from (c.args.from + (c.args.to - c.args.from) / 2) c.args.to (omega arith) (omega arith) in
    parts c.joined.result _ _ _ _ _ c.in_ok-left.ensures c.in_ok-right.ensures whole c.joined.ensures
