use Rattle.std.proofs.Common.{rules, arith}
use Rattle.std.proofs.lemmas.List.Sorted.{IsPartitionPoint-from_clause}
use Rattle.fm_certificate.proofs.Leaving.{is_below, parted, rest_none_below, rest_sum}
use Rattle.fm_certificate.proofs.outflow.first_from.Goals as goal

pub returns-clause-all : goal.returns-clause-all
returns-clause-all c =
    let point = IsPartitionPoint-from_clause (is_below c.args.node.now) c.args.units.now c.partition_point.result c.partition_point.ensures.partitioned (parted c.args.node.now c.args.units.now c.requires) (λ a r f called. search rules) in
    rest_sum c.args.node.now c.args.units.now c.partition_point.result c.partition_point.ensures.bound (λ j d lt. point.0 j d (omega arith) lt)

pub returns-clause-none_below : goal.returns-clause-none_below
returns-clause-none_below c =
    let point = IsPartitionPoint-from_clause (is_below c.args.node.now) c.args.units.now c.partition_point.result c.partition_point.ensures.partitioned (parted c.args.node.now c.args.units.now c.requires) (λ a r f called. search rules) in
    rest_none_below c.args.node.now c.args.units.now c.partition_point.result (λ j d le lt. point.1 j d le lt)
