use Rattle.std.proofs.Common.{◌≡◌, ◌<◌, ◌+◌, ◌^◌, true, false, length, arith}
use Rattle.fm_service.specs.OwnNews.{count_from}
use Rattle.fm_service.specs.inner.OwnRuns.{added_by}
use Rattle.fm_service.proofs.OwnDeltas.{counted_within}
use Rattle.fm_service.proofs.own_news.first_run.Goals as goal

pub overflow_add-from : goal.overflow_add-from
overflow_add-from c =
    let ds = added_by c.args.history.now in
    let many : length ds ≡ c.args.end = c.requires in
    let within : c.args.mark + count_from false c.args.mark ds < 2 ^ 64 = counted_within false c.args.mark (2 ^ 64) ds (search arith) (search arith) in
    let is : c.count_from.result ≡ count_from false c.args.mark ds = c.count_from.ensures in
    search arith

pub overflow_add-to : goal.overflow_add-to
overflow_add-to c =
    let ds = added_by c.args.history.now in
    let many : length ds ≡ c.args.end = c.requires in
    let from = c.args.mark + c.count_from.result in
    let first : c.args.mark + count_from false c.args.mark ds < 2 ^ 64 = counted_within false c.args.mark (2 ^ 64) ds (search arith) (search arith) in
    let counted : c.count_from.result ≡ count_from false c.args.mark ds = c.count_from.ensures in
    let low : from < 2 ^ 64 = search arith in
    let within : from + count_from true from ds < 2 ^ 64 = counted_within true from (2 ^ 64) ds low (search arith) in
    let is : c.count_from-2.result ≡ count_from true from ds = c.count_from-2.ensures in
    search arith
