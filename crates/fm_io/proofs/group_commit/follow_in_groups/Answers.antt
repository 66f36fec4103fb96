use Rattle.std.proofs.Common.{◌≤◌, arith}
use Rattle.fm_io.specs.Runs.{most_counted}
use Rattle.fm_io.proofs.GroupsInTurn.{groups_first, too_many, settled, unsettled, at_end, cut_off, goes_on}
use Rattle.fm_io.proofs.group_commit.follow_in_groups.Goals as goal

pub loop-count-init : goal.loop-count-init
loop-count-init g c = groups_first g.D.Responder.answers g.D.Committer.commits g.D.Committer.fails _ _ _ _

pub returns-in_err-settle : goal.returns-in_err-settle
returns-in_err-settle g c =
    unsettled g.D.Responder.answers g.D.Committer.commits g.D.Committer.fails _ _ c.loop-count.count _ _ _ _ _ _ c.loop-count.invariant _ _ _ _ _ _ _ _ _
    c.answer_group-group.ensures c.from_residual.result c.in_err-settle.field-0.0 c.from_residual.ensures.1 c.in_err-settle.ensures

pub returns-in-AtEnd : goal.returns-in-AtEnd
returns-in-AtEnd g c =
    let so = settled g.D.Responder.answers g.D.Committer.commits g.D.Committer.fails _ _ c.loop-count.count _ _ _ _ _ _ c.loop-count.invariant _ _ _ _ _ _ _ _ c.in_ok-settle.field-0 _
    c.answer_group-group.ensures c.in_ok-settle.ensures in
    at_end g.D.Responder.answers g.D.Committer.commits g.D.Committer.fails _ _ c.loop-count.count _ _ _ _ _ _ _ _ so tt c.in-AtEnd.is

pub returns-in-CutOff : goal.returns-in-CutOff
returns-in-CutOff g c =
    let so = settled g.D.Responder.answers g.D.Committer.commits g.D.Committer.fails _ _ c.loop-count.count _ _ _ _ _ _ c.loop-count.invariant _ _ _ _ _ _ _ _ c.in_ok-settle.field-0 _
    c.answer_group-group.ensures c.in_ok-settle.ensures in
    cut_off g.D.Responder.answers g.D.Committer.commits g.D.Committer.fails _ _ c.loop-count.count _ _ _ _ _ _ _ _ so c.in-CutOff.is

pub loop-count-preserved : goal.loop-count-preserved
loop-count-preserved g c =
    let so = settled g.D.Responder.answers g.D.Committer.commits g.D.Committer.fails _ _ c.loop-count.count _ _ _ _ _ _ c.loop-count.invariant _ _ _ _ _ _ _ _ c.in_ok-settle.field-0 _
    c.answer_group-group.ensures c.in_ok-settle.ensures in
    goes_on g.D.Responder.answers g.D.Committer.commits g.D.Committer.fails _ _ c.loop-count.count _ _ _ _ _ _ _ _ so c.in-Open.is

pub returns : goal.returns
returns g c =
    let many : most_counted ≤ c.loop-count.count = omega (arith, c.loop-count-test.false) in
    too_many g.D.Responder.answers g.D.Committer.commits g.D.Committer.fails _ _ c.loop-count.count _ _ _ _ _ _ c.loop-count.invariant _ many
