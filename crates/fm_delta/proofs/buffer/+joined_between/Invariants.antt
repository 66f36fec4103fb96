use Rattle.std.proofs.Common.{◌-◌}
use Rattle.fm_delta.proofs.buffer.+joined_between.Given as goal

abbrev pub decreases-joined_between : goal.decreases-joined_between
decreases-joined_between l = l.to - l.from
