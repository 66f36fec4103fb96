use Rattle.fm_world.proofs.Maximal.{stuck_maximal}
use Rattle.fm_world.proofs.Running.{whole_runs}
use Rattle.fm_world.proofs.Visits.{whole_then, none_whole}
use Rattle.fm_world.proofs.laws.law_listings.Goals as goal

pub returns-clause-maximal : goal.returns-clause-maximal
returns-clause-maximal c = λ ss ms stuck. stuck_maximal ss ms stuck

pub returns-clause-none_whole : goal.returns-clause-none_whole
returns-clause-none_whole c = λ ss ms other distinct stuck whole. none_whole ss ms other distinct stuck whole

pub returns-clause-whole : goal.returns-clause-whole
returns-clause-whole c = λ ss ms listing none. whole_then ss ms listing none

pub returns-clause-accepted : goal.returns-clause-accepted
returns-clause-accepted c = λ ss ms is distinct h. (whole_runs ss ms is distinct h).accepted

pub returns-clause-stands : goal.returns-clause-stands
returns-clause-stands c = λ ss ms is distinct h. let r = whole_runs ss ms is distinct h in record { coordinators = r.stands; packets = r.packets }
