use Rattle.std.proofs.Common.{ℕ, List}
use Rattle.std.specs.Prelude.{ℤ}
use Rattle.fm_net.specs.declared.node.Node.{Node}
use Rattle.fm_net.specs.Net.{Net, CanBeNet}
use Rattle.fm_certificate.specs.Flows.{Units, units_in, IsLeast}
use Rattle.fm_certificate.specs.Certificates.{potential_in, IsCertified, MeetsSlackness}
use Rattle.fm_certificate.proofs.Dearer.{gains_none, wastes_none}
use Rattle.fm_certificate.proofs.laws.law_every_least.Goals as goal

slackness : (net : Net) (flow : List ((Node × Node) × ℕ)) (potentials : List (Node × ℤ)) (others : Units) → CanBeNet net → IsCertified net flow potentials → IsLeast net others → MeetsSlackness net others potentials
slackness net flow potentials others can cert least =
    let no_more = least.least (units_in flow) cert.feasible in
    record {
      no_gain = λ from to arc there below. gains_none net (units_in flow) others (potential_in potentials) can cert.feasible least.feasible cert.no_gain cert.no_waste from to arc there no_more below;
      no_waste = λ from to arc there some. wastes_none net (units_in flow) others (potential_in potentials) can cert.feasible least.feasible cert.no_gain cert.no_waste from to arc there no_more some;
    }

pub returns-clause-slackness : goal.returns-clause-slackness
returns-clause-slackness c = slackness

pub returns-clause-certified : goal.returns-clause-certified
returns-clause-certified c = λ net flow others potentials can cert least keys.
    let fits = slackness net flow potentials (units_in others) can cert least in
    record {
      feasible = least.feasible;
      arcs = keys;
      nodes = cert.nodes;
      small = cert.small;
      no_gain = fits.no_gain;
      no_waste = fits.no_waste;
    }
