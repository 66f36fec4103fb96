use Rattle.std.proofs.Common.{◌≡◌, subst}
use Rattle.fm_net.specs.Net.{Net}
use Rattle.fm_certificate.specs.Flows.{units_in, cost_of, IsLeast}
use Rattle.fm_why.specs.Running.{RunsOn}
use Rattle.fm_why.proofs.changes.run_by.Goals as goal

pub returns : goal.returns
returns c =
    let units = units_in c.args.flow.now in
    record {
      units = units;
      least = subst (λ (n : Net). IsLeast n units) c.requires.network c.requires.least;
      runs = subst (λ (n : Net). RunsOn n units c.args.aim.now.task c.in_ok-place.place) c.requires.network c.in_ok-place.ensures;
      cost_is = subst (λ (n : Net). c.cost.result ≡ cost_of n units) c.requires.network c.cost.ensures;
    }
