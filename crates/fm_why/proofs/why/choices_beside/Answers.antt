use Rattle.std.proofs.Common.{◌≡◌, ◌∙◌, refl, sym, subst, ap, ℕ, ◌+◌, ◌≤◌, ◌<◌, ◌^◌, map, length, List, arith}
use Rattle.std.specs.Prelude.{IfSome, min, option_map, slice_get, take}
use Rattle.std.specs.List.{All, zip}
use Rattle.std.specs.List.Sorted.{IsPermutation}
use Rattle.fm_net.specs.declared.node.Node.TheVariants.{Unscheduled, Task}
use Rattle.fm_net.specs.Net.{Net, CanBeNet}
use Rattle.fm_net.specs.Network.{net_of}
use Rattle.fm_certificate.specs.Flows.{units_in, cost_of, IsLeast}
use Rattle.std.proofs.Math.Nat.{min-le_left}
use Rattle.std.proofs.lemmas.List.{length-take}
use Rattle.fm_why.specs.declared.reasons.TheConstants.{SHOWN}
use Rattle.fm_why.specs.declared.reasons.Choice.{Choice}
use Rattle.fm_why.specs.Running.{IsDearerOver}
use Rattle.fm_why.specs.inner.MachineWays.{IsOnlyRequest, machine_ways}
use Rattle.fm_why.specs.Reasons.{IsChoice}
use Rattle.fm_why.specs.Alternatives.{IsExampleFor}
use Rattle.fm_records.specs.Options.{or_else}
use Rattle.fm_certificate.specs.Certificates.{potential_in, IsCertified}
use Rattle.fm_why.specs.Bounds.{gap_at, IsBound}
use Rattle.fm_why.proofs.Roomy.{only_request, ways_are_roomy}
use Rattle.fm_why.proofs.Shown.{zip_take}
use Rattle.fm_why.proofs.Pricing.{each_roomy, first_within, fits_all, stays_least}
use Rattle.fm_why.proofs.why.choices_beside.Goals as goal

pub choices_of-requires-clause-only : goal.choices_of-requires-clause-only
choices_of-requires-clause-only c =
    subst (λ (n : Net). IsOnlyRequest n c.args.task c.args.spec.request) (sym c.requires.network) (only_request c.args.knowledge.now c.args.task c.args.spec c.requires.live c.requires.free)

pub returns : goal.returns
returns c =
    let k = c.args.knowledge.now in
    let is : c.args.network.now ≡ net_of k = c.requires.network in
    let schedule = c.args.schedule.now in
    let spec = c.args.spec in
    let price : c.price_of-price.result ≡ option_map (λ (e : Choice). c.args.job.wait + e.dearer) (slice_get c.in_ok-machines.machines.items 0) =
    c.price_of-price.ensures ∙ ap (λ (es : List Choice). option_map (λ (e : Choice). c.args.job.wait + e.dearer) (slice_get es 0)) c.as_slice-listed.ensures.value in
    let items = c.in_ok-machines.machines.items in
    let first : c.first_of-shown.result.now ≡ take SHOWN items = c.first_of-shown.ensures ∙ ap (λ (es : List Choice). take SHOWN es) c.as_slice-listed.ensures.value in
    let each : All (IsChoice c.args.network.now schedule.least c.args.task spec.request) items = λ i d lt. (c.in_ok-machines.ensures.each i d lt).holds in
    let shown : length c.in_ok-examples.examples.items ≡ min SHOWN (length items) = c.in_ok-examples.ensures.all ∙ ap length first ∙ length-take SHOWN items in
    record {
      request = refl;
      wait = rw c.requires.job refl;
      found = record {
        flow = schedule.flow;
        potentials = schedule.potentials;
        certified = subst (λ (n : Net). IsCertified n schedule.flow schedule.potentials) is c.requires.schedule.certified;
        sends = refl;
        units = units_in schedule.flow;
        least = subst (λ (n : Net). IsLeast n (units_in schedule.flow)) is c.requires.schedule.least;
        cost = subst (λ (n : Net). schedule.least ≡ cost_of n (units_in schedule.flow)) is c.requires.schedule.cost;
        waits = c.has_units-waits.ensures;
      };
      waiting = subst (λ (n : Net). IsDearerOver n schedule.least (Task c.args.task) (Unscheduled spec.job) c.more_over.result) is c.more_over.ensures.dearer;
      each = subst (λ (n : Net). All (IsChoice n schedule.least c.args.task spec.request) items) is each;
      bounds = subst (λ (n : Net). All (IsBound n (units_in schedule.flow) (potential_in schedule.potentials) c.args.task spec.request) items) is (λ i d lt. (c.in_ok-machines.ensures.each i d lt).bound);
      waits_bound = c.more_over.ensures.is ∙ ap (λ (n : Net). or_else 0 (gap_at n (units_in schedule.flow) (potential_in schedule.potentials) (Task c.args.task) (Unscheduled spec.job))) is;
      all =
          let ways = subst (λ (n : Net). IsPermutation (machine_ways k n c.args.task spec.request) (map (λ (e : Choice). e.machine) c.in_ok-machines.machines.items)) is c.in_ok-machines.ensures.all in
          subst (λ (ms : List ℕ). IsPermutation ms (map (λ (e : Choice). e.machine) c.in_ok-machines.machines.items)) (ways_are_roomy k c.args.task spec c.requires.live c.requires.free) ways;
      cheapest_first = c.in_ok-machines.ensures.cheapest_first;
      known = c.len.ensures ∙ ap length c.machines.ensures;
      price = price;
      examples =
          let found = c.in_ok-examples.examples.items in
          let at = λ (n : Net) (es : List Choice). All (IsExampleFor n (units_in schedule.flow) c.args.task) (zip es found) in
          let each = subst (at (net_of k)) first (subst (λ (n : Net). at n c.first_of-shown.result.now) is c.in_ok-examples.ensures.each) in
          subst (All (IsExampleFor (net_of k) (units_in schedule.flow) c.args.task)) (zip_take SHOWN items found (omega (arith, shown, min-le_left SHOWN (length items)))) each;
      shown = shown;
      remedies = c.in_ok-remedies.ensures.each;
      few = c.in_ok-remedies.ensures.few;
      one_of_each = c.in_ok-remedies.ensures.one_of_each;
      only_waiting = c.in_ok-remedies.ensures.only_waiting;
      stays = λ more within.
          let first = first_within c.args.job.wait more (slice_get items 0) (subst (λ o. IfSome o (λ price. c.args.job.wait + more ≤ price)) price within) in
          let can = subst CanBeNet is c.known.ensures in
          let each = subst (λ (n : Net). All (IsChoice n schedule.least c.args.task spec.request) items) is each in
          let ways = subst (λ (n : Net). IsPermutation (machine_ways k n c.args.task spec.request) (map (λ (e : Choice). e.machine) items)) is c.in_ok-machines.ensures.all in
          let all = subst (λ (ms : List ℕ). IsPermutation ms (map (λ (e : Choice). e.machine) items)) (ways_are_roomy k c.args.task spec c.requires.live c.requires.free) ways in
          stays_least k can c.args.task spec c.args.job c.requires.live c.requires.job c.requires.free (units_in schedule.flow) schedule.least more
          (subst (λ (n : Net). IsLeast n (units_in schedule.flow)) is c.requires.schedule.least)
          (subst (λ (n : Net). schedule.least ≡ cost_of n (units_in schedule.flow)) is c.requires.schedule.cost)
          (each_roomy k (net_of k) schedule.least c.args.task spec.request more items each all c.in_ok-machines.ensures.cheapest_first first);
    }

pub price_of-price-requires : goal.price_of-price-requires
price_of-price-requires c = subst (All (λ (e : Choice). e.dearer < 2 ^ 111)) (sym c.as_slice-listed.ensures.value) (fits_all c.args.network.now c.args.schedule.now.least c.args.task c.args.spec.request c.in_ok-machines.machines.items (λ i d lt. (c.in_ok-machines.ensures.each i d lt).holds))

pub examples_on-requires : goal.examples_on-requires
examples_on-requires c = (c.args.knowledge.now, c.law_can_be.ensures, c.requires.network)
