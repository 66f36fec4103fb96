use Rattle.std.proofs.Common.{◌≡◌, ◌∙◌, ◌<◌, ◌^◌, ℕ, List, ap, length, rules}
use Rattle.std.specs.Prelude.{slice_index}
use Rattle.fm_cycles.specs.Units.{inflow_at}
use Rattle.fm_indexed.specs.Unscheduled.{unit_on_job_arcs}
use Rattle.fm_indexed.proofs.Unscheduling.{drained}
use Rattle.fm_indexed.proofs.unscheduled.unscheduled.Goals as goal

pub returns : goal.returns
returns c =
    let arcs = c.args.numbered.now.arcs.items in
    let places = c.args.numbered.now.places in
    let first : c.deref.result.now ≡ c.in_ok-left.left.items = search rules in
    let second : c.deref-2.result.now ≡ c.in_ok-entered.entered.items = search rules in
    let few : length c.args.numbered.now.arcs.items < 2 ^ 63 = search rules in
    let sums : (v : ℕ) → v < places.end → slice_index c.deref-2.result.now v ≡ inflow_at arcs (unit_on_job_arcs places arcs) v =
    λ v less. ap (λ (es : List ℕ). slice_index es v) second ∙ c.in_ok-entered.ensures.sums v less ∙ ap (λ (us : List ℕ). inflow_at arcs us v) (first ∙ c.in_ok-left.ensures) in
    c.in_ok-units.ensures ∙ drained places arcs places.end c.deref-2.result.now c.args.numbered.now.formed.ends few sums
