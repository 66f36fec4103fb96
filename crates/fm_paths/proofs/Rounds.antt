-- Ways within rooms and slots, at fair prices and in turn, are a plan of a least flow; and that all tasks are left is always within.
use Rattle.std.proofs.Common.{◌≡◌, ◌∙◌, sym, refl, ℕ, Bool, true, false, cond, ◌==◌, Option, Some, None, option_map, count_by, eq-eqb, arith}
use Rattle.fm_records.specs.declared.records.SpecReg.{SpecReg}
use Rattle.fm_records.specs.Ranges.{CanBe}
use Rattle.fm_records.specs.Options.{or_else, passes}
use Rattle.fm_records.specs.Table.{Table, TaskValue}
use Rattle.fm_records.specs.Facts.{live_spec, is_live}
use Rattle.fm_net.specs.Net.{CanBeNet}
use Rattle.fm_net.specs.Network.{net_of}
use Rattle.fm_certificate.proofs.Sums.{sum_none}
use Rattle.fm_round.specs.Schedules.{IsPlanOf}
use Rattle.fm_paths.specs.TaskPaths.{Way, units_of, ways_of, goes_by, takes_slot, Fit}
use Rattle.fm_paths.specs.Prices.{AreFair}
use Rattle.fm_paths.specs.Plans.{plan_of_ways, all_at_jobs, InTurn}
use Rattle.fm_paths.proofs.Stands.{sum_ways}
use Rattle.fm_paths.proofs.Cheapest.{cheapest_is_least}
use Rattle.fm_paths.proofs.Fair.{fair_is_cheapest}
use Rattle.fm_paths.proofs.Going.{preempts_are}
use Rattle.fm_paths.proofs.Planned.{places_are}

pub is_plan : (k : Table) (way : ℕ → Way) (price offer : ℕ → ℕ) → CanBe k → CanBeNet (net_of k) → Fit k way → AreFair k way price offer → InTurn k way → IsPlanOf k (plan_of_ways k way)
is_plan k way price offer can_be can fit fair in_turn =
    let places = places_are k way can_be can fit in_turn in
    let preempts = preempts_are k way can_be can fit.may in
    record {
      units = units_of (ways_of k way);
      least = cheapest_is_least k way price offer can_be can fit (fair_is_cheapest k way price offer fit.may fair);
      planned = λ i. record { places = sym places i; preempts = sym preempts i };
    }

own_job : (o : Option SpecReg) → passes (λ (s : SpecReg). true) o ≡ true → passes (λ (s : SpecReg). s.job == or_else 0 (option_map (λ (x : SpecReg). x.job) o)) o ≡ true
own_job None e = absurd (let no : ⊥ = cc in no)
own_job (Some s) e = eq-eqb s.job s.job refl

none_here : (b : Bool) → cond {A = ℕ} b (cond false 1 0) 0 ≡ 0
none_here true = refl
none_here false = refl

pub left_fit : (k : Table) → Fit k (all_at_jobs k)
left_fit k = record {
  may = λ t live. own_job (live_spec k t) live;
  room = λ r m v arc.
      let none : count_by (goes_by r m) (ways_of k (all_at_jobs k)) ≡ 0 = sum_ways k (all_at_jobs k) (λ w. cond (goes_by r m w) 1 0) ∙ sum_none (λ (e : ℕ × TaskValue). cond (is_live k e.0) (cond false 1 0) 0) k.tasks (λ e _. none_here (is_live k e.0)) in
      omega arith;
  slots = λ m state stands.
      let none : count_by (takes_slot m) (ways_of k (all_at_jobs k)) ≡ 0 = sum_ways k (all_at_jobs k) (λ w. cond (takes_slot m w) 1 0) ∙ sum_none (λ (e : ℕ × TaskValue). cond (is_live k e.0) (cond false 1 0) 0) k.tasks (λ e _. none_here (is_live k e.0)) in
      omega arith;
}
