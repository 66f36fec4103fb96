use Rattle.std.proofs.Common.{rules, ◌≡◌, ◌∙◌, ◌++◌, ℕ, List, length, take, drop, map, ap, sym, arith}
use Rattle.std.proofs.Math.ListN.{replicate}
use Rattle.std.proofs.lemmas.List.{length-map, take-append-le, take_all}
use Rattle.fm_world.specs.Represents.{state_of}
use Rattle.fm_world.specs.inner.Sweeps.{IsSwept, AreStopped, left_at}
use Rattle.fm_world.proofs.Visits.{swept_first, halts}
use Rattle.fm_world.proofs.sweeping.swept.Goals as goal

first_ones : (n : ℕ) (xs ys : List ℕ) → length xs ≡ n → take n (xs ++ ys) ≡ xs
first_ones n xs ys is = take-append-le n xs ys (omega arith) ∙ take_all n xs (omega arith)

pub sweep_all-requires-clause-swept : goal.sweep_all-requires-clause-swept
sweep_all-requires-clause-swept g c =
    let ss = map state_of c.args.coordinators.now in
    let zeros : c.as_mut_slice.result.now ≡ replicate (length c.args.coordinators.now) 0 = search rules in
    let many : length c.args.coordinators.now ≡ length ss = sym (length-map c.args.coordinators.now state_of) in
    swept_first ss c.as_mut_slice.result.now c.new-gathered.result.steps.items c.new-gathered.result.packets (zeros ∙ ap (λ n. replicate n 0) many) c.new-gathered.ensures.steps c.new-gathered.ensures.packets

pub returns : goal.returns
returns g c =
    let ss = map state_of c.args.coordinators.now in
    let places = c.sweep_all.new.places in
    let gathered = c.sweep_all.new.gathered in
    let swept : IsSwept ss places gathered.steps.items gathered.packets = c.in_ok-sweep_all.ensures.swept in
    let stopped : AreStopped gathered.packets ss places = c.in_ok-sweep_all.ensures.stopped in
    let many : length places ≡ c.in_ok-places.places.len = omega (arith, c.as_mut_slice.ensures.len, c.sweep_all.auto.places) in
    let same : c.as_slice.result.now ≡ places = ◌∙◌ {A = List ℕ} c.as_slice.ensures.value (first_ones c.in_ok-places.places.len places (drop (length places) c.in_ok-places.places.items) many) in
    let left : c.add_left.new.left.items ≡ left_at ss places = c.in_ok-add_left.ensures ∙ (λ i. c.new-left.ensures.items i ++ left_at ss (same i)) in
    halts ss places gathered.steps.items gathered.packets c.add_left.new.left.items swept stopped left
