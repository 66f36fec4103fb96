-- Relaxations put behind each other, in whatever order.
use Rattle.std.proofs.Common.{◌≡◌, ◌∙◌, ap, Option, refl, sym, subst, ℕ, ◌≤◌, ◌+◌, ◌*◌, ◌^◌, length, arith}
use Rattle.std.specs.Prelude.{ℤ}
use Rattle.std.proofs.lemmas.Int.{ints}
use Rattle.fm_cycles.specs.Walks.{Steps}
use Rattle.fm_cycles.specs.inner.Labels.{AreLabels, IsRelaxed, IsCorrected, IsCorrectedWithin, costs_of, parents_of, parents_in}
use Rattle.fm_cycles.specs.Found.{costs_in}
use Rattle.std.specs.declared.vec.Vec.{Vec}
use Rattle.std.specs.declared.alloc.Global.{Global}
use Rattle.fm_cycles.specs.declared.indexed_arcs.ResidualArc.{ResidualArc}
use Rattle.fm_cycles.specs.declared.labels.Labels.{Labels}

module _ (g : Steps ResidualArc) where
  -- nothing is relaxed
  pub same : (labels : Labels) → IsCorrected g 0 labels labels
  same labels = record {
    costs = refl;
    parents = refl;
    labels = λ first are. are;
    falls = λ v. omega (arith, ints);
    low = λ bound all v. let h = all v in omega (arith, ints);
  }

  -- which node fell is of no account
  pub moved : (turns : ℕ) (old now mid : Labels) → IsCorrected g turns old now → mid.costs ≡ now.costs → mid.parents ≡ now.parents → IsCorrected g turns old mid
  moved turns old now mid was costs parents = record {
    costs = ap (λ (cs : Vec ℤ Global). length cs.items) costs ∙ was.costs;
    parents = ap (λ (ps : Vec (Option ResidualArc) Global). length ps.items) parents ∙ was.parents;
    labels = λ first are. subst (λ (cs : Vec ℤ Global). AreLabels g first (costs_in cs.items) (parents_of mid)) (sym costs) (subst (λ (ps : Vec (Option ResidualArc) Global). AreLabels g first (costs_of now) (parents_in ps.items)) (sym parents) (was.labels first are));
    falls = λ v. let one = was.falls v in let e = ap (λ (cs : Vec ℤ Global). costs_in cs.items v) costs in omega (arith, ints);
    low = λ bound all v. let one = was.low bound all v in let e = ap (λ (cs : Vec ℤ Global). costs_in cs.items v) costs in omega (arith, ints);
  }

  -- one arc more
  pub one_more : (turns place : ℕ) (old mid new : Labels) → IsCorrected g turns old mid → IsRelaxed g place mid new → length new.costs.items ≡ length mid.costs.items → length new.parents.items ≡ length mid.parents.items → IsCorrected g (turns + 1) old new
  one_more turns place old mid new was is costs parents = record {
    costs = costs ∙ was.costs;
    parents = parents ∙ was.parents;
    labels = λ first are. is.labels first (was.labels first are);
    falls = λ v. let one = was.falls v in let two = is.falls v in omega (arith, ints);
    low = λ bound all v. let one = is.low (bound + turns * 2 ^ 32) (was.low bound all) v in omega (arith, ints);
  }

  -- no more turns than were counted
  pub longer : (turns more : ℕ) (old new : Labels) → turns ≤ more → IsCorrected g turns old new → IsCorrected g more old new
  longer turns more old new le was = record {
    costs = was.costs;
    parents = was.parents;
    labels = was.labels;
    falls = was.falls;
    low = λ bound all v. let one = was.low bound all v in omega (arith, ints);
  }

  -- some turns and then some
  pub joined : (turns more : ℕ) (old mid new : Labels) → IsCorrected g turns old mid → IsCorrected g more mid new → IsCorrected g (turns + more) old new
  joined turns more old mid new was then = record {
    costs = then.costs ∙ was.costs;
    parents = then.parents ∙ was.parents;
    labels = λ first are. then.labels first (was.labels first are);
    falls = λ v. let one = was.falls v in let two = then.falls v in omega (arith, ints);
    low = λ bound all v. let one = then.low (bound + turns * 2 ^ 32) (was.low bound all) v in omega (arith, ints);
  }

  pub joined_within : (most more total : ℕ) (old mid new last : Labels) → IsCorrectedWithin g most old mid → IsCorrectedWithin g more mid new → most + more ≤ total → last.costs ≡ new.costs → last.parents ≡ new.parents → IsCorrectedWithin g total old last
  joined_within most more total old mid new last was then fits costs parents = (
    was.0 + then.0,
    (let one = was.1 in let two = then.1 in omega arith),
    moved (was.0 + then.0) old new last (joined was.0 then.0 old mid new was.2 then.2) costs parents,
  )
