-- A world is reached by accepted steps, and stays so.
use Rattle.std.proofs.Common.{◌≡◌, ℕ, List, [], ◌∷◌, ◌++◌, map, None, Result, Ok, Err, OnOk, OnErr, refl, sym, ap, subst}
use Rattle.fm_coord.specs.Numbers.{AreDistinct}
use Rattle.fm_coord.specs.States.{WithKeeper}
use Rattle.fm_records.specs.declared.refusal.Refusal.{Refusal}
use Rattle.fm_world.specs.declared.step.Step.{Step}
use Rattle.fm_world.specs.Worlds.{WorldOfSets, opening_world, cause_of, step_of, run_of}
use Rattle.fm_world.specs.Represents.{Kept, number_of, opening_of, WorldRepresents, IsReached}
use Rattle.fm_world.proofs.Runs.{run_more, accept_more}

numbers_of : {N : Type 0} (cs : List (WithKeeper N)) → map number_of cs ≡ map (λ (o : ℕ × ℕ). o.0) (map opening_of cs)
numbers_of [] = refl
numbers_of (c ∷ cs) = ap (λ ns. c.state.number ∷ ns) (numbers_of cs)

-- if nothing has happened
pub reached_at_first : {N : Type 0} (cs : List (WithKeeper N)) (k : Kept) → AreDistinct (map number_of cs) → WorldRepresents k (opening_world (map opening_of cs)) → IsReached k
reached_at_first cs k distinct stands =
    record {
      openings = map opening_of cs;
      distinct = subst AreDistinct (numbers_of cs) distinct;
      steps = [];
      accepted = tt;
      stands = stands;
    }

pub reached_still : (k l : Kept) → l ≡ k → IsReached k → IsReached l
reached_still k l same r = subst IsReached (sym same) r

-- after a step that was accepted, and after one that was refused and changed nothing
pub reached_by : {T : Type 0} (result : Result T Refusal) (k l : Kept) (s : Step) → IsReached k
    → ((w : WorldOfSets) → WorldRepresents k w → OnOk result (WorldRepresents l (step_of w s)))
    → ((w : WorldOfSets) → WorldRepresents k w → OnOk result (cause_of w s ≡ None))
    → OnErr result (l ≡ k) → IsReached l
reached_by (Ok t) k l s r stands accepted same =
    let start = opening_world r.openings in
    let w = run_of start r.steps in
    record {
      openings = r.openings;
      distinct = r.distinct;
      steps = r.steps ++ s ∷ [];
      accepted = accept_more start r.steps s r.accepted (accepted w r.stands);
      stands = subst (λ v. WorldRepresents l v) (sym (run_more start r.steps s)) (stands w r.stands);
    }
reached_by (Err e) k l s r stands accepted same = reached_still k l same r
