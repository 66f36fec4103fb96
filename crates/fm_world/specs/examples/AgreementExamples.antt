-- Small worlds, computed.
use Rattle.std.specs.Prelude.{◌≡◌, ℕ, List, [], ◌∷◌, Option, Some, false, option_map}
use Rattle.std.proofs.Common.{refl}
use Rattle.fm_records.specs.declared.ops.Op.{Op}
use Rattle.fm_records.specs.declared.ops.Op.TheVariants as op
use Rattle.fm_records.specs.declared.refusal.Refusal.TheVariants.{NoCoordinator, NoPacket, HistoryFull, BadInterval, Trimmed}
use Rattle.fm_coord.specs.declared.entry.Range.TheVariants.{Interval}
use Rattle.fm_world.specs.declared.step.Act.{Act}
use Rattle.fm_world.specs.declared.step.Act.TheVariants as act
use Rattle.fm_world.specs.declared.step.Step.{Step}
use Rattle.fm_world.specs.Worlds.{WorldOfSets, opening_world, with_number, run_of, cause_of, AreAccepted}

-- two versions of one job
abbrev job : ℕ → Op
job version = op.Job 1 version 1 false 500 800

abbrev step : ℕ → Act → Step
step n a = record { at = n; by = 0; act = a }

abbrev three : WorldOfSets
three = opening_world ((1, 100) ∷ (2, 100) ∷ (3, 1) ∷ [])

-- coordinator 1 is told of both versions, and cuts each delta alone and both; 2 gets both at once, 3 the later alone
abbrev steps : List Step
steps =
    step 1 (act.Tell (job 1)) ∷ step 1 (act.Tell (job 2)) ∷ step 1 (act.Cut (Interval 0 1)) ∷ step 1 (act.Cut (Interval 1 2)) ∷ step 1 (act.Cut (Interval 0 2))
    ∷ step 2 (act.Deliver 2) ∷ step 2 (act.Deliver 0) ∷ step 3 (act.Deliver 1) ∷ []

abbrev taken_at : ℕ → Option (List Op)
taken_at n = option_map (λ r. r.taken) (with_number (run_of three steps).replicas n)

pub accepted : AreAccepted three steps
accepted = (refl, (refl, (refl, (refl, (refl, (refl, (refl, (refl, tt))))))))

pub first_took : taken_at 1 ≡ Some (job 1 ∷ job 2 ∷ [])
first_took = refl

pub second_took : taken_at 2 ≡ Some (job 1 ∷ job 2 ∷ job 1 ∷ [])
second_took = refl

pub third_took : taken_at 3 ≡ Some (job 2 ∷ [])
third_took = refl

-- refusals: an unlisted number, a packet that was never cut, a full history, and ranges beyond the end and backwards
pub unlisted : cause_of three (step 4 (act.Deliver 0)) ≡ Some NoCoordinator
unlisted = refl

pub never_cut : cause_of three (step 1 (act.Deliver 0)) ≡ Some NoPacket
never_cut = refl

pub full : cause_of (run_of three steps) (step 3 (act.Tell (job 1))) ≡ Some HistoryFull
full = refl

pub beyond : cause_of (run_of three steps) (step 1 (act.Cut (Interval 0 3))) ≡ Some BadInterval
beyond = refl

pub let_go : cause_of (run_of (run_of three steps) (step 1 (act.Trim 1) ∷ [])) (step 1 (act.Cut (Interval 0 2))) ≡ Some (Trimmed 1)
let_go = refl
