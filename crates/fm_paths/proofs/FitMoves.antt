-- Moves within rooms and slots make ways within rooms and slots.
use Rattle.std.proofs.Common.{◌≡◌, ◌∙◌, ap, refl, ℕ, true, cond, ◌==◌, List, Option, Some, None, eq-eqb, arith}
use Rattle.std.specs.Ordering.{nat_cmp}
use Rattle.fm_lattice.specs.Maps.{lookup}
use Rattle.fm_records.specs.Ranges.{CanBe}
use Rattle.fm_records.specs.Options.{when, and_then, or_else, passes}
use Rattle.fm_records.specs.Table.{Table}
use Rattle.fm_records.specs.Facts.{live_spec, is_live, holder_of, holds}
use Rattle.fm_net.specs.Network.{is_held, preferred_arc}
use Rattle.fm_paths.specs.TaskPaths.{Way, MayGo, Fit}
use Rattle.fm_paths.specs.Moves.{way_at_rest, rest, ways_with, AreMoves, FitMoves}
use Rattle.fm_paths.proofs.Rounds.{left_fit}
use Rattle.fm_paths.proofs.Moves.{asked_count, slot_count}

module _ (k : Table) where
  -- a task that does not move may stay as it is
  rest_may : (t : ℕ) → is_live k t ≡ true → (h : Option ℕ) → holder_of k t ≡ h → MayGo k t (way_at_rest k t h)
  rest_may t live None e = (left_fit k).may t live
  rest_may t live (Some m) e =
      let held : is_held k t ≡ true = ap (passes (λ (x : ℕ). true)) e in
      let own : holds k m t ≡ true = ap (passes (λ (x : ℕ). x == m)) e ∙ eq-eqb m m refl in
      ((1, 0), ap (λ b. cond b (when (holds k m t) (1, 0)) (and_then (λ s. preferred_arc k s m) (live_spec k t))) held ∙ ap (λ b. when b (1, 0)) own)

  module _ (moves : List (ℕ × Way)) (can_be : CanBe k) (are : AreMoves k moves) (fits : FitMoves k moves) where
    moved_may : (t : ℕ) → is_live k t ≡ true → (o : Option Way) → lookup nat_cmp t moves ≡ o → MayGo k t (or_else (rest k t) o)
    moved_may t live None e = rest_may t live (holder_of k t) refl
    moved_may t live (Some w) e = fits.may t w e

    pub moves_fit : Fit k (ways_with k moves)
    moves_fit = record {
      may = λ t live. moved_may t live (lookup nat_cmp t moves) refl;
      room = λ r m v arc. omega (arith, fits.room r m v arc, asked_count k moves can_be are r m);
      slots = λ m state stands. omega (arith, fits.slots m state stands, slot_count k moves can_be are m);
    }
