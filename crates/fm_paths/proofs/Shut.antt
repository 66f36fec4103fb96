-- Where no machine is open, to move nothing is the plan.
use Rattle.std.proofs.Common.{◌≡◌, ◌∙◌, ap, sym, refl, ℕ, ◌-◌, true, ◌==◌, [], Option, Some, None, option_map, eq-eqb, arith}
use Rattle.std.specs.Ordering.{nat_cmp}
use Rattle.fm_lattice.specs.Maps.{lookup}
use Rattle.fm_records.specs.declared.records.SpecReg.{SpecReg}
use Rattle.fm_records.specs.declared.records.MachineReg.{MachineReg}
use Rattle.fm_records.specs.Options.{passes}
use Rattle.fm_records.specs.Ranges.{CanBe}
use Rattle.fm_records.specs.Table.{Table}
use Rattle.fm_records.specs.Facts.{open_state, holder_of, holds}
use Rattle.fm_net.proofs.BoundLaws.{job_prices}
use Rattle.fm_net.specs.Net.{CanBeNet}
use Rattle.fm_net.specs.Network.{room_arc, preferred_arc, net_of}
use Rattle.fm_net.proofs.NetworkLaws.{passes_some, came_from, mapped_from, room_from, held_ends}
use Rattle.fm_round.specs.Schedules.{IsPlanOf}
use Rattle.fm_paths.specs.TaskPaths.{ByRequest, Straight}
use Rattle.fm_paths.specs.Prices.{AreFair}
use Rattle.fm_paths.specs.Plans.{InTurn}
use Rattle.fm_paths.specs.Moves.{way_at_rest, ways_with, AreMoves, FitMoves, plan_of_moves}
use Rattle.fm_paths.proofs.Moves.{moves_plan}
use Rattle.fm_paths.proofs.FitMoves.{moves_fit}

no_some : {A P : Type 0} {a : A} → None ≡ Some a → P
no_some e = absurd (let no : ⊥ = cc in no)

module _ (k : Table) (can_be : CanBe k) (can : CanBeNet (net_of k)) (shut : (m : ℕ) → open_state k m ≡ None) where
  no_open : {P : Type 0} (m : ℕ) (state : MachineReg) → open_state k m ≡ Some state → P
  no_open m state e = no_some (sym (shut m) ∙ e)

  no_room : {P : Type 0} (r m : ℕ) (v : ℕ × ℕ) → room_arc k r m ≡ Some v → P
  no_room r m v e = let room = room_from k r m v e in no_open m room.state room.opened

  no_holder : {P : Type 0} (t m : ℕ) → holder_of k t ≡ Some m → P
  no_holder t m e =
      let held : holds k m t ≡ true = ap (passes (λ (x : ℕ). x == m)) e ∙ eq-eqb m m refl in
      let state = passes_some (λ (r : MachineReg). true) (open_state k m) (held_ends k t m held).to in
      no_open m state.0 state.1

  no_preferred : {P : Type 0} (s : SpecReg) (m : ℕ) (v : ℕ × ℕ) → preferred_arc k s m ≡ Some v → P
  no_preferred s m v e =
      let credit = came_from (λ c. option_map (λ a. (1, a.1 - c)) (room_arc k s.request m)) (lookup nat_cmp m s.prefer) v e in
      let place = mapped_from (λ (a : ℕ × ℕ). (1, a.1 - credit.0)) (room_arc k s.request m) v credit.2 in
      no_room s.request m place.0 place.1

  never_asks : {P : Type 0} (t r m : ℕ) (h : Option ℕ) → way_at_rest k t h ≡ ByRequest r m → P
  never_asks t r m None e = absurd (let no : ⊥ = cc in no)
  never_asks t r m (Some p) e = absurd (let no : ⊥ = cc in no)

  never_goes : {P : Type 0} (t m : ℕ) (h : Option ℕ) → holder_of k t ≡ h → way_at_rest k t h ≡ Straight m → P
  never_goes t m None e is = absurd (let no : ⊥ = cc in no)
  never_goes t m (Some p) e is = no_holder t p e

  none_moves : AreMoves k []
  none_moves = record { rise = tt; live = λ t w e. no_some e }

  none_fit : FitMoves k []
  none_fit = record { may = λ t w e. no_some e; room = λ r m v arc. omega arith; slots = λ m state e. no_open m state e }

  none_fair : AreFair k (ways_with k []) (λ m. 0) (λ r. 1000000000)
  none_fair = record {
    load = λ m state e. no_open m state e;
    free = λ m state e _. no_open m state e;
    more = λ r m v _ arc _. no_room r m v arc;
    less = λ r m v _ arc _. no_room r m v arc;
    gone = λ t m j job holder _ _. no_holder t m holder;
    stays = λ t m j p job holder _ _ _. no_holder t m holder;
    left = λ t r j job _ _ there. let prices = job_prices k can_be j job there in omega (arith, prices.0);
    asks = λ t r j m job _ is _ _. never_asks t r m (holder_of k t) is;
    goes = λ t r j m job _ is _ _. never_goes t m (holder_of k t) refl is;
    prefers = λ t m s v _ _ arc. no_preferred s m v arc;
  }

  none_turn : InTurn k (ways_with k [])
  none_turn t u r m n _ _ is _ _ = never_asks t r m (holder_of k t) is

  pub nothing_moves : IsPlanOf k (plan_of_moves k [])
  nothing_moves = moves_plan k [] can_be none_moves (λ m. 0) (λ r. 1000000000) can (moves_fit k [] can_be none_moves none_fit) none_fair none_turn
