-- A room says of each request what the table's network does.
use Rattle.std.proofs.Common.{◌≡◌, ◌∙◌, ℕ, ◌+◌, ◌-◌, ◌<◌, ◌^◌, Bool, true, false, Option, Some, None, refl, sym, ap, subst, arith}
use Rattle.std.specs.Prelude.{nat_le, IfSome}
use Rattle.std.proofs.lemmas.Bool.{leb-true}
use Rattle.fm_records.specs.declared.records.MachineReg.{MachineReg}
use Rattle.fm_records.specs.Options.{when, and_then}
use Rattle.fm_records.specs.Table.{Table}
use Rattle.fm_records.specs.Facts.{open_state, load_of, spare_of}
use Rattle.fm_records.specs.Ranges.{CanBe}
use Rattle.fm_net.specs.Network.{place_arc, room_arc}
use Rattle.fm_net.proofs.BoundLaws.{state_ranges}
use Rattle.fm_tally.specs.declared.tally.OpenMachine.{OpenMachine}
use Rattle.fm_tally.specs.Tallies.{open_machine_at}
use Rattle.fm_policy.specs.declared.room.Room.{Room}
use Rattle.fm_policy.specs.Rooms.{room_of, fit_in}
use Rattle.fm_policy.specs.inner.Inputs.{SpareFits}
use Rattle.fm_policy.proofs.Tallied.{open_of}

-- the room on the machine of a table, if it is open and its load is within its bandwidth
abbrev pub room_at : Table → ℕ → Option Room
room_at k m = and_then (λ state. room_of state (load_of k m)) (open_state k m)

module _ (k : Table) (r m : ℕ) where
  place_fits : (state : MachineReg) (b : Bool) → and_then (place_arc k r m state) (when b (state.nic - load_of k m)) ≡ and_then (λ room. fit_in room r) (when b (record { slots = state.slots; load = load_of k m; bandwidth = state.nic }))
  place_fits state true = refl
  place_fits state false = refl

  spare_is : (state : MachineReg) → open_state k m ≡ Some state → spare_of k m ≡ when (nat_le (load_of k m) state.nic) (state.nic - load_of k m)
  spare_is state e = ap (and_then (λ (s : MachineReg). when (nat_le (load_of k m) s.nic) (s.nic - load_of k m))) e

  pub room_fits : room_arc k r m ≡ and_then (λ room. fit_in room r) (room_at k m)
  room_fits =
      elim (open_state k m) as (λ o. open_state k m ≡ o → and_then (λ state. and_then (place_arc k r m state) (spare_of k m)) o ≡ and_then (λ room. fit_in room r) (and_then (λ state. room_of state (load_of k m)) o)) [
        | None ↦ λ _. refl
        | Some state ↦ λ e. ap (and_then (place_arc k r m state)) (spare_is state e) ∙ place_fits state (nat_le (load_of k m) state.nic)
      ] refl

-- The load and the spare of an open machine fit together.
module _ (k : Table) (r m : ℕ) (open_one : OpenMachine) (at : open_machine_at k m ≡ Some open_one) where
  pub spare_fits : CanBe k → SpareFits open_one
  spare_fits can =
      let its = open_of k m open_one at in
      let load = load_of k m in
      let nic = its.state.nic in
      let small = (state_ranges k can m its.state its.is).nic in
      let fits : IfSome (when (nat_le load nic) (nic - load)) (λ s. load + s < 2 ^ 32) = elim (nat_le load nic) as (λ b. nat_le load nic ≡ b → IfSome (when b (nic - load)) (λ s. load + s < 2 ^ 32)) [
        | true ↦ λ yes. let within = leb-true load nic yes in omega (arith, within, small)
        | false ↦ λ _. tt
      ] refl in
      subst (λ (x : ℕ × Option ℕ). IfSome x.1 (λ s. x.0 + s < 2 ^ 32)) (λ i. (its.load i, its.spare i)) (subst (λ o. IfSome o (λ s. load + s < 2 ^ 32)) (sym (spare_is k r m its.state its.is)) fits)
