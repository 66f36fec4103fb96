-- A closed coordinator whose audit found no fault.
use Rattle.std.proofs.Common.{◌≡◌, ◌⊎◌, ℕ, zero, suc, ◌+◌, ◌<◌, ◌≤◌, List, [], ◌∷◌, ◌++◌, map, length, inl, inr, subst, sym, refl, ap, ◌∙◌, ⊎_elim, arith}
use Rattle.std.specs.Prelude.{slice_get, Some, Contains, drop}
use Rattle.std.specs.List.Sorted.{IsPermutation}
use Rattle.std.proofs.lemmas.Bool.{cases_lt}
use Rattle.std.proofs.lemmas.List.Sorted.{Contains-permutation}
use Rattle.std.proofs.lemmas.Option.{slice_get_within, get_or_from_slice_get}
use Rattle.fm_coord.specs.States.{State}
use Rattle.fm_fleet.specs.declared.seat.SeatLog.{SeatLog}
use Rattle.fm_fleet.specs.Seats.{SeatModel, seen_seat, seat_of, HasSeat, IsMissing, AreNumbered}
use Rattle.fm_fleet.specs.Audits.{of_seat, StandInOne}
use Rattle.fm_gossip.specs.Served.{seat_in}
use Rattle.fm_gossip.specs.inner.EndedMember.{IsEnded}

-- the log whose seat is among those that the logs have
log_of : (logs : List SeatLog) (seat : SeatModel) → Contains (map seat_of logs) seat → (k : ℕ) × (l : SeatLog) × (slice_get logs k ≡ Some l) × (seat_of l ≡ seat)
log_of [] seat (k, lt, is) = absurd (omega (arith, lt))
log_of (l ∷ ls) seat (zero, lt, is) = (0, l, refl, is)
log_of (l ∷ ls) seat (suc k, lt, is) = let r = log_of ls seat (k, omega (arith, lt), is) in (suc r.0, r.1, r.2, r.3)

contains_at : (seats : List SeatModel) (i : ℕ) (seat : SeatModel) → slice_get seats i ≡ Some seat → Contains seats seat
contains_at seats i seat at = (i, slice_get_within seats i seat at, get_or_from_slice_get seats i seat seat at)

one_of_two : (by seat j : ℕ) → seat ≡ by → seat ≡ j + 1 → j < 2 → (by ≡ 1) ⊎ (by ≡ 2)
one_of_two by seat j same is lt =
    ⊎_elim (λ (h : j < 1). inl (omega (arith, same, is, h))) (λ (h : 1 ≤ j). inr (omega (arith, same, is, h, lt))) (cases_lt j 1)

pub ended : (number limit base : ℕ) (seats : List SeatModel) (logs : List SeatLog) (s : State) → s.number ≡ number → s.limit ≡ limit → base ≡ 0 → IsPermutation seats (map seat_of logs) → AreNumbered logs → length logs ≡ 2 → StandInOne s base logs
    → IsEnded number limit seats s
ended number limit base seats logs s named limited from_start all numbered two stands =
    let whole : drop base s.history ≡ s.history = ap (λ n. drop n s.history) from_start in
    record {
      number = named;
      limit = limited;
      legal = stands.legal;
      seats_match = λ i seat at.
          let found = log_of logs seat (Contains-permutation seats (map seat_of logs) seat all (contains_at seats i seat at)) in
          let l = found.1 in
          let matches : of_seat l.seat s.history ≡ l.entries.items = ap (of_seat l.seat) (sym whole) ∙ stands.audited.logs_match found.0 l found.2 in
          subst (λ (z : SeatModel). z ≡ seat_in s.history z.number) found.3 (ap (seen_seat l.seat) (sym matches));
      no_other = λ i e at.
          let listed = stands.audited.all_listed i e (ap (λ h. slice_get h i) whole ∙ at) in
          let within = slice_get_within logs listed.0 listed.1 listed.2 in
          one_of_two e.by listed.1.seat listed.0 listed.3 (numbered listed.0 listed.1 listed.2) (omega (arith, within, two));
    }

-- of a node with two seats none is missing if both are there
pub none_missing : (n : ℕ) (seats : List SeatModel) (k : ℕ) → 2 ≡ n → HasSeat 1 seats × HasSeat 2 seats → IsMissing n seats k → ⊥
none_missing n seats zero two both missing = omega (arith, missing.0)
none_missing n seats (suc zero) two both missing = missing.2 both.0
none_missing n seats (suc (suc zero)) two both missing = missing.2 both.1
none_missing n seats (suc (suc (suc k))) two both missing = omega (arith, two, missing.1)

-- the seats that were pushed, one after the other
pub both_seats : (seats some none : List SeatModel) (one two : SeatModel) → none ≡ [] → some ≡ none ++ one ∷ [] → seats ≡ some ++ two ∷ [] → one.number ≡ 1 → two.number ≡ 2 → HasSeat 1 seats × HasSeat 2 seats
both_seats seats some none one two empty first second is_one is_two =
    let these : seats ≡ one ∷ two ∷ [] = second ∙ ap (λ xs. xs ++ two ∷ []) (first ∙ ap (λ xs. xs ++ one ∷ []) empty) in
    subst (λ xs. HasSeat 1 xs × HasSeat 2 xs) (sym these) ((0, one, refl, is_one), (1, two, refl, is_two))
