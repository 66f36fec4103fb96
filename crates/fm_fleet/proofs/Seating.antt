-- Seats that are taken in one at a time.
use Rattle.std.proofs.Common.{◌≡◌, ℕ, ◌+◌, ◌-◌, ◌≢◌, ◌<◌, ◌≤◌, List, [], ◌∷◌, ◌++◌, map, length, subst, sym, refl, ap, ◌∙◌, ⊎_elim, arith, get_or, append_assoc, length-append}
use Rattle.std.proofs.Math.Seq.{get_or-append_seam}
use Rattle.std.proofs.lemmas.Bool.{cases_lt}
use Rattle.std.specs.List.Sorted.{IsPermutation}
use Rattle.std.specs.List.{swap_remove}
use Rattle.std.proofs.lemmas.List.Sorted.{IsPermutation-swap_remove, IsPermutation-append_right, IsPermutation-trans}
use Rattle.std.proofs.lemmas.List.{map-append, get_or_append_left}
use Rattle.std.proofs.lemmas.Option.{slice_get_within, get_or_from_slice_get, slice_get_read}
use Rattle.fm_fleet.specs.Seats.{SeatModel, HasSeat, seat_of, AreNumbered}
use Rattle.fm_fleet.specs.declared.seat.SeatLog.{SeatLog}

-- one more case of a fact of all numbers below n
pub up_to : (P : ℕ → Type 0) (n : ℕ) → ((j : ℕ) → j < n → P j) → P n → (j : ℕ) → j < n + 1 → P j
up_to P n below at j h = ⊎_elim (λ lt. below j lt) (λ ge. subst P (omega (arith, ge, h)) at) (cases_lt j n)

-- a seat moves from those that are left to the logs
pub moves : (all xs now : List SeatModel) (logs new : List SeatLog) (l : SeatLog) (y : SeatModel) (p : ℕ) → IsPermutation all (map seat_of logs ++ xs) → p < length xs → y ≡ get_or xs p y → now ≡ swap_remove xs p y → new ≡ logs ++ l ∷ [] → seat_of l ≡ y
    → IsPermutation all (map seat_of new ++ now)
moves all xs now logs new l y p before there is left put same =
    let taken : IsPermutation xs (y ∷ now) = subst (λ n. IsPermutation xs (y ∷ n)) (sym left) (IsPermutation-swap_remove xs p y there is) in
    let kept : map seat_of logs ++ (y ∷ now) ≡ map seat_of new ++ now =
    sym (append_assoc (map seat_of logs) (y ∷ []) now) ∙ ap (λ z. z ++ now) (ap (λ s. map seat_of logs ++ s ∷ []) (sym same) ∙ sym (map-append seat_of logs (l ∷ [])) ∙ ap (map seat_of) (sym put)) in
    subst (IsPermutation all) kept (IsPermutation-trans _ _ _ before (IsPermutation-append_right (map seat_of logs) xs (y ∷ now) taken))

before_last : (i p n : ℕ) → i ≢ p → n ≤ i + 1 → i < n → p < n → p + 1 < n
before_last i p n other ge within there = grind (arith, other, ge, within, there)

-- a seat of another number stays
pub stays : (xs now : List SeatModel) (p k j : ℕ) (y : SeatModel) → p < length xs → y ≡ get_or xs p y → y.number ≡ k → j ≢ k → length now + 1 ≡ length xs
    → (((d : SeatModel) → p + 1 < length xs → get_or now p d ≡ get_or xs (length xs - 1) d) × ((i : ℕ) (d : SeatModel) → i ≢ p → i + 1 < length xs → get_or now i d ≡ get_or xs i d))
    → HasSeat j xs → HasSeat j now
stays xs now p k j y there is number apart len by (i, s, at, n) =
    let within = slice_get_within xs i s at in
    let read = get_or_from_slice_get xs i s s at in
    let other : i ≢ p = λ e. apart (sym n ∙ ap (λ (z : SeatModel). z.number) (sym (get_or_from_slice_get xs i s y at) ∙ ap (λ m. get_or xs m y) e ∙ sym is) ∙ number) in
    ⊎_elim
    (λ (lt : i + 1 < length xs). (i, s, slice_get_read now (length now) i s refl (omega (arith, len, lt)) (sym (by.1 i s other lt ∙ read)), n))
    (λ (ge : length xs ≤ i + 1).
    let here : p + 1 < length xs = before_last i p (length xs) other ge within there in
    (p, s, slice_get_read now (length now) p s refl (omega (arith, len, here)) (sym (by.0 s here ∙ ap (λ m. get_or xs m s) (omega (arith, ge, within)) ∙ read)), n))
    (cases_lt (i + 1) (length xs))

pub numbered_more : (logs : List SeatLog) (l : SeatLog) → AreNumbered logs → l.seat ≡ length logs + 1 → AreNumbered (logs ++ l ∷ [])
numbered_more logs l before is i x at =
    let within = slice_get_within (logs ++ l ∷ []) i x at in
    let read = get_or_from_slice_get (logs ++ l ∷ []) i x l at in
    ⊎_elim
    (λ (lt : i < length logs). before i x (slice_get_read logs (length logs) i x refl lt (sym (sym (get_or_append_left logs (l ∷ []) x i lt) ∙ get_or_from_slice_get (logs ++ l ∷ []) i x x at))))
    (λ (ge : length logs ≤ i).
    let e : length logs ≡ i = omega (arith, ge, within, length-append logs (l ∷ [])) in
    ap (λ (z : SeatLog). z.seat) (sym read ∙ ap (λ n. get_or (logs ++ l ∷ []) n l) (sym e) ∙ get_or-append_seam logs l [] l) ∙ is ∙ ap (λ n. n + 1) e)
    (cases_lt i (length logs))
