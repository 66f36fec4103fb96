-- What is listed of a call, by what answered it.
use Rattle.std.proofs.Common.{◌≡◌, ◌∙◌, ◌+◌, ℕ, List, [], ◌∷◌, ◌++◌, length, IfOk, OnOk, OnErr, Result, Ok, Err, ap, sym, arith}
use Rattle.std.proofs.lemmas.List.{length-append}
use Rattle.fm_records.specs.declared.refusal.Refusal.{Refusal}
use Rattle.fm_coord.specs.declared.entry.Call.{Call}
use Rattle.fm_coord.specs.declared.entry.Entry.{Entry}
use Rattle.fm_coord.specs.declared.output.CallOutput.{CallOutput}
use Rattle.fm_coord.specs.States.{history_entry}
use Rattle.fm_coord.specs.Outputs.{reply_to}
use Rattle.fm_fleet.specs.Seats.{SeatModel, seen_seat, after_call}

-- the list has as many entries more as calls were counted
pub counted_so : (r : Result CallOutput Refusal) (n was now : ℕ) (made : Call) (es new : List Entry) → was ≡ length es → OnOk r (now ≡ was + 1) → OnErr r (now ≡ was)
    → IfOk r (λ a. new ≡ es ++ history_entry n made (reply_to a) ∷ []) → OnErr r (new ≡ es) → now ≡ length new
counted_so (Ok a) n was now made es new is more same listed kept = let long = ap length listed in omega (arith, is, more, long, length-append {A = Entry})
counted_so (Err e) n was now made es new is more same listed kept = same ∙ is ∙ ap length (sym kept)

-- the seat is as after the call
pub listed_so : (r : Result CallOutput Refusal) (s : SeatModel) (n : ℕ) (call made : Call) (es new : List Entry) → seen_seat n es ≡ s → made ≡ call
    → IfOk r (λ a. new ≡ es ++ history_entry n made (reply_to a) ∷ []) → IfOk r (λ a. seen_seat n new ≡ after_call s call (reply_to a))
listed_so (Ok a) s n call made es new is same listed = ap (seen_seat n) listed ∙ (λ i. after_call (is i) (same i) (reply_to a))
listed_so (Err e) s n call made es new is same listed = listed
