-- What calls of other crates say, in the words of the clauses here.
use Rattle.std.proofs.Common.{◌≡◌, Bool, true, ◌&&◌, ℕ, List, [], ◌∷◌, Option, Result, Ok, Err, refl, subst}
use Rattle.std.specs.List.{list_all}
use Rattle.std.specs.Option.{is_none}
use Rattle.std.specs.Result.{OnOk, OnErr, IfOk}
use Rattle.std.specs.Io.KnownBytes.{Appends}
use Rattle.fm_records.specs.declared.ops.Op.{Op}
use Rattle.fm_records.specs.declared.refusal.Refusal.{Refusal}
use Rattle.fm_records.proofs.LookupLaws.{both_true}
use Rattle.fm_records.specs.Ops.{op_fault}
use Rattle.fm_records.specs.Ranges.{fields_fit, in_range, all_in_range}
use Rattle.fm_round.specs.declared.plan.Admitted.{Admitted}
use Rattle.fm_dimacs.specs.Sending.{AppendsPrefix, IsSent}
use Rattle.fm_coord.specs.States.{WithKeeper}

-- operations in range have no fault
pub faultless : (os : List Op) → all_in_range os ≡ true → list_all (λ op. is_none (op_fault op)) os ≡ true
faultless [] h = refl
faultless (o ∷ os) h =
    let both = both_true (in_range o) (all_in_range os) h in
    let here = both_true (fields_fit o) (is_none (op_fault o)) both.0 in
    let rest = faultless os both.1 in
    λ i. here.1 i && rest i

pub ranged : {E : Type 0} (r : Result Admitted E) → IfOk r (λ a. all_in_range a.ops ≡ true) → IfOk r (λ a. list_all (λ op. is_none (op_fault op)) a.ops ≡ true)
ranged (Ok a) h = faultless a.ops h
ranged (Err e) h = tt

module _ {T : Type 0} (old new : Option (List ℕ)) (had has : Bool) (text other : List ℕ) (same : text ≡ other) where
  pub sent_whole : (r : Result T Refusal) → IsSent r old new had has text → OnOk r (Appends old new other)
  sent_whole (Ok t) h = subst (λ ts. Appends old new ts) same h.0
  sent_whole (Err e) h = tt

  pub sent_part : (r : Result T Refusal) → IsSent r old new had has text → OnErr r (AppendsPrefix old new other)
  sent_part (Ok t) h = tt
  sent_part (Err e) h = subst (λ ts. AppendsPrefix old new ts) same h.0

pub same_state : {N : Type 0} {a b : WithKeeper N} → a ≡ b → a.state ≡ b.state
same_state e = λ i. (e i).state
