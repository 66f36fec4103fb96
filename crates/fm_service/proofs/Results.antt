-- Results: one thing for another, and what a `?` returns.
use Rattle.std.proofs.Common.{Result, Ok, Err, IfOk, IfErr, sym, subst}
use Rattle.std.specs.Result.{IsErrAnd}
use Rattle.std.proofs.lemmas.Result.{err_from_is_err_and}

pub if_ok : {T E : Type 0} {P Q : T → Type 0} (r : Result T E) → ((t : T) → P t → Q t) → IfOk r P → IfOk r Q
if_ok (Ok t) f h = f t h
if_ok (Err e) f h = tt

pub if_err : {T E : Type 0} {P Q : E → Type 0} (r : Result T E) → ((e : E) → P e → Q e) → IfErr r P → IfErr r Q
if_err (Ok t) f h = tt
if_err (Err e) f h = f e h

-- of what a `?` returns
pub returned : {T E : Type 0} {P Q : E → Type 0} (r : Result T E) → IsErrAnd r Q → ((e : E) → Q e → P e) → IfErr r P
returned {P = P} r h f = let g = err_from_is_err_and r h in subst (λ x. IfErr x P) (sym g.1) (f g.0 g.2)
