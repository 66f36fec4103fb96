-- What follows if an answer is Ok.
use Rattle.std.proofs.Common.{Result, Ok, Err}
use Rattle.std.specs.Result.{IfOk, OnOk}

pub on_ok : {A E P Q : Type 0} → (P → Q) → (r : Result A E) → OnOk r P → OnOk r Q
on_ok f (Ok x) h = f h
on_ok f (Err e) h = tt

pub both_ok : {A E P Q R : Type 0} → (P → Q → R) → (r : Result A E) → OnOk r P → OnOk r Q → OnOk r R
both_ok f (Ok x) p q = f p q
both_ok f (Err e) p q = tt

pub always : {A E P : Type 0} → P → (r : Result A E) → OnOk r P
always p (Ok x) = p
always p (Err e) = tt

pub if_ok : {A E : Type 0} {P Q : A → Type 0} → ((a : A) → P a → Q a) → (r : Result A E) → IfOk r P → IfOk r Q
if_ok f (Ok x) h = f x h
if_ok f (Err e) h = tt
