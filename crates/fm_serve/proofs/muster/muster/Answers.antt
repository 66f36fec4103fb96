use Rattle.std.proofs.Common.{◌≡◌, ◌∙◌, ℕ, ◌+◌, List, [], ◌∷◌, Some, None, ap, sym}
use Rattle.fm_script.specs.declared.script.Tell.{Tell}
use Rattle.fm_serve.specs.declared.fault.Fault.{Fault}
use Rattle.fm_serve.specs.Musters.{tell_fault, named_or, first_refused}
use Rattle.fm_serve.proofs.muster.muster.Goals as goal

inside : (a b : Fault) → Some a ≡ Some b → a ≡ b
inside a b e = cc

-- a tell that is refused is named
named : (listed : List ℕ) (place : ℕ) (ts : List Tell) (s : Fault) → first_refused listed place ts ≡ Some s → s.step ≡ None → ⊥
named listed place [] s is none = let no : ⊥ = cc in no
named listed place (t ∷ ts) s is none = elim (tell_fault listed t) as (λ o. named_or place o (first_refused listed (place + 1) ts) ≡ Some s → ⊥) [
  | None ↦ λ later. named listed (place + 1) ts s later none
  | Some r ↦ λ here.
      let step : Some place ≡ None = ap (λ (x : Fault). x.step) (inside (record { refusal = r; step = Some place }) s here) ∙ none in
      let no : ⊥ = cc in no
] is

pub returns-in-Some-clause-cause : goal.returns-in-Some-clause-cause
returns-in-Some-clause-cause g c = λ none. absurd (named c.deref.result.now 1 c.deref-2.result.now c.in-Some.stop (sym c.in-Some.ensures) none)
