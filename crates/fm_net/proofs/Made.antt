-- Edits that are made one by one.
use Rattle.std.proofs.Common.{◌≡◌, ◌<◌, ◌+◌, ℕ, List, [], ◌∷◌, ◌++◌, length, take, drop, get_or, ap, sym, ◌∙◌, subst}
use Rattle.std.proofs.lemmas.List.{take_more, drop_more}
use Rattle.fm_net.specs.declared.edit.Edit.{Edit}
use Rattle.fm_net.specs.Net.{Net}
use Rattle.fm_net.specs.Edits.{after_edit, after_edits, MayEdit, MayEditAll}
use Rattle.fm_net.proofs.EditLaws.{after_both}

-- the edit at a place comes after those before it and before those after it
module _ (es : List Edit) (k : ℕ) (e : Edit) (lt : k < length es) (is : e ≡ get_or es k e) where
  pub left_is : drop k es ≡ e ∷ drop (k + 1) es
  left_is = drop_more es k e lt ∙ ap (λ f. f ∷ drop (k + 1) es) (sym is)

  pub may_next : (n : Net) → MayEditAll n (drop k es) → MayEdit n e × MayEditAll (after_edit e n) (drop (k + 1) es)
  may_next n h = subst (MayEditAll n) left_is h

  pub one_more : (n : Net) → after_edits (take (k + 1) es) n ≡ after_edit e (after_edits (take k es) n)
  one_more n = ap (λ fs. after_edits fs n) (take_more es k e lt ∙ ap (λ f. take k es ++ f ∷ []) (sym is)) ∙ after_both (take k es) (e ∷ []) n
