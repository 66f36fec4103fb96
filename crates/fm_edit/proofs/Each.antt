-- What a test keeps, as what is made of each item.
use Rattle.std.proofs.Common.{◌≡◌, Bool, true, false, cond, List, [], ◌∷◌, Option, Some, None, map, refl, ap, sym, ◌∙◌, ◌++◌, append_assoc}
use Rattle.std.specs.Prelude.{filter}
use Rattle.std.specs.List.{filter_map, cons_option}

-- one item more, of what a test keeps
pub stepped_kept : {A B : Type 0} (f : A → B) (p : A → Bool) (made more : List B) (items rest : List A) (x : A) → items ≡ x ∷ rest → more ≡ made ++ map f (filter p (x ∷ [])) → more ++ map f (filter p rest) ≡ made ++ map f (filter p items)
stepped_kept f p made more items rest x next grown =
    let split : map f (filter p (x ∷ [])) ++ map f (filter p rest) ≡ map f (filter p (x ∷ rest)) = elim (p x) as (λ b. map f (cond b (x ∷ []) []) ++ map f (filter p rest) ≡ map f (cond b (x ∷ filter p rest) (filter p rest))) [ true ↦ refl | false ↦ refl ] in
    ap (λ z. z ++ map f (filter p rest)) grown
    ∙ append_assoc made (map f (filter p (x ∷ []))) (map f (filter p rest))
    ∙ ap (λ z. made ++ z) split
    ∙ ap (λ z. made ++ map f (filter p z)) (sym next)

-- one item more, of what is made of some
pub stepped_made : {A B : Type 0} (h : A → Option B) (made more : List B) (items rest : List A) (x : A) → items ≡ x ∷ rest → more ≡ made ++ filter_map h (x ∷ []) → more ++ filter_map h rest ≡ made ++ filter_map h items
stepped_made h made more items rest x next grown =
    let split : filter_map h (x ∷ []) ++ filter_map h rest ≡ filter_map h (x ∷ rest) = elim (h x) as (λ o. cons_option o [] ++ filter_map h rest ≡ cons_option o (filter_map h rest)) [ None ↦ refl | Some b ↦ refl ] in
    ap (λ z. z ++ filter_map h rest) grown
    ∙ append_assoc made (filter_map h (x ∷ [])) (filter_map h rest)
    ∙ ap (λ z. made ++ z) split
    ∙ ap (λ z. made ++ filter_map h z) (sym next)
