-- Changes with their spare blocks, one after another.
use Rattle.std.proofs.Common.{◌≡◌, ℕ, ◌≤◌, List, [], ◌∷◌, ◌++◌, Option, Some, None, map, refl, sym, ◌∙◌, append_assoc, vec_len, vec_capacity}
use Rattle.std.proofs.lemmas.List.{map-append}
use Rattle.std.specs.declared.vec.Vec.{Vec}
use Rattle.std.specs.Cmp.{IsTotalOrder}
use Rattle.std.specs.declared.cmp.Ordering.{Ordering}
use Rattle.fm_lattice.specs.Chains.{TellsApart}
use Rattle.fm_lattice.specs.Joins.{option_join}
use Rattle.fm_lattice.specs.Maps.{lookup, put, keep_new, IsRising}
use Rattle.fm_lattice.specs.laws.MapLaws.{lookup_put}
use Rattle.fm_lattice.specs.inner.BlockOrder.{HaveSpares}

none_before : {V : Type 0} (join : V → V → V) (x y : Option V) → option_join join x y ≡ None → x ≡ None
none_before join None y e = refl
none_before join (Some v) None e = cc
none_before join (Some v) (Some w) e = cc

module _ {K V A : Type 0} (cmp : K → K → Ordering) (total : IsTotalOrder cmp) (same : TellsApart cmp) (room : ℕ) where
  pub spares_push : (es : List (K × V)) (cs : List ((K × V) × Vec (K × V) A)) (c : (K × V) × Vec (K × V) A) → HaveSpares cmp room es cs → vec_len c.1 ≡ 0 → (lookup cmp c.0.0 es ≡ None → room ≤ vec_capacity c.1) → HaveSpares cmp room es (cs ++ c ∷ [])
  spares_push es [] c h empty fits = (empty, fits, tt)
  spares_push es (d ∷ cs) c h empty fits = (h.0, h.1, spares_push es cs c h.2 empty fits)

  -- a key that is there stays there
  pub spares_put : (es : List (K × V)) (k : K) (v : V) (cs : List ((K × V) × Vec (K × V) A)) → IsRising cmp es → HaveSpares cmp room es cs → HaveSpares cmp room (put cmp keep_new k v es) cs
  spares_put es k v [] r h = tt
  spares_put es k v (c ∷ cs) r h = (h.0, (λ none. h.1 (none_before keep_new _ _ (sym (lookup_put cmp total same keep_new c.0.0 k v es r) ∙ none))), spares_put es k v cs r h.2)

-- one more is done, one less is left
pub one_more : {X Y Z : Type 0} (f : Z → X) (g : Y → X) (cs : List Z) (c : Z) (rest tail : List Y) (y : Y) (whole : List X) → f c ≡ g y → rest ≡ y ∷ tail → map f cs ++ map g rest ≡ whole → map f (cs ++ c ∷ []) ++ map g tail ≡ whole
one_more f g cs c rest tail y whole e parts so_far = rw (map-append f cs (c ∷ []), append_assoc (map f cs) (f c ∷ []) (map g tail), e) (rw parts at so_far)
