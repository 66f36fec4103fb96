-- Lists with rising keys: what stands in one is what is looked up.
use Rattle.std.specs.Prelude.{◌≡◌, List, [], ◌∷◌, Some}
use Rattle.std.proofs.Common.{sym, ap, ◌∙◌, refl, cond, is_eq, inl, inr}
use Rattle.std.specs.Cmp.{IsTotalOrder}
use Rattle.std.specs.declared.cmp.Ordering.{Ordering}
use Rattle.std.specs.declared.cmp.Ordering.TheVariants.{Less, Equal, Greater}
use Rattle.std.proofs.lemmas.Cmp.{tied_itself}
use Rattle.fm_lattice.specs.Chains.{TellsApart}
use Rattle.fm_lattice.specs.laws.ChainLaws.{less_greater}
use Rattle.fm_lattice.specs.Maps.{lookup, IsBelow, IsRising}
use Rattle.fm_records.specs.Sets.{IsMember}

module _ {K V : Type 0} (cmp : K → K → Ordering) (total : IsTotalOrder cmp) (same : TellsApart cmp) where
  above : (k : K) (e : K × V) (es : List (K × V)) → IsBelow cmp k es → IsMember e es → cmp k e.0 ≡ Less
  above k e [] b h = absurd h
  above k e (x ∷ es) b h = elim h [ inl is ↦ ap (λ (p : K × V). cmp k p.0) (sym is) ∙ b.0 | inr later ↦ above k e es b.1 later ]

  pub member_lookup : (e : K × V) (es : List (K × V)) → IsRising cmp es → IsMember e es → lookup cmp e.0 es ≡ Some e.1
  member_lookup e [] r h = absurd h
  member_lookup e (x ∷ es) r h = elim h [
    | inl is ↦
        let tied : cmp e.0 x.0 ≡ Equal = ap (λ (p : K × V). cmp e.0 p.0) is ∙ tied_itself total e.0 in
        rw tied (ap (λ (p : K × V). Some p.1) is)
    | inr later ↦
        let less = above x.0 e es r.0 later in
        let greater : cmp e.0 x.0 ≡ Greater = less_greater cmp total x.0 e.0 less in
        rw greater (member_lookup e es r.1 later)
  ]

  -- and what is looked up stands in it
  pub lookup_member : (k : K) (v : V) (es : List (K × V)) → lookup cmp k es ≡ Some v → IsMember (k, v) es
  lookup_member k v [] h = absurd (let no : ⊥ = cc in no)
  lookup_member k v (x ∷ es) h = elim (cmp k x.0) as (λ o. cmp k x.0 ≡ o → cond (is_eq o) (Some x.1) (lookup cmp k es) ≡ Some v → IsMember (k, v) (x ∷ es)) [
    | Less ↦ λ _ g. inr (lookup_member k v es g)
    | Equal ↦ λ e g. let key : k ≡ x.0 = same k x.0 e in let value : v ≡ x.1 = cc in inl (sym (ap (λ (q : K). (q, v)) key ∙ ap (λ (w : V). (x.0, w)) value))
    | Greater ↦ λ _ g. inr (lookup_member k v es g)
  ] refl h
