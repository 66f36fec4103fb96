-- The ID of a node among nodes tells it from the others.
use Rattle.std.proofs.Common.{◌≡◌, ℕ, ◌+◌, ◌<◌, ◌≤◌, cond, List, [], ◌∷◌, length, refl, sym, ap, ◌∙◌, inl, inr, arith}
use Rattle.std.specs.Ordering.{is_eq}
use Rattle.std.specs.declared.cmp.Ordering.TheVariants.{Less, Equal, Greater}
use Rattle.std.proofs.lemmas.Cmp.{tied_itself}
use Rattle.fm_lattice.specs.laws.ChainLaws.{by_cases}
use Rattle.fm_records.specs.Sets.{IsMember}
use Rattle.fm_net.specs.declared.node.Node.{Node}
use Rattle.fm_net.specs.Nodes.{node_cmp}
use Rattle.fm_net.specs.laws.NodeOrder.{node_exact, node_total}
use Rattle.fm_dimacs.specs.Text.{id_from}

same_node : (m n : Node) → m ≡ n → node_cmp m n ≡ Equal
same_node m n e = ap (λ x. node_cmp x n) e ∙ tied_itself node_total n

-- IDs from this one on, and below its sum with their count
pub id_below : (id : ℕ) (ns : List Node) (n : Node) → 0 < id → id_from id ns n < id + length ns
id_below id [] n some = omega arith
id_below id (m ∷ ms) n some =
    let rest = id_below (id + 1) ms n (omega arith) in
    by_cases (node_cmp m n) (λ o. cond (is_eq o) id (id_from (id + 1) ms n) < id + length (m ∷ ms)) (λ _. omega arith) (λ _. omega arith) (λ _. omega arith)

pub id_least : (id : ℕ) (ns : List Node) (n : Node) → IsMember n ns → id ≤ id_from id ns n
id_least id [] n h = absurd h
id_least id (m ∷ ms) n h =
    by_cases (node_cmp m n) (λ o. node_cmp m n ≡ o → id ≤ cond (is_eq o) id (id_from (id + 1) ms n))
    (λ _ e. elim h [ inl is ↦ absurd (let never : Less ≡ Equal = sym e ∙ same_node m n is in cc) | inr later ↦ omega (arith, id_least (id + 1) ms n later) ])
    (λ _ _. omega arith)
    (λ _ e. elim h [ inl is ↦ absurd (let never : Greater ≡ Equal = sym e ∙ same_node m n is in cc) | inr later ↦ omega (arith, id_least (id + 1) ms n later) ])
    refl

-- the node is the first, and has its ID, or stands after it
pub record Later (id : ℕ) (m : Node) (ms : List Node) (n : Node) : Type 0 where
  pub member : IsMember n ms
  pub id_is : id_from id (m ∷ ms) n ≡ id_from (id + 1) ms n

placed : (id : ℕ) (m : Node) (ms : List Node) (n : Node) (P : Type 0) → IsMember n (m ∷ ms) → (m ≡ n → id_from id (m ∷ ms) n ≡ id → P) → (Later id m ms n → P) → P
placed id m ms n P h first later =
    by_cases (node_cmp m n) (λ o. node_cmp m n ≡ o → P)
    (λ _ e. elim h [ inl is ↦ absurd (let never : Less ≡ Equal = sym e ∙ same_node m n is in cc) | inr t ↦ later (record { member = t; id_is = ap (λ o. cond (is_eq o) id (id_from (id + 1) ms n)) e }) ])
    (λ _ e. first (node_exact m n e) (ap (λ o. cond (is_eq o) id (id_from (id + 1) ms n)) e))
    (λ _ e. elim h [ inl is ↦ absurd (let never : Greater ≡ Equal = sym e ∙ same_node m n is in cc) | inr t ↦ later (record { member = t; id_is = ap (λ o. cond (is_eq o) id (id_from (id + 1) ms n)) e }) ])
    refl

pub id_tells : (id : ℕ) (ns : List Node) (a b : Node) → IsMember a ns → IsMember b ns → id_from id ns a ≡ id_from id ns b → a ≡ b
id_tells id [] a b h g e = absurd h
id_tells id (m ∷ ms) a b h g e =
    placed id m ms a (a ≡ b) h
    (λ is ia. placed id m ms b (a ≡ b) g (λ js ib. sym is ∙ js) (λ l. absurd (let least = id_least (id + 1) ms b l.member in omega (arith, l.id_is))))
    (λ k. placed id m ms b (a ≡ b) g (λ js ib. absurd (let least = id_least (id + 1) ms a k.member in omega (arith, k.id_is))) (λ l. id_tells (id + 1) ms a b k.member l.member (sym k.id_is ∙ e ∙ l.id_is)))
