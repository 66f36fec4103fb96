-- Whether two nodes are one, by their order and by their equality.
use Rattle.std.proofs.Common.{◌≡◌, ◌∙◌, ap, sym, refl, true, false}
use Rattle.std.specs.Ordering.{is_eq}
use Rattle.std.specs.declared.cmp.Ordering.TheVariants.{Less, Equal, Greater}
use Rattle.std.proofs.lemmas.Cmp.{tied_itself}
use Rattle.fm_lattice.specs.laws.ChainLaws.{by_cases}
use Rattle.fm_net.specs.declared.node.Node.{Node}
use Rattle.fm_net.specs.Nodes.{node_cmp}
use Rattle.fm_net.specs.laws.NodeOrder.{node_exact, node_total}
use Rattle.fm_net.specs.NetworkEquality.{same_node}
use Rattle.fm_net.specs.laws.NetworkEqualityLaws.{node_Decides}

pub same_itself : (n : Node) → same_node n n ≡ true
same_itself n = (node_Decides n n).1 refl

pub other_node : (m n : Node) → (m ≡ n → ⊥) → same_node m n ≡ false
other_node m n h = elim (same_node m n) as (λ b. same_node m n ≡ b → b ≡ false) [ true ↦ λ e. absurd (h ((node_Decides m n).0 e)) | false ↦ λ _. refl ] refl

-- the order and the equality agree
pub same_is : (m n : Node) → same_node m n ≡ is_eq (node_cmp m n)
same_is m n =
    by_cases (node_cmp m n) (λ o. node_cmp m n ≡ o → same_node m n ≡ is_eq o)
    (λ _ e. other_node m n (λ is. let no : Less ≡ Equal = sym e ∙ ap (node_cmp m) (sym is) ∙ tied_itself node_total m in absurd (cc)))
    (λ _ e. (node_Decides m n).1 (node_exact m n e))
    (λ _ e. other_node m n (λ is. let no : Greater ≡ Equal = sym e ∙ ap (node_cmp m) (sym is) ∙ tied_itself node_total m in absurd (cc)))
    refl
