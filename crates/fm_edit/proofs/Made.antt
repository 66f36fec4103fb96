-- What the change from a network to that after a delta may put or drop.
use Rattle.std.proofs.Common.{◌≡◌, ◌∙◌, ℕ, Bool, true, false, List, refl, sym, ap, eq-eqb}
use Rattle.std.specs.Prelude.{◌&&◌, not, is_some, map}
use Rattle.fm_lattice.specs.Maps.{lookup}
use Rattle.fm_records.specs.Options.{passes}
use Rattle.fm_records.specs.Sets.{IsMember}
use Rattle.fm_records.specs.Table.{Table}
use Rattle.fm_net.specs.declared.node.Node.{Node}
use Rattle.fm_net.specs.declared.edit.Edit.{Edit}
use Rattle.fm_net.specs.declared.edit.Edit.TheVariants.{DropNode, PutNode}
use Rattle.fm_net.specs.Nodes.{node_cmp, ends_cmp}
use Rattle.fm_net.specs.laws.NodeOrder.{node_exact, node_total, ends_exact, ends_total}
use Rattle.fm_net.specs.Net.{Net, has_node}
use Rattle.fm_net.specs.Network.{net_of}
use Rattle.fm_net.proofs.NetworkLaws.{is_network_of}
use Rattle.fm_net.proofs.ListLaws.{has_member, passes_kept}
use Rattle.fm_net.proofs.EditLaws.{member_found}
use Rattle.fm_net.specs.Edits.{Arc, joins, same_value, has_arc, gone_arcs, gone_nodes, new_nodes, new_arcs, drop_of, put_of, change}
use Rattle.fm_policy.specs.Changes.{Keys}
use Rattle.fm_edit.specs.Dirty.{SameBeyond, MayTurn, MayDiffer, MayMake}
use Rattle.fm_edit.proofs.LocalLaws.{node_same, arc_same}
use Rattle.fm_edit.proofs.LookLaws.{each_of_both, each_mapped}
use Rattle.fm_edit.proofs.Sums.{kept_member}

pub not_both : {P : Type 0} (b : Bool) → b ≡ true → not b ≡ true → P
not_both true e f = absurd (let no : ⊥ = cc in no)
not_both false e f = absurd (let no : ⊥ = cc in no)

pub same_itself : (v : ℕ × ℕ) → same_value v v ≡ true
same_itself v = λ i. eq-eqb v.0 v.0 refl i && eq-eqb v.1 v.1 refl i

module _ (k after : Table) (keys : Keys) (turned : List ℕ) (same : SameBeyond k after keys turned) where
  abbrev old : Net
  old = net_of k

  abbrev new : Net
  new = net_of after

  node_stays : (n : Node) → ¬ MayTurn k after keys turned n → has_node new n ≡ has_node old n
  node_stays n h = (is_network_of after).each_node n ∙ node_same k after keys turned same n h ∙ sym ((is_network_of k).each_node n)

  arc_stays : (e : Node × Node) → ¬ MayDiffer k after keys turned e.0 e.1 → lookup ends_cmp e new.arcs ≡ lookup ends_cmp e old.arcs
  arc_stays e h = (is_network_of after).each_arc e.0 e.1 ∙ arc_same k after keys turned same e.0 e.1 h ∙ sym ((is_network_of k).each_arc e.0 e.1)

  arc_gone : (a : Arc) → IsMember a (gone_arcs old new) → ¬ MayDiffer k after keys turned a.0.0 a.0.1 → ⊥
  arc_gone a h stays =
      let there = member_found ends_cmp ends_total ends_exact a old.arcs (is_network_of k).arcs_rise (kept_member (λ (x : Arc). not (joins new x.0)) a old.arcs h) in
      not_both (joins new a.0) (ap is_some (arc_stays a.0 stays ∙ there)) (passes_kept (λ (x : Arc). not (joins new x.0)) a old.arcs h)

  arc_comes : (a : Arc) → IsMember a (new_arcs old new) → ¬ MayDiffer k after keys turned a.0.0 a.0.1 → ⊥
  arc_comes a h stays =
      let there = member_found ends_cmp ends_total ends_exact a new.arcs (is_network_of after).arcs_rise (kept_member (λ (x : Arc). not (has_arc old x)) a new.arcs h) in
      not_both (has_arc old a) (ap (passes (same_value a.1)) (sym (arc_stays a.0 stays) ∙ there) ∙ same_itself a.1) (passes_kept (λ (x : Arc). not (has_arc old x)) a new.arcs h)

  node_goes : (n : Node) → IsMember n (gone_nodes old new) → ¬ MayTurn k after keys turned n → ⊥
  node_goes n h stays =
      let there = has_member node_cmp node_total node_exact n old.nodes (kept_member (λ (x : Node). not (has_node new x)) n old.nodes h) in
      not_both (has_node new n) (node_stays n stays ∙ there) (passes_kept (λ (x : Node). not (has_node new x)) n old.nodes h)

  node_comes : (n : Node) → IsMember n (new_nodes old new) → ¬ MayTurn k after keys turned n → ⊥
  node_comes n h stays =
      let there = has_member node_cmp node_total node_exact n new.nodes (kept_member (λ (x : Node). not (has_node old x)) n new.nodes h) in
      not_both (has_node old n) (sym (node_stays n stays) ∙ there) (passes_kept (λ (x : Node). not (has_node old x)) n new.nodes h)

  Made : Edit → Type 0
  Made e = (¬ MayMake k after keys turned e) → ⊥

  made : (e : Edit) → IsMember e (change old new) → Made e
  unfolding Made
  made =
      each_of_both Made (map drop_of (gone_arcs old new)) _
      (each_mapped Made drop_of (gone_arcs old new) arc_gone)
      (each_of_both Made (map DropNode (gone_nodes old new)) _
      (each_mapped Made DropNode (gone_nodes old new) node_goes)
      (each_of_both Made (map PutNode (new_nodes old new)) _
      (each_mapped Made PutNode (new_nodes old new) node_comes)
      (each_mapped Made put_of (new_arcs old new) arc_comes)))

  pub only_made : (e : Edit) → (¬ MayMake k after keys turned e) → ¬ IsMember e (change old new)
  unfolding Made
  only_made e may_not h = made e h may_not
