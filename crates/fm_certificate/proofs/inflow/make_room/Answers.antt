use Rattle.std.proofs.Common.{◌≡◌, ◌∙◌, ap, sym, refl, subst, rules, None, Some, cond, ℕ, List}
use Rattle.std.specs.Prelude.{IsSome}
use Rattle.std.specs.Ordering.{is_eq}
use Rattle.std.proofs.lemmas.Cmp.{tied_itself}
use Rattle.fm_lattice.specs.Maps.{lookup}
use Rattle.fm_net.specs.declared.node.Node.{Node}
use Rattle.fm_net.specs.Nodes.{node_cmp}
use Rattle.fm_net.specs.laws.NodeOrder.{node_total}
use Rattle.fm_certificate.proofs.Totalled.{IsSet, room_made, set_put}
use Rattle.fm_certificate.proofs.inflow.make_room.Goals as goal

-- a total of 0 is set
is_set : (c : goal.In_ok-insert) → IsSet c.args.totals.now.items c.insert.new.pairs.items c.args.node 0
is_set c = subst (λ (xs : List (Node × ℕ)). IsSet c.args.totals.now.items xs c.args.node 0) (sym c.in_ok-insert.ensures.ok) (set_put c.args.totals.now.items c.args.node 0 c.requires)

pub returns-in_ok-insert-clause-same : goal.returns-in_ok-insert-clause-same
returns-in_ok-insert-clause-same c =
    let none : lookup node_cmp c.args.node c.args.totals.now.items ≡ None = search rules in
    room_made c.args.totals.now.items c.insert.new.pairs.items c.args.node (is_set c) none

pub returns-in_ok-insert-clause-room : goal.returns-in_ok-insert-clause-room
returns-in_ok-insert-clause-room c = λ _.
    let there : lookup node_cmp c.args.node c.insert.new.pairs.items ≡ Some 0 =
    is_set c c.args.node ∙ ap (λ o. cond (is_eq o) (Some 0) (lookup node_cmp c.args.node c.args.totals.now.items)) (tied_itself node_total c.args.node) in
    subst IsSome (sym there) refl
