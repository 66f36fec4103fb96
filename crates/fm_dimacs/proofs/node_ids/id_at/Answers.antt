use Rattle.std.proofs.Common.{◌≡◌, true, false, sym, ◌∙◌}
use Rattle.std.specs.declared.cmp.Ordering.TheVariants.{Equal}
use Rattle.fm_net.specs.Nodes.{node_cmp}
use Rattle.fm_dimacs.proofs.Placed.{at_place}
use Rattle.fm_dimacs.proofs.node_ids.id_at.Goals as goal
use Rattle.fm_dimacs.proofs.node_ids.id_at.Goals.{in-Equal, in_default-matches}

pub returns-in-Some : goal.returns-in-Some
returns-in-Some c =
    let equal : node_cmp c.in-Some.there.now c.args.node.now ≡ Equal = elim c.match-matches.branch [
      | in-Equal w ↦ sym w.in-Equal.ensures.derived
      | in_default-matches w ↦ absurd (let no : true ≡ false = sym c.if-matches.true ∙ w.matches-is in cc)
    ] in
    at_place c.args.nodes.now c.args.node.now c.in-Some.there.now c.args.place c.requires c.in-Some.ensures.lookup.3.0 c.in-Some.ensures.lookup.1 equal
