use Rattle.std.proofs.Common.{inl, inr, arith}
use Rattle.fm_indexed.proofs.Placed.{place_of_member}
use Rattle.fm_indexed.proofs.KindsAt.{IsAmong, among}
use Rattle.fm_indexed.proofs.Searches.{found, not_missing}
use Rattle.fm_indexed.proofs.node_index.search.Goals as goal

pub unreachable-requires : goal.unreachable-requires
unreachable-requires c =
    let at = place_of_member c.args.node.now c.args.nodes.now c.requires.stands in
    let a : IsAmong c.args.nodes.now c.args.places.now c.requires.rises c.requires.places at.0 c.args.node.now = among c.args.nodes.now c.args.places.now c.requires.rises c.requires.places at.0 c.args.node.now at.1 in
    let first = c.range_of-first.ensures.first in
    let end = c.range_of-first.ensures.end in
    let whole = c.requires.places.end in
    let from = a.first in
    let to = a.end in
    let most = a.most in
    elim c.in_default.ensures.lookup.0 [ inl less ↦ absurd (omega arith) | inr more ↦ absurd (omega arith) ]

pub unreachable-requires-in-Err : goal.unreachable-requires-in-Err
unreachable-requires-in-Err c =
    let at = place_of_member c.args.node.now c.args.nodes.now c.requires.stands in
    let a : IsAmong c.args.nodes.now c.args.places.now c.requires.rises c.requires.places at.0 c.args.node.now = among c.args.nodes.now c.args.places.now c.requires.rises c.requires.places at.0 c.args.node.now at.1 in
    let first = c.range_of-first.ensures.first in
    let end = c.range_of-first.ensures.end in
    let from = a.first in
    let to = a.end in
    let part = c.in-Some.ensures.lookup.0 in
    not_missing c.args.nodes.now c.requires.rises c.args.node.now c.range_of-first.result.0 c.range_of-first.result.1 c.in-Some.of_kind.now part.2 part.3 part.1 at.0 (omega arith) (omega arith) at.1 c.in-Err.field-0 c.in-Err.ensures.position

pub returns : goal.returns
returns c =
    let part = c.in-Some.ensures.lookup.0 in
    found c.args.nodes.now c.requires.rises c.args.node.now c.range_of-first.result.0 c.range_of-first.result.1 c.in-Some.of_kind.now part.2 part.3 part.1 c.in-Ok.place c.in-Ok.ensures.bound c.in-Ok.ensures.ok
