use Rattle.std.proofs.Common.{◌∙◌, ap, sym, Some, rules, arith}
use Rattle.fm_lattice.proofs.Places.{lookup_at}
use Rattle.fm_lattice.proofs.Behind.{equal_of, stands_at}
use Rattle.fm_lattice.proofs.sorted_vec.get_hinted.Goals as goal

pub returns-then-is_eq : goal.returns-then-is_eq
returns-then-is_eq g c =
    let pair = c.index-pairs-near.result in
    let at = stands_at g.K.Ord.cmp g.met.K.Ord.total c.requires.exact c.args.pairs.now c.args.key.now c.args.near pair (omega arith) c.index-pairs-near.is (equal_of _ (search rules)) in
    ap (λ p. Some p.1) c.index-pairs-near.is ∙ sym (lookup_at g.K.Ord.cmp g.met.K.Ord.total c.requires.exact c.args.pairs.now c.args.key.now c.args.near pair c.requires.rising at)
