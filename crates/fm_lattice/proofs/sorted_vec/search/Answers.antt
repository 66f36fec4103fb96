use Rattle.std.proofs.Common.{rules, ◌-◌, length, arith}
use Rattle.std.proofs.lemmas.List.Sorted.{answers_always}
use Rattle.fm_lattice.proofs.Places.{searched}
use Rattle.fm_lattice.proofs.Behind.{behind, less_of}
use Rattle.fm_lattice.proofs.sorted_vec.search.Goals as goal

pub returns-then-is_lt-clause-absent : goal.returns-then-is_lt-clause-absent
returns-then-is_lt-clause-absent g c = behind g.K.Ord.cmp g.met.K.Ord.total c.requires.exact c.args.pairs.now c.args.key.now (length c.args.pairs.now - 1) c.index-pairs-count.result c.requires.rising (omega arith) c.index-pairs-count.is (less_of _ (search rules))

-- the closure gives a pair's key
pub returns-clause-found : goal.returns-clause-found
returns-clause-found g c =
    let facts = c.binary_search_by_key.ensures in
    let by_key = facts.position (λ pair. pair.0) (answers_always _ _ _ (λ f a r g called. search rules)) in
    (searched g.K.Ord.cmp g.met.K.Ord.total c.requires.exact c.args.pairs.now c.args.key.now c.requires.rising c.binary_search_by_key.result facts.bound by_key).found

pub returns-clause-absent : goal.returns-clause-absent
returns-clause-absent g c =
    let facts = c.binary_search_by_key.ensures in
    let by_key = facts.position (λ pair. pair.0) (answers_always _ _ _ (λ f a r g called. search rules)) in
    (searched g.K.Ord.cmp g.met.K.Ord.total c.requires.exact c.args.pairs.now c.args.key.now c.requires.rising c.binary_search_by_key.result facts.bound by_key).absent
