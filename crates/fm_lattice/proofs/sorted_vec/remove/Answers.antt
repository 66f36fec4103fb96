use Rattle.std.proofs.Common.{sym, ◌∙◌, ap, Some, subst}
use Rattle.fm_lattice.specs.Maps.{IsRising}
use Rattle.fm_lattice.proofs.Places.{lookup_at, lookup_gap}
use Rattle.fm_lattice.proofs.Taken.{taken_at, taken_gap, rising_taken}
use Rattle.fm_lattice.proofs.sorted_vec.remove.Goals as goal

-- the key is there, and its pair goes
pub returns-in-Ok-clause-without : goal.returns-in-Ok-clause-without
returns-in-Ok-clause-without g c =
    let at = rw c.deref.ensures.value at c.in-Ok.ensures.found in
    c.remove.ensures.items ∙ taken_at g.K.Ord.cmp g.met.K.Ord.total c.requires.exact c.args.pairs.now.items c.args.key.now c.in-Ok.at c.remove.result c.requires.rising at

pub returns-in-Ok-clause-rises : goal.returns-in-Ok-clause-rises
returns-in-Ok-clause-rises g c = subst (IsRising g.K.Ord.cmp) (sym (returns-in-Ok-clause-without g c)) (rising_taken g.K.Ord.cmp g.met.K.Ord.total c.requires.exact c.args.key.now c.args.pairs.now.items c.requires.rising)

pub returns-in-Ok-clause-stood : goal.returns-in-Ok-clause-stood
returns-in-Ok-clause-stood g c =
    let pair = c.remove.result in
    let es = c.args.pairs.now.items in
    let at = rw c.deref.ensures.value at c.in-Ok.ensures.found in
    ap (λ p. Some p.1) c.remove.ensures.value ∙ sym (lookup_at g.K.Ord.cmp g.met.K.Ord.total c.requires.exact es c.args.key.now c.in-Ok.at pair c.requires.rising at)

-- the key is not there
pub returns-in-Err-clause-without : goal.returns-in-Err-clause-without
returns-in-Err-clause-without g c =
    let gap = rw c.deref.ensures.value at c.in-Err.ensures.absent in
    taken_gap g.K.Ord.cmp g.met.K.Ord.total c.requires.exact c.args.pairs.now.items c.args.key.now _ gap

pub returns-in-Err-clause-stood : goal.returns-in-Err-clause-stood
returns-in-Err-clause-stood g c =
    let gap = rw c.deref.ensures.value at c.in-Err.ensures.absent in
    sym (lookup_gap g.K.Ord.cmp g.met.K.Ord.total c.requires.exact c.args.pairs.now.items c.args.key.now _ gap)
