use Rattle.std.proofs.Common.{◌≡◌, get_or, sym, ◌∙◌, ap, Some, subst}
use Rattle.fm_lattice.specs.Maps.{keep_new, IsRising}
use Rattle.fm_lattice.specs.laws.MapLaws.{rising_put}
use Rattle.fm_lattice.proofs.Places.{lookup_at, lookup_gap, put_at, put_gap}
use Rattle.fm_lattice.proofs.sorted_vec.insert.Goals as goal

-- the key is there, and its value is replaced
pub returns-in-Ok-clause-ok : goal.returns-in-Ok-clause-ok
returns-in-Ok-clause-ok g c =
    let pair = c.index_mut.result.now in
    let es = c.args.pairs.now.items in
    let at = rw c.deref.ensures.value at c.in-Ok.ensures.found in
    let placed = put_at g.K.Ord.cmp g.met.K.Ord.total c.requires.exact keep_new es c.args.key c.args.value c.in-Ok.at pair c.requires.rising at in
    let read : get_or es c.in-Ok.at pair ≡ pair = sym c.index_mut.ensures.value in
    sym (rw read at placed)

pub returns-in-Ok-clause-rises : goal.returns-in-Ok-clause-rises
returns-in-Ok-clause-rises g c = subst (IsRising g.K.Ord.cmp) (sym (returns-in-Ok-clause-ok g c)) (rising_put g.K.Ord.cmp g.met.K.Ord.total c.requires.exact keep_new c.args.key c.args.value c.args.pairs.now.items c.requires.rising)

pub returns-in-Ok-clause-old : goal.returns-in-Ok-clause-old
returns-in-Ok-clause-old g c =
    let pair = c.index.result.now in
    let es = c.args.pairs.now.items in
    let at = rw c.deref.ensures.value at c.in-Ok.ensures.found in
    ap (λ p. Some p.1) c.index.ensures ∙ sym (lookup_at g.K.Ord.cmp g.met.K.Ord.total c.requires.exact es c.args.key c.in-Ok.at pair c.requires.rising at)

-- the pair is added in the gap
pub returns-in_ok-put_in-in-Err-clause-ok : goal.returns-in_ok-put_in-in-Err-clause-ok
returns-in_ok-put_in-in-Err-clause-ok g c =
    let gap = rw c.deref.ensures.value at c.in-Err.ensures.absent in
    c.in_ok-put_in-in-Err.ensures.ok ∙ sym (put_gap g.K.Ord.cmp g.met.K.Ord.total c.requires.exact keep_new c.args.pairs.now.items c.args.key c.args.value c.in-Err.at gap)

pub returns-in_ok-put_in-in-Err-clause-rises : goal.returns-in_ok-put_in-in-Err-clause-rises
returns-in_ok-put_in-in-Err-clause-rises g c = subst (IsRising g.K.Ord.cmp) (sym (returns-in_ok-put_in-in-Err-clause-ok g c)) (rising_put g.K.Ord.cmp g.met.K.Ord.total c.requires.exact keep_new c.args.key c.args.value c.args.pairs.now.items c.requires.rising)

pub returns-in_ok-put_in-in-Err-clause-old : goal.returns-in_ok-put_in-in-Err-clause-old
returns-in_ok-put_in-in-Err-clause-old g c =
    let gap = rw c.deref.ensures.value at c.in-Err.ensures.absent in
    sym (lookup_gap g.K.Ord.cmp g.met.K.Ord.total c.requires.exact c.args.pairs.now.items c.args.key c.in-Err.at gap)
