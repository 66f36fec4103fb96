use Rattle.std.proofs.Common.{◌≡◌, ◌∙◌, ◌++◌, ◌∷◌, sym, ap, subst, filter, append-nil, rules}
use Rattle.std.specs.Ordering.{nat_cmp}
use Rattle.std.specs.declared.cmp.Ordering.TheVariants.{Equal, Greater}
use Rattle.fm_lattice.specs.Maps.{IsRising}
use Rattle.fm_tally.specs.inner.Sides.{is_under, is_over}
use Rattle.fm_tally.proofs.Sides.{none_under, all_over, met_under, met_over, beyond}
use Rattle.fm_tally.proofs.unfinished.move_under.Goals as goal

pub returns-in-Equal-clause-under : goal.returns-in-Equal-clause-under
returns-in-Equal-clause-under c =
    let key = c.args.key in
    let found = c.pairs.found.items in
    let split : c.pairs.left.now ≡ c.in-Some.pair.now ∷ c.in-Some.later.now = search rules in
    let same : nat_cmp c.in-Some.pair.now.0 key ≡ Equal = search rules in
    let none = met_under key c.in-Some.pair.now c.in-Some.later.now same (subst (IsRising nat_cmp) split c.pairs.invariant.rising) in
    sym (append-nil found) ∙ ap (λ xs. found ++ xs) (sym (ap (filter (is_under key)) split ∙ none)) ∙ c.pairs.invariant.under

pub returns-in-Equal-clause-over : goal.returns-in-Equal-clause-over
returns-in-Equal-clause-over c =
    let key = c.args.key in
    let split : c.pairs.left.now ≡ c.in-Some.pair.now ∷ c.in-Some.later.now = search rules in
    let same : nat_cmp c.in-Some.pair.now.0 key ≡ Equal = search rules in
    let all = met_over key c.in-Some.pair.now c.in-Some.later.now same (subst (IsRising nat_cmp) split c.pairs.invariant.rising) in
    sym (ap (filter (is_over key)) split ∙ all) ∙ c.pairs.invariant.over

pub returns-in-Greater-clause-under : goal.returns-in-Greater-clause-under
returns-in-Greater-clause-under c =
    let key = c.args.key in
    let found = c.pairs.found.items in
    let split : c.pairs.left.now ≡ c.in-Some.pair.now ∷ c.in-Some.later.now = search rules in
    let greater : nat_cmp c.in-Some.pair.now.0 key ≡ Greater = search rules in
    let below = beyond key c.in-Some.pair.now c.in-Some.later.now greater (subst (IsRising nat_cmp) split c.pairs.invariant.rising) in
    sym (append-nil found) ∙ ap (λ xs. found ++ xs) (sym (ap (filter (is_under key)) split ∙ none_under key (c.in-Some.pair.now ∷ c.in-Some.later.now) below)) ∙ c.pairs.invariant.under

pub returns-in-Greater-clause-over : goal.returns-in-Greater-clause-over
returns-in-Greater-clause-over c =
    let key = c.args.key in
    let split : c.pairs.left.now ≡ c.in-Some.pair.now ∷ c.in-Some.later.now = search rules in
    let greater : nat_cmp c.in-Some.pair.now.0 key ≡ Greater = search rules in
    let below = beyond key c.in-Some.pair.now c.in-Some.later.now greater (subst (IsRising nat_cmp) split c.pairs.invariant.rising) in
    split ∙ sym (ap (filter (is_over key)) split ∙ all_over key (c.in-Some.pair.now ∷ c.in-Some.later.now) below) ∙ c.pairs.invariant.over
