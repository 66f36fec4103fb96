use Rattle.std.proofs.Common.{rules, ◌≡◌, ◌∙◌, ◌-◌, ◌∷◌, List, suc, length, drop, take, ap, sym, zero-add, arith}
use Rattle.std.proofs.lemmas.List.{take_all, length-drop}
use Rattle.std.proofs.Math.Seq.{drop-cons}
use Rattle.fm_certificate.specs.Totals.{Entry, source, units_at}
use Rattle.fm_certificate.proofs.Leaving.{rising_drop, ended, one_more}
use Rattle.fm_certificate.proofs.Units.{units_bound}
use Rattle.fm_certificate.proofs.outflow.sum_from.Goals as goal

pub loop-entry-init : goal.loop-entry-init
loop-entry-init c =
    let all : take (length c.args.units.now - c.first_from.result) (drop c.first_from.result c.args.units.now) ≡ drop c.first_from.result c.args.units.now = take_all _ _ (omega (arith, length-drop c.first_from.result c.args.units.now)) in
    rw all (rising_drop c.args.units.now c.first_from.result c.requires.rises, c.first_from.ensures.none_below, zero-add _ ∙ c.first_from.ensures.all)

pub returns-then-ne : goal.returns-then-ne
returns-then-ne c =
    let items : List Entry = take (length c.args.units.now - c.first_from.result) (drop c.first_from.result c.args.units.now) in
    let at = c.loop-entry.entry-index in
    let entry = c.entry-item.result in
    let parts : drop at items ≡ entry ∷ drop (suc at) items = drop-cons items at entry c.loop-entry-test.true ∙ ap (λ e. e ∷ drop (suc at) items) (sym c.entry-item.is) in
    let rises = rw parts at c.loop-entry.invariant.0 in
    let none_below = rw parts at c.loop-entry.invariant.1 in
    let other : entry.0.0 ≡ c.args.node.now → ⊥ = search rules in
    let none : units_at source (drop at items) c.args.node.now ≡ 0 = rw parts (ended c.args.node.now entry (drop (suc at) items) rises none_below other) in
    omega (arith, c.loop-entry.invariant.2)

pub overflow_add-sum : goal.overflow_add-sum
overflow_add-sum c =
    let items : List Entry = take (length c.args.units.now - c.first_from.result) (drop c.first_from.result c.args.units.now) in
    let at = c.loop-entry.entry-index in
    let entry = c.entry-item.result in
    let parts : drop at items ≡ entry ∷ drop (suc at) items = drop-cons items at entry c.loop-entry-test.true ∙ ap (λ e. e ∷ drop (suc at) items) (sym c.entry-item.is) in
    let is : entry.0.0 ≡ c.args.node.now = search rules in
    let more = one_more c.args.node.now entry (drop (suc at) items) is in
    let left : units_at source (drop at items) c.args.node.now ≡ units_at source (entry ∷ drop (suc at) items) c.args.node.now = ap (λ es. units_at source es c.args.node.now) parts in
    let bound = units_bound source c.args.node.now c.args.units.now c.requires.fits in
    omega (arith, c.loop-entry.invariant.2, c.from-sum.ensures, c.requires.short)
