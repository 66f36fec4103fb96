use Rattle.std.proofs.Common.{◌≡◌, ℕ, suc, ◌+◌, ◌<◌, ◌∷◌, ◌++◌, List, length, get_or, drop, refl, sym, ap, ◌∙◌, add-one, arith}
use Rattle.std.specs.Int.{w8, w128}
use Rattle.std.proofs.Math.Seq.{drop-cons}
use Rattle.std.proofs.lemmas.List.{drop_all}
use Rattle.fm_wire.specs.Formats.{bytes_of}
use Rattle.fm_wire.specs.Grammar.{id, price_field, preferences}
use Rattle.fm_wire.proofs.Walks.{begun, wrote, written}
use Rattle.fm_wire.proofs.preferences.put_preferences.Goals as goal

abbrev spell_one : ℕ × ℕ → List ℕ
spell_one e = id.spell e.0 ++ price_field.spell e.1

first_of_rest : (es : List (ℕ × ℕ)) (i : ℕ) (e : ℕ × ℕ) → i < length es → e ≡ get_or es i e → drop i es ≡ e ∷ drop (i + 1) es
first_of_rest es i e lt is = rw add-one (drop-cons es i e lt ∙ ap (λ z. z ∷ drop (suc i) es) (sym is))

pub loop-machine-init : goal.loop-machine-init
unfolding preferences
loop-machine-init c = begun w8 spell_one c.args.out.now.items c.put_u8.new.out.items (length c.entries-entries.result.now) c.args.prefer.now c.entries-entries.result.now
    c.in_ok-put_u8.ensures (ap length c.entries-entries.ensures.entries) c.entries-entries.ensures.entries

pub loop-machine-preserved : goal.loop-machine-preserved
unfolding preferences
loop-machine-preserved c =
    let here = c.loop-machine-item.result in
    let this : drop c.loop-machine.machine-index c.entries-entries.result.now ≡ here ∷ drop (c.loop-machine.machine-index + 1) c.entries-entries.result.now = first_of_rest c.entries-entries.result.now c.loop-machine.machine-index here (omega arith) c.loop-machine-item.is in
    wrote spell_one c.loop-machine.out.items c.put_u128.new.out.items c.put_u32.new.out.items (id.spell here.0) (price_field.spell here.1) here
    (drop c.loop-machine.machine-index c.entries-entries.result.now) (drop (c.loop-machine.machine-index + 1) c.entries-entries.result.now) _
    (c.in_ok-put_u128.ensures ∙ ap (λ z. c.loop-machine.out.items ++ bytes_of w128 z) c.value.ensures) c.in_ok-put_u32.ensures refl this c.loop-machine.invariant

pub returns : goal.returns
unfolding preferences
returns c = written spell_one c.loop-machine.out.items _ (drop c.loop-machine.machine-index c.entries-entries.result.now) (drop_all c.loop-machine.machine-index c.entries-entries.result.now (omega arith)) c.loop-machine.invariant
