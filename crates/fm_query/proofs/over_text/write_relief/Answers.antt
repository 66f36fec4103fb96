use Rattle.std.proofs.Common.{◌≡◌, ◌+◌, ◌∷◌, ◌++◌, ◌∙◌, string_bytes, append_assoc, ap, sym, drop}
use Rattle.std.specs.List.{flat_map}
use Rattle.std.proofs.lemmas.List.{drop_more}
use Rattle.fm_query.specs.OverText.{over_lines}
use Rattle.fm_query.proofs.over_text.write_relief.Goals as goal

pub loop-overfull-preserved : goal.loop-overfull-preserved
loop-overfull-preserved c =
    let relief = c.args.relief.now in
    let i = c.loop-overfull.overfull-index in
    let o = c.overfull-item.result in
    let lines = string_bytes c.loop-overfull.lines in
    let rest = flat_map over_lines (drop (i + 1) relief) in
    let split : drop i relief ≡ o ∷ drop (i + 1) relief = drop_more relief i o c.loop-overfull-test.true ∙ ap (λ z. z ∷ drop (i + 1) relief) (sym c.overfull-item.is) in
    c.loop-overfull.invariant
    ∙ ap (λ z. lines ++ flat_map over_lines z) split
    ∙ sym (append_assoc lines (over_lines o) rest)
    ∙ ap (λ xs. xs ++ rest) (sym c.in_ok-write_machine.ensures.ok)
