use Rattle.std.proofs.Common.{◌≡◌, ◌+◌, ◌∷◌, ◌++◌, ◌∙◌, string_bytes, append_assoc, ap, subst, sym, drop}
use Rattle.std.specs.List.{flat_map}
use Rattle.std.proofs.lemmas.List.{drop_more}
use Rattle.fm_query.specs.Unpacked.{preferred_text}
use Rattle.fm_query.proofs.unpack.write_preferred.Goals as goal

pub loop-entry-preserved : goal.loop-entry-preserved
loop-entry-preserved c =
    let es = c.entries-entry-items.result.now in
    let is : es ≡ c.args.prefer.now = c.entries-entry-items.ensures.entries in
    let i = c.loop-entry.entry-index in
    let e = c.entry-item.result in
    let lines = string_bytes c.loop-entry.lines in
    let rest = flat_map preferred_text (drop (i + 1) c.args.prefer.now) in
    let split : drop i es ≡ e ∷ drop (i + 1) es = drop_more es i e c.loop-entry-test.true ∙ ap (λ z. z ∷ drop (i + 1) es) (sym c.entry-item.is) in
    c.loop-entry.invariant
    ∙ ap (λ z. lines ++ flat_map preferred_text z) (subst (λ xs. drop i xs ≡ e ∷ drop (i + 1) xs) is split)
    ∙ sym (append_assoc lines (preferred_text e) rest)
    ∙ ap (λ xs. xs ++ rest) (sym c.in_ok-write_entry.ensures.ok)
