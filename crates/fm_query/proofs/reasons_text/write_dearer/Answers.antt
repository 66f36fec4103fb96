use Rattle.std.proofs.Common.{◌≡◌, ◌++◌, ◌-◌, ◌∙◌, ap, sym, codes, false, string_bytes, append_assoc, Some}
use Rattle.std.specs.Prelude.{decimal, if◌then◌else◌}
use Rattle.fm_query.specs.ReasonsText.{at_least_text, beyond_text, dearer_text, exact_text, is_exact}
use Rattle.fm_query.proofs.reasons_text.write_dearer.Goals as goal

pub returns-in_ok-write-clause-ok : goal.returns-in_ok-write-clause-ok
returns-in_ok-write-clause-ok c =
    let e = c.args.choice.now in
    let least = c.args.least in
    let example = c.in-Some.example in
    let old = string_bytes c.args.lines.now in
    let not : is_exact least e (Some example) ≡ false = ap (is_exact least e) (sym c.in-Some.is) ∙ sym c.is_exact.ensures ∙ c.if-is_exact.false in
    c.in_ok-write.ensures.bytes
    ∙ ap (λ beyond. string_bytes c.write_at_least.new.lines ++ (codes "; one was found that costs " ++ (decimal beyond ++ codes " more"))) c.saturating_sub-beyond.ensures
    ∙ ap (λ told. told ++ (codes "; one was found that costs " ++ (decimal (example.cost - least) ++ codes " more"))) c.in_ok-write_at_least.ensures.ok
    ∙ append_assoc old (at_least_text e) (codes "; one was found that costs " ++ (decimal (example.cost - least) ++ codes " more"))
    ∙ ap (λ b. old ++ (if b then exact_text e else beyond_text least e example)) (sym not)
    ∙ ap (λ found. old ++ dearer_text least e found) (sym c.in-Some.is)
