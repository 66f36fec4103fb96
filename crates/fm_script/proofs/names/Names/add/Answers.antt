use Rattle.std.proofs.Common.{◌∙◌, ◌∷◌, [], ◌++◌, if◌then◌else◌, is_some, sym, ap, ap₂, map, string_bytes}
use Rattle.fm_script.specs.Script.{is_text, is_named}
use Rattle.fm_script.proofs.Naming.{is_some-lookup, not-turned, texts-insert_entry}
use Rattle.fm_script.proofs.names.Names.add.Goals as goal

pub returns-clause-new : goal.returns-clause-new
returns-clause-new c =
    let found = ap is_some c.in_ok-insert.ensures.old ∙ is_some-lookup (is_text _) c.self.inside.places.entries in
    not-turned _ c.is_none.result (ap₂ is_named (sym c.self.view_is) (sym c.in_ok-key.ensures.ok) ∙ sym found ∙ c.is_none.ensures)

pub returns-clause-added : goal.returns-clause-added
returns-clause-added c =
    let inserted = texts-insert_entry c.in_ok-key.key c.self.inside.places.entries in
    let view = c.self.view_is in
    let text = c.in_ok-key.ensures.ok in
    ap (map (λ e. string_bytes e.0)) c.in_ok-insert.ensures.entries ∙ inserted
    ∙ (λ i. if is_named (view i) (text i) then view i else view i ++ text i ∷ [])
