use Rattle.std.proofs.Common.{◌∙◌, Some, option_map, unwrap_or, ap, ap₂}
use Rattle.std.specs.List.{position_or_len}
use Rattle.fm_script.specs.Script.{is_text}
use Rattle.fm_script.specs.declared.script.ScriptAct.TheVariants.{Deliver}
use Rattle.fm_script.proofs.Naming.{unwrap_or-position}
use Rattle.fm_script.proofs.parse_script.delivery_in.Goals as goal

pub returns : goal.returns
returns c =
    let names = c.args.names.now in
    let place = c.unwrap_or-place.ensures ∙ ap₂ unwrap_or c.place.ensures c.len.ensures ∙ unwrap_or-position (is_text c.in_ok-name.name.now) names in
    ap (λ n. Some (Deliver n)) place ∙ ap (option_map (λ name. Deliver (position_or_len (is_text name) names))) c.in_ok-name.ensures
