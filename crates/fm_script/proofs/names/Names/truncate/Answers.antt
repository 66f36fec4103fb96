use Rattle.std.proofs.Common.{sym, ap, ◌∙◌, map, take, string_bytes}
use Rattle.std.proofs.lemmas.List.{take-map}
use Rattle.fm_script.proofs.names.Names.truncate.Goals as goal

pub returns : goal.returns
returns c =
    ap (map (λ e. string_bytes e.0)) c.truncate.ensures.entries ∙ sym (take-map (λ e. string_bytes e.0) c.args.len c.self.inside.places.entries)
    ∙ ap (take c.args.len) c.self.view_is
