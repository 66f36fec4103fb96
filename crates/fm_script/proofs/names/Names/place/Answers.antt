use Rattle.std.proofs.Common.{◌∙◌, ap, position}
use Rattle.fm_script.specs.Script.{is_text}
use Rattle.fm_script.proofs.Naming.{position-texts}
use Rattle.fm_script.proofs.names.Names.place.Goals as goal

pub returns : goal.returns
returns c =
    let test = is_text c.args.name.now in
    c.get_index_of.ensures.index ∙ position-texts test c.self.inside.places.entries ∙ ap (position test) c.self.view_is
