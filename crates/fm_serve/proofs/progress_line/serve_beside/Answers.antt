use Rattle.fm_serve.proofs.progress_line.serve_beside.Goals as goal

pub returns : goal.returns
returns g c = c.serve-ending.ensures
