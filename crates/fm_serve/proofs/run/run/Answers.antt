use Rattle.fm_script.specs.Openings.{new_world}
use Rattle.fm_serve.proofs.Coming.{is_run}
use Rattle.fm_serve.proofs.run.run.Goals as goal

pub returns-clause-ok : goal.returns-clause-ok
returns-clause-ok c =
    let came = c.in_ok-take_all.ensures.ok (new_world c.deref.result.now) c.in_ok-world.ensures in
    is_run _ _ _ _ _ came.0 c.deref.ensures.value c.deref-2.ensures.value came.1 came.2
