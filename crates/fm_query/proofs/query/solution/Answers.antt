use Rattle.std.proofs.Common.{◌≡◌, None, IfOk, refl, inl, inr, subst}
use Rattle.std.specs.Option.{IsSomeAnd}
use Rattle.fm_records.specs.Table.{Table}
use Rattle.fm_net.specs.Network.{net_of}
use Rattle.fm_query.specs.QueryTexts.{network_of, IsSolution}
use Rattle.fm_query.proofs.Asking.{of_none, of_some}
use Rattle.fm_query.proofs.query.solution.Goals as goal

pub returns-in-None-clause-err : goal.returns-in-None-clause-err
returns-in-None-clause-err g c = λ w h. inr (inl (of_none c.args.world.now w c.args.at h (λ o. o ≡ None) c.in-None.ensures refl, refl))

pub returns-in-Some-clause-ok : goal.returns-in-Some-clause-ok
returns-in-Some-clause-ok g c = λ w h.
    of_some c.args.world.now w c.args.at h (λ o. IfOk c.solution_text.result (λ text. IsSomeAnd o (λ r. IsSolution (network_of r) text.items))) _ c.in-Some.ensures
    (λ r same. subst (λ (k : Table). IfOk c.solution_text.result (λ text. IsSolution (net_of k) text.items)) same c.solution_text.ensures.ok)
