use Rattle.std.proofs.Common.{◌≡◌, ◌∷◌, [], ◌∙◌, ap, rules}
use Rattle.fm_round.specs.Admission.{told, place_ops}
use Rattle.fm_round.proofs.Results.{on_ok}
use Rattle.fm_round.proofs.Told.{told_more}
use Rattle.fm_round.proofs.admission.AdmissionState.tell_place.Goals as goal

pub returns-in_ok-tell-clause-now : goal.returns-in_ok-tell-clause-now
returns-in_ok-tell-clause-now c =
    let k = c.args.self.now.now in
    let first = c.pending.result in
    let then = c.proposal.result in
    on_ok (λ now. now ∙ ap (λ l. told l (then ∷ [])) c.in_ok-tell.ensures.now ∙ told_more k c.requires.table (first ∷ []) (then ∷ []) ∙ ap (told k) (let same : first ∷ then ∷ [] ≡ place_ops c.args.coordinator k c.args.place.now = search rules in same)) c.tell-then-has_proposal.result c.tell-then-has_proposal.ensures.now
