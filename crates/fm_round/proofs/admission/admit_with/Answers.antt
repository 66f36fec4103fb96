use Rattle.std.proofs.Common.{◌≡◌, true, sym, subst, rules}
use Rattle.fm_round.specs.Admission.{told, admission, got_place, is_within_nic}
use Rattle.fm_round.proofs.Nic.{admitted_within}
use Rattle.fm_round.proofs.admission.admit_with.Goals as goal

pub returns-clause-within_nic : goal.returns-clause-within_nic
returns-clause-within_nic c m got =
    let k = c.args.knowledge.now in
    let plan = c.args.plan.now in
    let same : c.into_admitted.result ≡ admission k c.args.coordinator plan = search rules in
    subst (λ a. is_within_nic (told k a.ops) m ≡ true) (sym same)
    (admitted_within c.args.coordinator m plan k c.known.ensures.table (subst (λ a. got_place plan.places a.answers m ≡ true) same got))
