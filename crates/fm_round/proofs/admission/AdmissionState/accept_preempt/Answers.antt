use Rattle.std.proofs.Common.{◌≡◌, ◌∷◌, [], sym, ◌∙◌, ap, subst, true, IsTrue, rules}
use Rattle.fm_records.specs.Ranges.{in_range, all_in_range}
use Rattle.fm_records.proofs.RangeLaws.{all_pass}
use Rattle.fm_records.specs.OpsOfTable.{IsTable}
use Rattle.fm_round.specs.Admission.{told, preempt_ops}
use Rattle.fm_round.proofs.Results.{both_ok}
use Rattle.fm_round.proofs.Told.{told_table}
use Rattle.fm_round.proofs.admission.AdmissionState.accept_preempt.Goals as goal

pub returns-clause-ready : goal.returns-clause-ready
returns-clause-ready c =
    let old = c.args.self.now in
    let k = old.now in
    let p = c.args.preempt.now in
    let new = c.tell.new.self in
    let l = told k (preempt_ops k p) in
    both_ok (λ now more.
    let then : new.now ≡ l = now ∙ ap (λ o. told k (o ∷ [])) c.pending.ensures.op in
    record {
      table = subst IsTable (sym then) (told_table k c.requires.ready.table (preempt_ops k p));
      in_range = subst (λ xs. IsTrue (all_in_range xs)) (sym more) (all_pass in_range old.ops.items (c.pending.result ∷ []) c.requires.ready.in_range (let one : all_in_range (c.pending.result ∷ []) ≡ true = search (rules, c.pending.ensures.within) in one));
    }) c.tell.result c.tell.ensures.now c.tell.ensures.ops
