use Rattle.std.proofs.Common.{◌∙◌, ap, [], ◌∷◌}
use Rattle.std.proofs.lemmas.Result.{on_ok_weaker}
use Rattle.fm_records.specs.Joined.{table_join}
use Rattle.fm_round.proofs.Told.{told_is}
use Rattle.fm_round.proofs.admission.tell_op.Goals as goal

pub returns : goal.returns
returns c =
    let k = c.args.now.now in
    record {
      now = on_ok_weaker c.join_into.result
          (λ joined. joined ∙ ap (table_join k) c.in_ok-delta.ensures ∙ told_is k (c.args.op.now ∷ [])) c.join_into.ensures.ok;
    }
