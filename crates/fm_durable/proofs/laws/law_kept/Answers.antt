use Rattle.fm_durable.proofs.Keeping.{all_kept}
use Rattle.fm_durable.proofs.laws.law_kept.Goals as goal

pub returns : goal.returns
returns c = λ most behind label content groups t stand committed.
    let law = c.law_stored.ensures in
    all_kept most behind stand (record {
      opened = law.opened most behind;
      line = λ S line answer k j. law.line S most behind line answer k j;
      stored = law.stored;
      full = law.full;
      marked = law.marked;
      restored_so = law.restored behind;
      listed_so = law.listed most behind;
      known = law.known;
    }) label content t groups committed
