-- What telling operations to a table comes to.
use Rattle.std.proofs.Common.{◌≡◌, List, [], ◌++◌, refl, sym, ◌∙◌, ap, append_assoc, append-nil}
use Rattle.fm_records.specs.declared.ops.Op.{Op}
use Rattle.fm_records.specs.Table.{Table}
use Rattle.fm_records.specs.Know.{table_of}
use Rattle.fm_records.specs.Joined.{table_join}
use Rattle.fm_records.specs.OpsOfTable.{ops, IsTable}
use Rattle.fm_records.proofs.UnionLaws.{know_append}
use Rattle.fm_records.proofs.SpelledLaws.{know_ops}
use Rattle.fm_records.proofs.RangeLaws.{know_table}
use Rattle.fm_round.specs.Admission.{told}

pub told_is : (k : Table) (new : List Op) → table_join k (table_of new) ≡ told k new
unfolding told
told_is k new = refl

-- the table of a set, told more, is that of the set with more
pub told_set : (S new : List Op) → told (table_of S) new ≡ table_of (S ++ new)
unfolding told
told_set S new = sym (know_append S new)

module _ (k : Table) (is : IsTable k) where
  pub told_spelled : (new : List Op) → told k new ≡ table_of (ops k ++ new)
  told_spelled new = ap (λ z. told z new) (know_ops k is) ∙ told_set (ops k) new

  pub told_nothing : told k [] ≡ k
  told_nothing = told_spelled [] ∙ ap table_of (append-nil (ops k)) ∙ sym (know_ops k is)

  pub told_more : (new more : List Op) → told (told k new) more ≡ told k (new ++ more)
  told_more new more =
      ap (λ z. told z more) (told_spelled new)
      ∙ told_set (ops k ++ new) more
      ∙ ap table_of (append_assoc (ops k) new more)
      ∙ sym (told_spelled (new ++ more))

  pub told_table : (new : List Op) → IsTable (told k new)
  told_table new = rw (told_spelled new) (know_table (ops k ++ new))
