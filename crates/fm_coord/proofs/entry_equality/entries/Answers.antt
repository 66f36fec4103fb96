use Rattle.std.proofs.Common.{◌≡◌, sym, subst, rules}
use Rattle.std.specs.Bool.{Decides}
use Rattle.fm_coord.proofs.StateEqualityLaws.{same_entry, entry_Decides}
use Rattle.fm_coord.proofs.entry_equality.entries.Goals as goal

pub returns : goal.returns
returns c =
    let value : c.eq.result ≡ same_entry c.args.entry.now c.args.other.now = search rules in
    subst (λ b. Decides b (c.args.entry.now ≡ c.args.other.now)) (sym value) (entry_Decides c.args.entry.now c.args.other.now)
