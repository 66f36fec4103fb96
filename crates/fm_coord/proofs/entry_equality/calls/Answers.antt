use Rattle.std.proofs.Common.{◌≡◌, sym, subst, rules}
use Rattle.std.specs.Bool.{Decides}
use Rattle.fm_coord.proofs.StateEqualityLaws.{same_call, call_Decides}
use Rattle.fm_coord.proofs.entry_equality.calls.Goals as goal

pub returns : goal.returns
returns c =
    let value : c.eq.result ≡ same_call c.args.call.now c.args.other.now = search rules in
    subst (λ b. Decides b (c.args.call.now ≡ c.args.other.now)) (sym value) (call_Decides c.args.call.now c.args.other.now)
