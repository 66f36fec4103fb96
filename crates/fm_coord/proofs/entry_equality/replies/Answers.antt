use Rattle.std.proofs.Common.{◌≡◌, sym, subst, rules}
use Rattle.std.specs.Bool.{Decides}
use Rattle.fm_coord.proofs.StateEqualityLaws.{same_reply, reply_Decides}
use Rattle.fm_coord.proofs.entry_equality.replies.Goals as goal

pub returns : goal.returns
returns c =
    let value : c.eq.result ≡ same_reply c.args.reply.now c.args.other.now = search rules in
    subst (λ b. Decides b (c.args.reply.now ≡ c.args.other.now)) (sym value) (reply_Decides c.args.reply.now c.args.other.now)
