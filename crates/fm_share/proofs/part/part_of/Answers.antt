use Rattle.std.proofs.Common.{◌≡◌, sym, subst}
use Rattle.fm_share.specs.declared.share.Share.{Share}
use Rattle.fm_share.specs.Shares.{share_of}
use Rattle.fm_share.proofs.Firsts.{whole_is}
use Rattle.fm_share.proofs.part.part_of.Goals as goal

pub returns-in-None-None : goal.returns-in-None-None
returns-in-None-None c =
    let known = c.args.knowledge.now in
    subst (λ (s : Share). c.args.plan ≡ share_of known s c.args.plan) (λ i. record { writers = sym c.in-None-None.is-0 i; each = sym c.in-None-None.is-1 i })
    (sym (whole_is known c.args.plan))
