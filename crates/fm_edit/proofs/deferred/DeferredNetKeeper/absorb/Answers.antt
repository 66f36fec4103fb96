use Rattle.fm_edit.proofs.Late.{follows_on, given_on, stale_on}
use Rattle.fm_edit.proofs.deferred.DeferredNetKeeper.absorb.Goals as goal

pub returns-else-len-self-clause-ok : goal.returns-else-len-self-clause-ok
returns-else-len-self-clause-ok c =
    let d = c.args.self.now in
    given_on c.law_joined_keys.ensures c.law_no_keys.ensures.joined c.law_no_keys.ensures.nothing d.built d.network d.pending c.args.changed.now c.add.new.self c.in-Ok.ensures c.args._now.now d.editor c.requires

pub returns-else-len-self-clause-stale : goal.returns-else-len-self-clause-stale
returns-else-len-self-clause-stale c =
    let d = c.args.self.now in
    stale_on c.law_joined_keys.ensures c.law_no_keys.ensures.joined c.law_no_keys.ensures.nothing d.built d.network d.pending c.args.changed.now c.add.new.self c.in-Ok.ensures c.args._now.now d.editor

pub returns-else-len-self-clause-keeps_up : goal.returns-else-len-self-clause-keeps_up
returns-else-len-self-clause-keeps_up c = λ took.
    let d = c.args.self.now in
    follows_on c.law_joined_keys.ensures c.law_no_keys.ensures.joined c.law_no_keys.ensures.nothing d.built d.network d.pending c.args.changed.now c.add.new.self c.in-Ok.ensures c.args._now.now d.editor took
