use Rattle.std.proofs.Common.{◌∙◌, ap, rules}
use Rattle.std.specs.Option.{unwrap_or}
use Rattle.fm_net.proofs.Shown.{rising_said}
use Rattle.fm_net.proofs.slab_map.place_at.Goals as goal

pub returns-clause-place : goal.returns-clause-place
returns-clause-place g c = c.or_insert.ensures.value ∙ ap (λ o. unwrap_or o c.args.next) c.in_ok-places.ensures.value

pub returns-clause-rising : goal.returns-clause-rising
returns-clause-rising g c = rising_said g.K.Ord.cmp _ (search rules)
