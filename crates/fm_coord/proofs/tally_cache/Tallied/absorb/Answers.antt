use Rattle.std.proofs.Common.{◌≡◌, rules}
use Rattle.fm_policy.specs.Changes.{joined_keys}
use Rattle.fm_coord.proofs.Tallying.{follow_on}
use Rattle.fm_coord.proofs.tally_cache.Tallied.absorb.Goals as goal

pub returns-else-len-few : goal.returns-else-len-few
returns-else-len-few c now t =
    let old = c.args.self.now in
    let keys = c.args.changed.now in
    let joined : c.add.new.self ≡ joined_keys old.pending keys = search rules in
    record {
      tasks = follow_on c.law_joined_keys.ensures old.tasks old.pending keys c.add.new.self now joined (record { before = t.before; delta = t.delta; before_can_be = t.before_can_be; delta_can_be = t.delta_can_be; for_before = λ h. (t.for_before h).tasks; joined = t.joined; keys = t.keys });
      tally = tt;
    }
