-- A keeper that takes in one delta after another follows by the keys of both, and by none where nothing was told.
use Rattle.std.proofs.Common.{◌≡◌, ◌∙◌, true, [], refl, sym, ap}
use Rattle.fm_records.specs.Table.{Table}
use Rattle.fm_records.specs.Ranges.{CanBe}
use Rattle.fm_records.proofs.RangeLaws.{know_can_be}
use Rattle.fm_records.specs.Know.{table_of}
use Rattle.fm_records.specs.Joined.{table_join}
use Rattle.fm_records.proofs.JoinedLaws.{table_laws}
use Rattle.fm_policy.specs.Changes.{Keys, no_keys, changed_keys, joined_keys}
use Rattle.fm_policy.specs.Keeping.{FollowsAfter}

pub took_none : (is_for : Table → Type 0) (k : Table) (keys : Keys) → CanBe k → keys ≡ no_keys → is_for k → FollowsAfter true is_for k keys
took_none is_for k keys can none here = record {
  before = k;
  delta = table_of [];
  before_can_be = can;
  delta_can_be = know_can_be [] refl;
  for_before = λ _. here;
  joined = refl;
  keys = none;
}

pub took_on : ((k l : Table) → CanBe k → CanBe l → changed_keys (table_join k l) ≡ joined_keys (changed_keys k) (changed_keys l))
    → (is_for : Table → Type 0) (old keys new : Keys) (now : Table) → new ≡ joined_keys old keys
    → FollowsAfter true (λ k. FollowsAfter true is_for k old) now keys → FollowsAfter true is_for now new
took_on joins is_for old keys new now is t =
    let u = t.for_before refl in
    record {
      before = u.before;
      delta = table_join u.delta t.delta;
      before_can_be = u.before_can_be;
      delta_can_be = table_laws.closed u.delta t.delta u.delta_can_be t.delta_can_be;
      for_before = u.for_before;
      joined = t.joined ∙ ap (λ k. table_join k t.delta) u.joined ∙ table_laws.assoc u.before u.delta t.delta u.before_can_be u.delta_can_be t.delta_can_be;
      keys = is ∙ (λ i. joined_keys (u.keys i) (t.keys i)) ∙ sym (joins u.delta t.delta u.delta_can_be t.delta_can_be);
    }
