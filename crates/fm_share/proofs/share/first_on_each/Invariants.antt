use Rattle.std.proofs.Common.{◌≡◌, ℕ, [], ◌++◌, take, drop}
use Rattle.std.specs.Prelude.{min}
use Rattle.fm_share.specs.Shares.{count_on, first_on_each}
use Rattle.fm_share.specs.inner.TakenPlaces.{taken_on}
use Rattle.fm_share.proofs.share.first_on_each.Given as goal

abbrev pub invariant-loop-place : goal.invariant-loop-place
invariant-loop-place l = record {
  kept : l.kept.items ++ first_on_each l.each (take l.place-index l.places) (drop l.place-index l.places) ≡ first_on_each l.each [] l.places;
  counted : (m : ℕ) → taken_on l.taken m ≡ min l.each (count_on m (take l.place-index l.places));
}
