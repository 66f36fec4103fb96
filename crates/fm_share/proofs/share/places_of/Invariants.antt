use Rattle.std.proofs.Common.{◌≡◌, ◌++◌, drop, filter}
use Rattle.fm_share.specs.Shares.{has_task}
use Rattle.fm_share.proofs.share.places_of.Given as goal

abbrev pub invariant-loop-place : goal.invariant-loop-place
invariant-loop-place l = l.found.items ++ filter (λ p. has_task l.knowledge l.writers p.task) (drop l.place-index l.places) ≡ filter (λ p. has_task l.knowledge l.writers p.task) l.places
