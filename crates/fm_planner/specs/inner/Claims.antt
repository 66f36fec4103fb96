-- The prices of a claim.
use Rattle.std.specs.Prelude.{ℕ}
use Rattle.std.specs.Ordering.{nat_cmp}
use Rattle.fm_lattice.specs.Maps.{lookup}
use Rattle.fm_records.specs.Options.{or_else}
use Rattle.fm_planner.specs.declared.claim.Claim.{Claim}

-- by how much the price of a machine is above its load
abbrev pub rise_of : Claim → ℕ → ℕ
rise_of claim m = or_else 0 (lookup nat_cmp m claim.rises)

-- what the units of a request pay for a machine
abbrev pub offer_of : Claim → ℕ → ℕ
offer_of claim r = or_else 0 (lookup nat_cmp r claim.offers)
