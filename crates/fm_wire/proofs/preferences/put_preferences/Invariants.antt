use Rattle.std.proofs.Common.{◌≡◌, ◌++◌, drop}
use Rattle.std.specs.List.{flat_map}
use Rattle.fm_wire.specs.declared.version.Version.TheVariants.{Fdg2}
use Rattle.fm_wire.specs.Grammar.{id, price_field, preferences}
use Rattle.fm_wire.proofs.preferences.put_preferences.Given as goal

-- what is written and the machines that are left are what was there and all machines
abbrev pub invariant-loop-machine : goal.invariant-loop-machine
invariant-loop-machine l =
    l.out.items ++ flat_map (λ e. id.spell e.0 ++ price_field.spell e.1) (drop l.machine-index l.entries)
    ≡ l.fn.out.items ++ (preferences Fdg2).spell l.prefer
