use Rattle.std.proofs.Common.{◌≡◌, ℕ, [], true, option_map, length}
use Rattle.std.specs.Prelude.{is_none}
use Rattle.std.specs.List.{cons_option}
use Rattle.std.specs.declared.cmp.Ordering.TheVariants.{Less}
use Rattle.fm_lattice.specs.Maps.{lookup, IsRising}
use Rattle.fm_records.specs.Orders.{attempt_cmp}
use Rattle.fm_tally.proofs.winner_scan.Winners.spot.Given as goal

abbrev pub invariant-entries : goal.invariant-entries
invariant-entries l = record {
  rising : IsRising attempt_cmp (cons_option (option_map (λ e. (e.0.now, e.1.now)) l.self-inside.first) l.self-inside.later);
  ended : is_none l.self-inside.first ≡ true → l.self-inside.later ≡ [];
  here : lookup attempt_cmp (l.task, l.attempt) (cons_option (option_map (λ e. (e.0.now, e.1.now)) l.self-inside.first) l.self-inside.later) ≡ lookup attempt_cmp (l.task, l.attempt) l.fn.self;
  later : (t a : ℕ) → attempt_cmp (l.task, l.attempt) (t, a) ≡ Less → lookup attempt_cmp (t, a) (cons_option (option_map (λ e. (e.0.now, e.1.now)) l.self-inside.first) l.self-inside.later) ≡ lookup attempt_cmp (t, a) l.fn.self;
}

abbrev pub decreases-entries : goal.decreases-entries
decreases-entries l = length (cons_option (option_map (λ e. (e.0.now, e.1.now)) l.self-inside.first) l.self-inside.later)
