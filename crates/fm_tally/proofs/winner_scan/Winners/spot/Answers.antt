use Rattle.std.proofs.Common.{◌≡◌, ◌∙◌, ℕ, sym, ap, subst, rules, ◌∷◌, List, [], true, None, option_map}
use Rattle.std.specs.Prelude.{is_none}
use Rattle.std.specs.List.{cons_option}
use Rattle.std.specs.declared.cmp.Ordering.TheVariants.{Greater}
use Rattle.fm_lattice.specs.Maps.{lookup, IsRising}
use Rattle.fm_records.specs.declared.records.Spot.{Spot}
use Rattle.fm_records.specs.Options.{or_else}
use Rattle.fm_records.specs.Orders.{attempt_cmp}
use Rattle.fm_records.specs.laws.OrderLaws.{total_attempt, same_attempt}
use Rattle.fm_records.specs.Facts.{head_option}
use Rattle.fm_tally.proofs.Ahead.{before}
use Rattle.fm_tally.proofs.winner_scan.Winners.spot.Goals as goal

pub returns-in-Greater-clause-spot : goal.returns-in-Greater-clause-spot
returns-in-Greater-clause-spot c =
    let at : ℕ × ℕ = (c.args.task, c.args.attempt) in
    let met : (ℕ × ℕ) × List (ℕ × Spot) = (c.in-Some.at.now, c.in-Some.entries.now) in
    let is : cons_option (option_map (λ e. (e.0.now, e.1.now)) c.entries.self-inside.first) c.entries.self-inside.later ≡ met ∷ c.entries.self-inside.later = search rules in
    let rising = subst (IsRising attempt_cmp) is c.entries.invariant.rising in
    let greater : attempt_cmp met.0 at ≡ Greater = search rules in
    let none : lookup attempt_cmp at (met ∷ c.entries.self-inside.later) ≡ None = before attempt_cmp total_attempt same_attempt at met c.entries.self-inside.later rising greater in
    sym (ap (λ o. option_map (λ w. w.1) (head_option (or_else [] o))) (sym c.entries.invariant.here ∙ ap (lookup attempt_cmp at) is ∙ none))

pub returns-clause-spot : goal.returns-clause-spot
returns-clause-spot c =
    let at : ℕ × ℕ = (c.args.task, c.args.attempt) in
    let none : is_none c.entries.self-inside.first ≡ true = search rules in
    let ended = c.entries.invariant.ended none in
    let nil : cons_option (option_map (λ e. (e.0.now, e.1.now)) c.entries.self-inside.first) c.entries.self-inside.later ≡ [] = search (rules, ended) in
    sym (ap (λ o. option_map (λ w. w.1) (head_option (or_else [] o))) (sym c.entries.invariant.here ∙ ap (lookup attempt_cmp at) nil))
