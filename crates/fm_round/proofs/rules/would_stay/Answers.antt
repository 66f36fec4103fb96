use Rattle.std.proofs.Common.{◌≡◌, ℕ, ◌+◌, false, Option, Some, None, refl, sym, ◌∙◌, ap}
use Rattle.std.specs.Prelude.{option_map}
use Rattle.fm_know.specs.Winners.{as_winner}
use Rattle.fm_know.specs.declared.facts.Winner.{Winner}
use Rattle.fm_records.specs.declared.records.Spot.{Spot}
use Rattle.fm_records.specs.Options.{passes}
use Rattle.fm_records.specs.Table.{Table}
use Rattle.fm_records.specs.Facts.{winner_of, is_present}
use Rattle.fm_round.specs.Admission.{is_open_at}
use Rattle.fm_round.proofs.After.{live_spec_of, preempt_leaves}
use Rattle.fm_round.proofs.rules.would_stay.Goals as goal

present_winner : (k : Table) (o : Option (ℕ × Spot)) (w : Winner) → Some w ≡ option_map as_winner o → passes (is_present k) (option_map (λ x. x.1) o) ≡ is_open_at k w.machine w.incarnation
present_winner k None w e = absurd (let no : ⊥ = cc in no)
present_winner k (Some v) w e = let is : w ≡ as_winner v = cc in sym (ap (λ x. is_open_at k x.machine x.incarnation) is)

no_winner : (k : Table) (o : Option (ℕ × Spot)) → None ≡ option_map as_winner o → passes (is_present k) (option_map (λ x. x.1) o) ≡ false
no_winner k None e = refl
no_winner k (Some v) e = absurd (let no : ⊥ = cc in no)

pub returns-in-Some : goal.returns-in-Some
returns-in-Some c =
    let k = c.args.known.now in
    let p = c.args.preempt.now in
    let live = live_spec_of k p.task c.requires.live in
    c.is_present.ensures
    ∙ ap (is_present k) c.spot.ensures
    ∙ sym (present_winner k (winner_of k p.task (p.attempt + 1)) c.in-Some.winner c.in-Some.ensures)
    ∙ sym (preempt_leaves k c.known.ensures.table p live.0 live.1 c.requires.present)

pub returns-in-None : goal.returns-in-None
returns-in-None c =
    let k = c.args.known.now in
    let p = c.args.preempt.now in
    let live = live_spec_of k p.task c.requires.live in
    sym (no_winner k (winner_of k p.task (p.attempt + 1)) c.in-None.ensures)
    ∙ sym (preempt_leaves k c.known.ensures.table p live.0 live.1 c.requires.present)
