use Rattle.std.proofs.Common.{rules, ◌≡◌, ◌+◌, ℕ, refl, sym, ap, ◌∙◌, subst, Option, Some, slice_get, arith}
use Rattle.std.proofs.lemmas.Option.{slice_get_read}
use Rattle.fm_fleet.specs.Audits.{Matches}
use Rattle.fm_fleet.specs.inner.FirstRefusal.{lesser_of}
use Rattle.fm_fleet.proofs.Logs.{Found, found_same, found_new, found_all}
use Rattle.fm_fleet.proofs.audit.least_differing.Goals.{then-not-matches, else-not-matches}
use Rattle.fm_fleet.proofs.audit.least_differing.Goals as goal

pub loop-log-preserved : goal.loop-log-preserved
loop-log-preserved c =
    let there : slice_get c.args.logs.now c.loop-log.log-index ≡ Some c.log-item.result = slice_get_read _ _ _ _ refl c.loop-log-test.true c.log-item.is in
    elim c.if-not-matches.branch [
      | then-not-matches w ↦
          let apart : ¬ (Matches c.args.made.now c.log-item.result) = search rules in
          let least : c.if-not-matches.least ≡ Some (lesser_of c.loop-log.least c.log-item.result.seat) = w.least-is ∙ ap (λ (k : ℕ). Some k) w.lesser.ensures in
          subst (λ (o : Option ℕ). Found c.args.made.now c.args.logs.now (c.loop-log.log-index + 1) o) (sym least) (found_new _ _ _ _ there c.loop-log.least apart c.loop-log.invariant)
      | else-not-matches w ↦
          let same : Matches c.args.made.now c.log-item.result = search rules in
          subst (λ (o : Option ℕ). Found c.args.made.now c.args.logs.now (c.loop-log.log-index + 1) o) (sym w.least-is) (found_same _ _ _ _ there c.loop-log.least same c.loop-log.invariant)
    ]

pub returns : goal.returns
returns c = found_all _ _ _ c.loop-log.least (omega (arith, c.loop-log-test.false)) c.loop-log.invariant
