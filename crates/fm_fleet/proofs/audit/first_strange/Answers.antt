use Rattle.std.proofs.Common.{rules, ◌≡◌, refl, Some, slice_get, IsTrue, arith}
use Rattle.std.proofs.lemmas.Option.{slice_get_read}
use Rattle.fm_coord.specs.declared.entry.Entry.{Entry}
use Rattle.fm_fleet.specs.Audits.{IsListed}
use Rattle.fm_fleet.proofs.Logs.{up_to_more, all_places}
use Rattle.fm_fleet.proofs.audit.first_strange.Goals as goal

pub loop-entry-preserved : goal.loop-entry-preserved
loop-entry-preserved c =
    let there : slice_get c.args.made.now c.loop-entry.entry-index ≡ Some c.entry-item.result = slice_get_read _ _ _ _ refl c.loop-entry-test.true c.entry-item.is in
    let yes : IsTrue c.is_listed.result = search rules in
    up_to_more (λ (e : Entry). IsListed c.args.logs.now e.by) _ _ _ there c.loop-entry.invariant (c.is_listed.ensures.0 yes)

pub returns : goal.returns
returns c = all_places (λ (e : Entry). IsListed c.args.logs.now e.by) _ _ (omega (arith, c.loop-entry-test.false)) c.loop-entry.invariant
