use Rattle.fm_records.proofs.LookupLaws.{lookup_job}
use Rattle.fm_records.proofs.FactLaws.{spec_is, progress_is, incarnation_is, state_is, report_is, entry_is, winner_is}
use Rattle.fm_records.proofs.laws.law_facts.Goals as goal

pub returns : goal.returns
returns c = record { job = lookup_job; spec = spec_is; progress = progress_is; incarnation = incarnation_is; state = state_is; report = report_is; entry = entry_is; winner = winner_is }
