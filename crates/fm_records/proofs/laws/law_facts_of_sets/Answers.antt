use Rattle.fm_records.proofs.SetFactLaws.{stands_is, live_is, opened_is, holder_is, load_is, spare_is, room_is}
use Rattle.fm_records.proofs.laws.law_facts_of_sets.Goals as goal

pub returns : goal.returns
returns c = record { stands = stands_is; live = live_is; opened = opened_is; holder = holder_is; load = load_is; spare = spare_is; room = room_is }
