-- What the program answers to what its words ask for and to the text of its input (this project's profile).
use Rattle.std.specs.Prelude.{◌≡◌, ℕ, List, []}
use Rattle.fm_records.specs.declared.refusal.Refusal.TheVariants.{OutOfMemory}
use Rattle.fm_args.specs.Invocation.{Telling, run, fleet, follow, follow_with_store, records, recover, help, page, version, wrong}
use Rattle.fm_serve.specs.declared.ending.Ending.{Ending}
use Rattle.fm_serve.specs.declared.ending.Ending.TheVariants.{Done, Wrong, Stopped}
use Rattle.fm_serve.specs.Faults.{fault_of}
use Rattle.fm_serve.specs.Fleets.{IsCounted, IsNotCounted}
use Rattle.fm_query.specs.QueryTexts.{version_text}
use Rattle.fm_serve.specs.Refused.{refusals_text}
use Rattle.fm_serve.specs.Answers.{Wants, IsCommandRefused}

-- the ending and the complete output: a command's answer, or why it has none; a fleet's counts, or why it has none;
-- nothing for a stream, whose lines are answered one by one, or for the file of a store, which is no input; some text of help; the page of refusals, or the version, or memory ran out
-- for it; or the words are wrong, with something to say of them. A run that is stopped has no output
abbrev pub Responds : Telling → List ℕ → Ending → List ℕ → Type 0
Responds (run c) text (Stopped fault) output = IsCommandRefused c text fault × (output ≡ [])
Responds (run c) text ending output = Wants c text ending output
Responds (fleet rounds) text (Stopped fault) output = IsNotCounted text fault × (output ≡ [])
Responds (fleet rounds) text ending output = (ending ≡ Done) × IsCounted rounds text output
Responds (follow renew_after) text ending output = (ending ≡ Done) × (output ≡ [])
Responds (follow_with_store renew_after path label) text ending output = (ending ≡ Done) × (output ≡ [])
Responds (records path) text ending output = (ending ≡ Done) × (output ≡ [])
Responds (recover path) text ending output = (ending ≡ Done) × (output ≡ [])
Responds help text ending output = ending ≡ Done
Responds page text (Stopped fault) output = (fault ≡ fault_of OutOfMemory) × (output ≡ [])
Responds page text ending output = (ending ≡ Done) × (output ≡ refusals_text)
Responds version text (Stopped fault) output = (fault ≡ fault_of OutOfMemory) × (output ≡ [])
Responds version text ending output = (ending ≡ Done) × (output ≡ version_text)
Responds wrong text (Wrong said) output = output ≡ []
Responds wrong text ending output = ⊥
