-- What is answered to a line: its text and `ok`, or why it was refused (this project's profile).
use Rattle.std.specs.Prelude.{ℕ, List, ◌++◌, codes, decimal}
use Rattle.fm_records.specs.declared.refusal.Refusal.{Refusal}
use Rattle.fm_records.specs.Refusals.{refusal_number}

abbrev pub accepted_reply : List ℕ → List ℕ
accepted_reply text = text ++ codes "ok\n"

abbrev pub refusal_reply : Refusal → List ℕ
refusal_reply r = codes "refusal " ++ (decimal (refusal_number r) ++ codes "\n")
