-- What the value of a line asks for.
use Rattle.std.specs.Prelude.{◌≡◌, ℕ, List, Some}
use Rattle.serde_json.specs.Data.{Data}
use Rattle.fm_script.specs.declared.request.StreamLine.{StreamLine}
use Rattle.fm_script.specs.declared.request.StreamLine.TheVariants as line
use Rattle.fm_script.specs.Requests.{request_model, request_from}
use Rattle.fm_script.specs.StreamLines.{ChecksLine}

abbrev pub IsLineOf : List (List ℕ) → Data → StreamLine → Type 0
IsLineOf names d (line.Request q) = request_from names d ≡ Some (request_model q)
IsLineOf names d (line.Check c) = ChecksLine names d c
