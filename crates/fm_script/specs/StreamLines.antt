-- What a line of a stream asks for: a request, or to check a line (this project's profile).
use Rattle.std.specs.Prelude.{◌≡◌, ℕ, List, codes, Some, None, is_some, IsTrue}
use Rattle.serde_json.specs.Data.{Data}
use Rattle.serde_json.specs.Read.{read as read_text}
use Rattle.fm_records.specs.Options.{or_else}
use Rattle.fm_script.specs.declared.request.StreamLine.{StreamLine}
use Rattle.fm_script.specs.declared.request.StreamLine.TheVariants as line
use Rattle.fm_script.specs.declared.request.CheckedLine.{CheckedLine}
use Rattle.fm_script.specs.declared.request.CheckedRequest.{CheckedRequest}
use Rattle.fm_script.specs.declared.request.CheckedRequest.TheVariants as checked
use Rattle.fm_script.specs.Json.{number_8_at}
use Rattle.fm_script.specs.Requests.{request_model, request_from, line_checked, AsksNothing, Requests, IsPlain}

-- the number in the `at` of a value, and 0 if it has none
abbrev pub at_of : Data → ℕ
at_of d = or_else 0 (number_8_at (codes "at") d)

-- what the value of a line that is checked asks for: to check a line, a request, or nothing
abbrev pub IsAskedBy : List (List ℕ) → Data → CheckedRequest → Type 0
IsAskedBy names d checked.Nothing = AsksNothing names d
IsAskedBy names d checked.Check = IsTrue (is_some (line_checked d))
IsAskedBy names d (checked.Request q) = (line_checked d ≡ None) × (request_from names d ≡ Some (request_model q))

-- the same, with its number
pub record IsCheckedLine (names : List (List ℕ)) (d : Data) (c : CheckedLine) : Type 0 where
  pub at : c.at ≡ at_of d
  pub asked : IsAskedBy names d c.asked

-- the value asks to check a line, which asks for that
pub record ChecksLine (names : List (List ℕ)) (d : Data) (c : CheckedLine) : Type 0 where
  pub line : Data
  pub checked : line_checked d ≡ Some line
  pub is : IsCheckedLine names line c

-- the line is JSON, and its value asks to check a line, which asks for that
pub record Checks (names : List (List ℕ)) (text : List ℕ) (c : CheckedLine) : Type 0 where
  pub value : Data
  pub read : read_text text ≡ Some value
  pub checks : ChecksLine names value c

-- what a line asks for
abbrev pub IsStreamLine : List (List ℕ) → List ℕ → StreamLine → Type 0
IsStreamLine names text (line.Request q) = Requests names text (request_model q)
IsStreamLine names text (line.Check c) = Checks names text c

-- what a line requests is plain
abbrev pub IsPlainLine : StreamLine → Type 0
IsPlainLine (line.Request q) = IsPlain (request_model q)
IsPlainLine (line.Check c) = Unit {0}
