-- What functions answer, against what reading gives.
use Rattle.std.specs.Prelude.{◌≡◌, ℕ, List, Result, Ok, Err}
use Rattle.fm_wire.specs.declared.decode_error.DecodeError.{DecodeError}
use Rattle.fm_wire.specs.declared.decode_error.DecodeError.TheVariants as errors
use Rattle.fm_wire.specs.declared.version.Version.{Version}
use Rattle.fm_delta.specs.declared.packet.Packet.{Packet}
use Rattle.fm_wire.specs.Formats.{Reading}
use Rattle.fm_wire.specs.Grammar.{Listed, lists_of}

-- what a function answered, seen by view, is what reading gives
abbrev pub DecodesTo : {X Y : Type 0} → (X → Y) → Result X ℕ → Result Y ℕ → Type 0
DecodesTo view (Ok x) read = read ≡ Ok (view x)
DecodesTo view (Err left) read = read ≡ Err left

-- the same, unless memory ran out
abbrev pub DecodeFails : {Y : Type 0} → DecodeError → Result Y ℕ → Type 0
DecodeFails errors.Memory read = Unit {0}
DecodeFails (errors.Fault left) read = read ≡ Err left

abbrev pub Builds : {X Y : Type 0} → (X → Y) → Result X DecodeError → Result Y ℕ → Type 0
Builds view (Ok x) read = read ≡ Ok (view x)
Builds view (Err e) read = DecodeFails e read

-- the bytes after the value
abbrev pub rest_of : {A : Type 0} → Reading A → Result (List ℕ) ℕ
rest_of (Ok x) = Ok x.1
rest_of (Err left) = Err left

-- the packet's lists are at the front, unless memory ran out
abbrev pub FindsListed : Result Packet DecodeError → Reading Listed → Type 0
FindsListed (Ok p) read = (rest : List ℕ) × (read ≡ Ok (lists_of p, rest))
FindsListed (Err e) read = DecodeFails e read

-- the packet is at the front in one of the versions, unless memory ran out
abbrev pub Finds : Result Packet DecodeError → Reading (Version × Listed) → Type 0
Finds (Ok p) read = (v : Version) × (rest : List ℕ) × (read ≡ Ok ((v, lists_of p), rest))
Finds (Err e) read = DecodeFails e read
