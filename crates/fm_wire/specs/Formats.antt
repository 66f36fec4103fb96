-- Formats: how values are spelled as bytes and read from them. A format is that of a number, or made of other formats.
use Rattle.std.specs.Prelude.{◌≡◌, ℕ, zero, suc, ◌-◌, ◌≤◌, ◌^◌, Bool, true, false, nat_lt, nat_le, ◌&&◌, List, [], ◌∷◌, ◌++◌, length, take, drop, flat_map, Option, Some, None, Result, Ok, Err, if◌then◌else◌}
use Rattle.std.specs.List.{AllByRecursion}
use Rattle.std.specs.Int.{Width, w8, w64, byte_len, from_be_bytes, to_be_bytes}
use Rattle.std.specs.Ordering.{is_lt}
use Rattle.std.specs.declared.cmp.Ordering.{Ordering}
use Rattle.fm_lattice.specs.Maps.{IsRising}

-- What reading from the front of bytes gives: a value and the bytes after it; or, at the first fault, how many bytes
-- there are from the fault to the end, none if they end too early.
abbrev pub Reading : Type 0 → Type 0
Reading A = Result (A × List ℕ) ℕ

infixl 10 ◌>>=◌
abbrev pub ◌>>=◌ : {A B : Type 0} → Result A ℕ → (A → Result B ℕ) → Result B ℕ
(Ok x) >>= f = f x
(Err left) >>= f = Err left

-- a format: the values that it has, the bytes of each, and what reading gives
pub record Format (A : Type 0) : Type 1 where
  pub has : A → Type 0
  pub spell : A → List ℕ
  pub read : List ℕ → Reading A

-- the bytes of a number, the most significant first
unfoldable pub bytes_of : Width → ℕ → List ℕ
bytes_of = to_be_bytes

-- a number from least to greatest at the front; one out of this range is a fault at its first byte
unfoldable pub number_at : Width → ℕ → ℕ → List ℕ → Reading ℕ
number_at w least greatest bytes =
    let n = from_be_bytes w (take (byte_len w) bytes) in
    if nat_lt (length bytes) (byte_len w) then Err 0
    else if nat_le least n && nat_le n greatest then Ok (n, drop (byte_len w) bytes)
    else Err (length bytes)

-- a field: a number of so many bits, from least to greatest
abbrev pub number_field : Width → ℕ → ℕ → Format ℕ
number_field w least greatest = record {
  has = λ n. (least ≤ n) × (n ≤ greatest);
  spell = bytes_of w;
  read = number_at w least greatest;
}

-- one value alone, which takes no byte
abbrev pub constant : {A : Type 0} → A → Format A
constant a = record {
  has = λ b. b ≡ a;
  spell = λ b. [];
  read = λ bytes. Ok (a, bytes);
}

-- one after the other, and the first tells by what format the second is spelled
abbrev pub leading : {A B : Type 0} → Format A → (A → Format B) → Format (A × B)
leading F G = record {
  has = λ x. F.has x.0 × (G x.0).has x.1;
  spell = λ x. F.spell x.0 ++ (G x.0).spell x.1;
  read = λ bytes. do
    first ← F.read bytes
    second ← (G first.0).read first.1
    Ok ((first.0, second.0), second.1);
}

-- one after the other
infixr 20 ◌⨾◌
abbrev pub ◌⨾◌ : {A B : Type 0} → Format A → Format B → Format (A × B)
F ⨾ G = leading F (λ _. G)

-- the same bytes, for values of another type
abbrev pub seen_as : {A B : Type 0} → Format A → (A → B) → (B → A) → Format B
seen_as F to from = record {
  has = λ b. F.has (from b);
  spell = λ b. F.spell (from b);
  read = λ bytes. do
    found ← F.read bytes
    Ok (to found.0, found.1);
}

abbrev HasSome : {A : Type 0} → Format A → Option A → Type 0
HasSome F None = ⊥
HasSome F (Some a) = F.has a

abbrev spell_some : {A : Type 0} → Format A → Option A → List ℕ
spell_some F None = []
spell_some F (Some a) = F.spell a

-- the value if the part is there, and no byte if it is not
abbrev pub part : {A : Type 0} → Bool → Format A → Format (Option A)
part true F = record {
  has = HasSome F;
  spell = spell_some F;
  read = λ bytes. do
    found ← F.read bytes
    Ok (Some found.0, found.1);
}
part false F = constant None

-- a byte from least to greatest, which tells by what format the value follows
abbrev pub by_tag : {A : Type 0} → ℕ → ℕ → (A → ℕ) → (ℕ → Format A) → Format A
by_tag least greatest tag_of form = record {
  has = λ a. (number_field w8 least greatest).has (tag_of a) × (form (tag_of a)).has a;
  spell = λ a. bytes_of w8 (tag_of a) ++ (form (tag_of a)).spell a;
  read = λ bytes. do
    tag ← number_at w8 least greatest bytes
    (form tag.0).read tag.1;
}

-- the key comes after the last one, if there was one
abbrev pub comes_after : {K : Type 0} → (K → K → Ordering) → Option K → K → Bool
comes_after cmp None key = true
comes_after cmp (Some last) key = is_lt (cmp last key)

-- a key that comes after the last one; one that does not is a fault at its record's first byte
unfoldable pub key_at : {K : Type 0} → (K → K → Ordering) → Format K → Option K → List ℕ → Reading K
key_at cmp F last bytes = do
  key ← F.read bytes
  if comes_after cmp last key.0 then Ok key else Err (length bytes)

-- a record: its key, and then its value
unfoldable pub record_at : {K V : Type 0} → (K → K → Ordering) → Format K → Format V → Option K → List ℕ → Reading (K × V)
record_at cmp F G last bytes = do
  key ← key_at cmp F last bytes
  value ← G.read key.1
  Ok ((key.0, value.0), value.1)

-- so many records, each after the one before it
unfoldable pub records_at : {K V : Type 0} → (K → K → Ordering) → Format K → Format V → ℕ → Option K → List ℕ → Reading (List (K × V))
records_at cmp F G zero last bytes = Ok ([], bytes)
records_at cmp F G (suc n) last bytes = do
  first ← record_at cmp F G last bytes
  others ← records_at cmp F G n (Some first.0.0) first.1
  Ok (first.0 ∷ others.0, others.1)

-- records, keys rising, behind their count: a number of so many bits, up to the greatest
abbrev pub with_count : {K V : Type 0} → Width → ℕ → (K → K → Ordering) → Format K → Format V → Format (List (K × V))
with_count w greatest cmp F G = record {
  has = λ es. (length es ≤ greatest) × IsRising cmp es × AllByRecursion (λ e. F.has e.0 × G.has e.1) es;
  spell = λ es. bytes_of w (length es) ++ flat_map (λ e. F.spell e.0 ++ G.spell e.1) es;
  read = λ bytes. do
    count ← number_at w 0 greatest bytes
    records_at cmp F G count.0 None count.1;
}

-- as many records as there are
abbrev pub records : {K V : Type 0} → (K → K → Ordering) → Format K → Format V → Format (List (K × V))
records = with_count w64 (2 ^ 64 - 1)

-- the place of the first fault in so many bytes that are to be one value and nothing more: none if all were read, the
-- first byte after the value if there is one, else where the reading failed
abbrev pub fault_place : {A : Type 0} → ℕ → Reading A → Option ℕ
fault_place len (Ok (a, [])) = None
fault_place len (Ok (a, byte ∷ rest)) = Some (len - length (byte ∷ rest))
fault_place len (Err left) = Some (len - left)

abbrev pub fault_in : {A : Type 0} → Format A → List ℕ → Option ℕ
fault_in F bytes = fault_place (length bytes) (F.read bytes)
