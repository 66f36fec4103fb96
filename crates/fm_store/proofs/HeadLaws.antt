-- Heads: one record each, numbers that are listed twice, and files that begin as a store.
use Rattle.std.proofs.Common.{◌≡◌, ◌↔◌, IsTrue, ℕ, ◌-◌, ◌<◌, ◌==◌, Bool, true, false, ◌||◌, List, [], ◌∷◌, ◌++◌, length, get_or, take, drop, refl, sym, ap, ◌∙◌, arith, append_assoc, length-append, eqb}
use Rattle.std.specs.List.{list_any, starts_with}
use Rattle.std.proofs.lemmas.List.{take_at, take-append-drop}
use Rattle.std.proofs.lemmas.Bool.Decides.{Decides-eqb}
use Rattle.std.proofs.lemmas.Slice.Eq.{starts_is}
use Rattle.fm_store.specs.Tails.{AreZeros}
use Rattle.fm_store.specs.Heads.{HeadModel, IsHeadRecord, has_repeat, head_record}
use Rattle.fm_store.specs.Stores.{magic, IsTornMagic}
use Rattle.fm_store.proofs.Framing.{split_same, written_front}

-- heads of one record are equal
pub head_same : (h g : HeadModel) → head_record h ≡ head_record g → h ≡ g
head_same h g e =
    let count : length h.numbers ≡ length g.numbers = ap (λ (l : List ℕ). get_or l 0 0) e in
    let parts = split_same h.numbers g.numbers h.label g.label count (ap (drop 1) e) in
    λ i. record { label = parts.1 i; numbers = parts.0 i }

-- a record of a head has these numbers and this label, if its bytes come apart so
pub same_numbers : (h : HeadModel) (bytes ns label : List ℕ) → IsHeadRecord h bytes → bytes ≡ length ns ∷ (ns ++ label) → h.numbers ≡ ns
same_numbers h bytes ns label is parts =
    let same : h ≡ record { label = label; numbers = ns } = head_same h (record { label = label; numbers = ns }) (sym is.2 ∙ parts) in
    ap (λ (g : HeadModel). g.numbers) same

pub same_label : (h : HeadModel) (bytes ns label : List ℕ) → IsHeadRecord h bytes → bytes ≡ length ns ∷ (ns ++ label) → h.label ≡ label
same_label h bytes ns label is parts =
    let same : h ≡ record { label = label; numbers = ns } = head_same h (record { label = label; numbers = ns }) (sym is.2 ∙ parts) in
    ap (λ (g : HeadModel). g.label) same

-- ---- numbers

pub repeats_now : (ns : List ℕ) (n : ℕ) (rest : List ℕ) (b : Bool) → ns ≡ n ∷ rest → b ≡ list_any (λ m. m == n) rest → b ≡ true → b ≡ has_repeat ns
repeats_now ns n rest b split any here = here ∙ sym (ap has_repeat split ∙ ap (λ (t : Bool). t || has_repeat rest) (sym any ∙ here))

pub repeats_later : (ns : List ℕ) (n : ℕ) (rest : List ℕ) (b d : Bool) → ns ≡ n ∷ rest → b ≡ list_any (λ m. m == n) rest → b ≡ false → d ≡ has_repeat rest → d ≡ has_repeat ns
repeats_later ns n rest b d split any not_here later = later ∙ sym (ap has_repeat split ∙ ap (λ (t : Bool). t || has_repeat rest) (sym any ∙ not_here))

pub one_number_more : (old out new xs ys : List ℕ) (n v : ℕ) → new ≡ out ++ v ∷ [] → out ≡ old ++ xs → ys ≡ xs ++ n ∷ [] → v ≡ n → new ≡ old ++ ys
one_number_more old out new xs ys n v pushed so_far more same =
    pushed ∙ (λ i. so_far i ++ same i ∷ []) ∙ append_assoc old xs (n ∷ []) ∙ ap (λ (l : List ℕ). old ++ l) (sym more)

-- ---- magic bytes

pub magic_found : (bytes front rest : List ℕ) → front ≡ take 8 bytes → rest ≡ drop 8 bytes → front ≡ magic → bytes ≡ magic ++ rest
magic_found bytes front rest a b is = sym (take-append-drop 8 bytes) ∙ (λ i. (sym a ∙ is) i ++ sym b i)

pub few_no_magic : (bytes : List ℕ) → length bytes < 8 → (rest : List ℕ) → bytes ≡ magic ++ rest → ⊥
few_no_magic bytes few rest is =
    let len : length bytes ≡ length (magic ++ rest) = ap length is in
    let eight : length magic ≡ 8 = refl in
    omega (arith, few, len, eight, length-append magic rest)

pub other_no_magic : (bytes front : List ℕ) → front ≡ take 8 bytes → (front ≡ magic → ⊥) → (rest : List ℕ) → bytes ≡ magic ++ rest → ⊥
other_no_magic bytes front a other rest is = other (a ∙ ap (take 8) is ∙ take_at magic rest 8 refl)

-- a front of the magic bytes that ends in no zero begins them, if only zeros are behind it
magic_begins : (written zeros front more zs : List ℕ) → written ++ zeros ≡ front ++ zs → AreZeros zs → (0 < length written → get_or written (length written - 1) 0 ≡ 0 → ⊥) → magic ≡ front ++ more → (rest : List ℕ) × (magic ≡ written ++ rest)
magic_begins [] zeros front more zs both none last is = (magic, refl)
magic_begins (b ∷ bs) zeros front more zs both none last is =
    let written = b ∷ bs in
    let k = length written in
    let begins = written_front written zeros front zs both none last (omega arith) in
    let parts : front ≡ written ++ drop k front = sym (take-append-drop k front) ∙ ap (λ (l : List ℕ). l ++ drop k front) (sym begins.1) in
    (drop k front ++ more, is ∙ ap (λ (l : List ℕ). l ++ more) parts ∙ append_assoc written (drop k front) more)

pub torn_magic : (bytes written zeros : List ℕ) (r : Bool) → bytes ≡ written ++ zeros → AreZeros zeros → (0 < length written → get_or written (length written - 1) 0 ≡ 0 → ⊥)
    → r ≡ starts_with eqb magic written → IsTrue r ↔ IsTornMagic bytes
torn_magic bytes written zeros r is none last test =
    let both = starts_is Decides-eqb magic written r test in (
      λ begins. (written, drop (length written) magic, zeros, both.0 begins, is, none),
      λ torn.
          let rest = magic_begins written zeros torn.0 torn.1 torn.2 (sym is ∙ torn.4) torn.5 last torn.3 in
          both.1 rest.0 rest.1,
    )
