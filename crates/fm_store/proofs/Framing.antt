-- Length fields and frames come apart in one way.
use Rattle.std.proofs.Common.{◌≡◌, ℕ, zero, suc, ◌+◌, ◌-◌, ◌<◌, ◌≤◌, ◌^◌, List, [], ◌∷◌, ◌++◌, length, get_or, take, drop, refl, sym, ap, ◌∙◌, subst, arith, append_assoc, length-append, inl, inr}
use Rattle.std.specs.Int.{w64, to_be_bytes, from_be_bytes}
use Rattle.std.proofs.lemmas.List.{take_at, drop_at, take-append-le, take-append-drop, length-take, length-take-le}
use Rattle.std.proofs.lemmas.Bool.{cases_lt}
use Rattle.std.proofs.lemmas.Nat.{from_be_bytes-to_be_bytes_8, be_bytes_8}
use Rattle.fm_wire.proofs.Widths.{IsBytes-take}
use Rattle.sha2.specs.Sha256.{sha256}
use Rattle.sha2.proofs.Facts256.{length-sha256}
use Rattle.fm_store.specs.Frames.{length_field, frame}
use Rattle.fm_store.specs.Tails.{HasFrame, IsShort, AreZeros, IsTorn}
use Rattle.fm_store.specs.inner.Lengths.{HasLength}

pub take_past : (xs ys : List ℕ) (m n : ℕ) → m ≡ length xs + n → take m (xs ++ ys) ≡ xs ++ take n ys
take_past [] ys m n is = let same : m ≡ n = omega arith in ap (λ (k : ℕ). take k ys) same
take_past (x ∷ xs) ys zero n is = absurd (omega arith)
take_past (x ∷ xs) ys (suc m) n is = ap (λ (l : List ℕ). x ∷ l) (take_past xs ys m n (omega arith))

pub get_front : (xs ys : List ℕ) (i : ℕ) → i < length xs → get_or (xs ++ ys) i 0 ≡ get_or xs i 0
get_front [] ys i lt = absurd (omega arith)
get_front (x ∷ xs) ys zero lt = refl
get_front (x ∷ xs) ys (suc i) lt = get_front xs ys i (omega arith)

pub sum_length : (bytes : List ℕ) → length (take 8 (sha256 bytes)) ≡ 8
sum_length bytes = length-take-le 8 (sha256 bytes) (omega (arith, length-sha256 bytes))

number_length : (n : ℕ) → length (to_be_bytes w64 n) ≡ 8
number_length n = refl

pub field_length : (n : ℕ) → length (length_field n) ≡ 16
unfolding length_field
field_length n = length-append (to_be_bytes w64 n) (take 8 (sha256 (to_be_bytes w64 n))) ∙ ap (λ k. 8 + k) (sum_length (to_be_bytes w64 n))

-- fronts of one length are the same, and so is what follows them
pub split_same : (a b c d : List ℕ) → length a ≡ length b → a ++ c ≡ b ++ d → (a ≡ b) × (c ≡ d)
split_same a b c d len e = (
  sym (take_at a c (length a) refl) ∙ ap (take (length a)) e ∙ take_at b d (length a) (sym len),
  sym (drop_at a c (length a) refl) ∙ ap (drop (length a)) e ∙ drop_at b d (length a) (sym len),
)

number_same : (n m : ℕ) → n < 2 ^ 64 → m < 2 ^ 64 → to_be_bytes w64 n ≡ to_be_bytes w64 m → n ≡ m
number_same n m p q e = sym (from_be_bytes-to_be_bytes_8 n p) ∙ ap (from_be_bytes w64) e ∙ from_be_bytes-to_be_bytes_8 m q

field_front : (n m : ℕ) → length_field n ≡ length_field m → to_be_bytes w64 n ≡ to_be_bytes w64 m
unfolding length_field
field_front n m e = (split_same (to_be_bytes w64 n) (to_be_bytes w64 m) (take 8 (sha256 (to_be_bytes w64 n))) (take 8 (sha256 (to_be_bytes w64 m))) refl e).0

pub field_same : (n m : ℕ) (a b : List ℕ) → n < 2 ^ 64 → m < 2 ^ 64 → length_field n ++ a ≡ length_field m ++ b → (n ≡ m) × (a ≡ b)
field_same n m a b p q e =
    let parts = split_same (length_field n) (length_field m) a b (field_length n ∙ sym (field_length m)) e in
    (number_same n m p q (field_front n m parts.0), parts.1)

-- a frame and what follows it, part by part
pub frame_parts : (r rest : List ℕ) → frame r ++ rest ≡ length_field (length r) ++ (sha256 r ++ (r ++ 255 ∷ rest))
unfolding frame
frame_parts r rest =
    append_assoc (length_field (length r)) (sha256 r ++ (r ++ 255 ∷ [])) rest
    ∙ ap (λ (l : List ℕ). length_field (length r) ++ l) (append_assoc (sha256 r) (r ++ 255 ∷ []) rest ∙ ap (λ (l : List ℕ). sha256 r ++ l) (append_assoc r (255 ∷ []) rest))

pub body_length : (r s rest : List ℕ) → length (sha256 r ++ (s ++ 255 ∷ rest)) ≡ 33 + length s + length rest
body_length r s rest = omega (arith, length-append (sha256 r) (s ++ 255 ∷ rest), length-append s (255 ∷ rest), length-sha256 r)

pub frame_length : (r rest : List ℕ) → length (frame r ++ rest) ≡ 49 + length r + length rest
frame_length r rest =
    let whole : length (frame r ++ rest) ≡ length (length_field (length r) ++ (sha256 r ++ (r ++ 255 ∷ rest))) = ap length (frame_parts r rest) in
    omega (arith, whole, length-append (length_field (length r)) (sha256 r ++ (r ++ 255 ∷ rest)), field_length (length r), body_length r r rest)

-- bodies of records of one length
pub body_same : (r s t u a b : List ℕ) → length s ≡ length u → sha256 r ++ (s ++ 255 ∷ a) ≡ sha256 t ++ (u ++ 255 ∷ b) → (sha256 r ≡ sha256 t) × (s ≡ u) × (a ≡ b)
body_same r s t u a b len e =
    let first = split_same (sha256 r) (sha256 t) (s ++ 255 ∷ a) (u ++ 255 ∷ b) (length-sha256 r ∙ sym (length-sha256 t)) e in
    let second = split_same s u (255 ∷ a) (255 ∷ b) len first.1 in
    (first.0, second.0, ap (drop 1) second.1)

pub frame_same : (r s a b : List ℕ) → length r < 2 ^ 64 → length s < 2 ^ 64 → frame r ++ a ≡ frame s ++ b → (r ≡ s) × (a ≡ b)
frame_same r s a b p q e =
    let heads = field_same (length r) (length s) (sha256 r ++ (r ++ 255 ∷ a)) (sha256 s ++ (s ++ 255 ∷ b)) p q (sym (frame_parts r a) ∙ e ∙ frame_parts s b) in
    let bodies = body_same r r s s a b heads.0 heads.1 in
    (bodies.1, bodies.2)

-- ---- what is torn

-- a front of what may be a front of a frame may be one too
pub short_front : (front : List ℕ) (k : ℕ) → 0 < k → k ≤ length front → IsShort front → IsShort (take k front)
short_front front k some le short =
    let len : length (take k front) ≡ k = length-take-le k front le in
    elim (cases_lt k 16) [
      | inl few ↦ (omega (arith, len), inl (omega (arith, len, few)))
      | inr long ↦
          elim short.1 [
            | inl few ↦ absurd (omega (arith, few, le, long))
            | inr cut ↦
                let more = take (k - 16) cut.1 in
                let is : take k front ≡ length_field cut.0 ++ more = ap (take k) cut.3 ∙ take_past (length_field cut.0) cut.1 k (k - 16) (omega (arith, field_length cut.0, long)) in
                (omega (arith, len), inr (cut.0, more, cut.2, is, omega (arith, length-take (k - 16) cut.1, cut.4)))
          ]
    ]

-- behind the front there are zeros
zero_behind : (front zeros : List ℕ) (i : ℕ) → AreZeros zeros → length front ≤ i → get_or (front ++ zeros) i 0 ≡ 0
zero_behind [] zeros i none le = none i
zero_behind (b ∷ front) zeros zero none le = absurd (omega arith)
zero_behind (b ∷ front) zeros (suc i) none le = zero_behind front zeros i none (omega arith)

pub one_at : (front rest : List ℕ) (i : ℕ) → i ≡ length front → get_or (front ++ 255 ∷ rest) i 0 ≡ 255
one_at [] rest i is = ap (λ (k : ℕ). get_or (255 ∷ rest) k 0) is
one_at (b ∷ front) rest zero is = absurd (omega arith)
one_at (b ∷ front) rest (suc i) is = one_at front rest i (omega arith)

abbrev frame_front : List ℕ → List ℕ
frame_front r = length_field (length r) ++ (sha256 r ++ r)

frame_front_is : (r rest : List ℕ) → frame r ++ rest ≡ frame_front r ++ 255 ∷ rest
frame_front_is r rest =
    frame_parts r rest
    ∙ ap (λ (l : List ℕ). length_field (length r) ++ l) (sym (append_assoc (sha256 r) r (255 ∷ rest)))
    ∙ sym (append_assoc (length_field (length r)) (sha256 r ++ r) (255 ∷ rest))

frame_front_length : (r : List ℕ) → length (frame_front r) ≡ 48 + length r
frame_front_length r = omega (arith, length-append (length_field (length r)) (sha256 r ++ r), length-append (sha256 r) r, field_length (length r), length-sha256 r)

-- a frame is not a front of at most so many bytes, and zeros
frame_not_zeros : (r rest front zeros : List ℕ) → AreZeros zeros → length front ≤ 48 + length r → frame r ++ rest ≡ front ++ zeros → ⊥
frame_not_zeros r rest front zeros none le is =
    let i = 48 + length r in
    let one : get_or (frame r ++ rest) i 0 ≡ 255 = ap (λ (l : List ℕ). get_or l i 0) (frame_front_is r rest) ∙ one_at (frame_front r) rest i (omega (arith, frame_front_length r)) in
    let zero : get_or (frame r ++ rest) i 0 ≡ 0 = ap (λ (l : List ℕ). get_or l i 0) is ∙ zero_behind front zeros i none le in
    omega (arith, one, zero)

-- nor is it, behind other bytes, a front of no more than these, and zeros
pub framed_not_zeros : (before r rest front zeros : List ℕ) → AreZeros zeros → length front ≤ length before → before ++ (frame r ++ rest) ≡ front ++ zeros → ⊥
framed_not_zeros before r rest front zeros none le is =
    let i = length before + (48 + length r) in
    let whole : before ++ (frame r ++ rest) ≡ (before ++ frame_front r) ++ 255 ∷ rest =
    ap (λ (l : List ℕ). before ++ l) (frame_front_is r rest) ∙ sym (append_assoc before (frame_front r) (255 ∷ rest)) in
    let one : get_or (before ++ (frame r ++ rest)) i 0 ≡ 255 = ap (λ (l : List ℕ). get_or l i 0) whole ∙ one_at (before ++ frame_front r) rest i (omega (arith, length-append before (frame_front r), frame_front_length r)) in
    let zero : get_or (before ++ (frame r ++ rest)) i 0 ≡ 0 = ap (λ (l : List ℕ). get_or l i 0) is ∙ zero_behind front zeros i none (omega (arith, le)) in
    omega (arith, one, zero)

pub frame_not_torn : (r rest : List ℕ) → length r < 2 ^ 64 → IsTorn (frame r ++ rest) → ⊥
frame_not_torn r rest fits torn = elim torn.5 [
  | inl empty ↦ frame_not_zeros r rest torn.1 torn.2 torn.4 (let len : length torn.1 ≡ 0 = ap length empty in omega (arith, len)) torn.3
  | inr short ↦ elim short.1 [
    | inl few ↦ frame_not_zeros r rest torn.1 torn.2 torn.4 (omega (arith, few)) torn.3
    | inr cut ↦
        let whole : length_field (length r) ++ (sha256 r ++ (r ++ 255 ∷ rest)) ≡ length_field cut.0 ++ (cut.1 ++ torn.2) =
        sym (frame_parts r rest) ∙ torn.3 ∙ ap (λ (l : List ℕ). l ++ torn.2) cut.3 ∙ append_assoc (length_field cut.0) cut.1 torn.2 in
        let same = field_same (length r) cut.0 (sha256 r ++ (r ++ 255 ∷ rest)) (cut.1 ++ torn.2) fits cut.2 whole in
        let len : length torn.1 ≡ length (length_field cut.0 ++ cut.1) = ap length cut.3 in
        frame_not_zeros r rest torn.1 torn.2 torn.4 (omega (arith, len, length-append (length_field cut.0) cut.1, field_length cut.0, cut.4, same.0)) torn.3
  ]
]

-- a length field, with at least what it announces, is not a front and zeros, if what ends the announced bytes is no zero
pub front_not_torn : (n : ℕ) (bytes : List ℕ) (i : ℕ) → n < 2 ^ 64 → 48 + n ≤ i → (get_or (length_field n ++ bytes) i 0 ≡ 0 → ⊥) → IsTorn (length_field n ++ bytes) → ⊥
front_not_torn n bytes i fits le some torn = elim torn.5 [
  | inl empty ↦ some (ap (λ (l : List ℕ). get_or l i 0) torn.3 ∙ zero_behind torn.1 torn.2 i torn.4 (let len : length torn.1 ≡ 0 = ap length empty in omega (arith, len)))
  | inr short ↦ elim short.1 [
    | inl few ↦ some (ap (λ (l : List ℕ). get_or l i 0) torn.3 ∙ zero_behind torn.1 torn.2 i torn.4 (omega (arith, few, le)))
    | inr cut ↦
        let whole : length_field n ++ bytes ≡ length_field cut.0 ++ (cut.1 ++ torn.2) = torn.3 ∙ ap (λ (l : List ℕ). l ++ torn.2) cut.3 ∙ append_assoc (length_field cut.0) cut.1 torn.2 in
        let same = field_same n cut.0 bytes (cut.1 ++ torn.2) fits cut.2 whole in
        let len : length torn.1 ≡ length (length_field cut.0 ++ cut.1) = ap length cut.3 in
        some (ap (λ (l : List ℕ). get_or l i 0) torn.3 ∙ zero_behind torn.1 torn.2 i torn.4 (omega (arith, len, length-append (length_field cut.0) cut.1, field_length cut.0, cut.4, same.0, le)))
  ]
]

-- what is left without the zeros at the end is a front of any other front that has only zeros behind it
pub written_front : (written zeros front zs : List ℕ) → written ++ zeros ≡ front ++ zs → AreZeros zs → (0 < length written → get_or written (length written - 1) 0 ≡ 0 → ⊥) → 0 < length written → (length written ≤ length front) × (written ≡ take (length written) front)
written_front written zeros front zs both none last some =
    let k = length written in
    let le : k ≤ length front = elim (cases_lt (length front) k) [
      | inl lt ↦ absurd (last some (sym (get_front written zeros (k - 1) (omega (arith, some))) ∙ ap (λ (l : List ℕ). get_or l (k - 1) 0) both ∙ zero_behind front zs (k - 1) none (omega (arith, lt))))
      | inr le ↦ le
    ] in
    (le, sym (take_at written zeros k refl) ∙ ap (take k) both ∙ take-append-le k front zs le)

-- what is left without the zeros at the end tells whether the bytes are torn
pub torn_by_written : (bytes written zeros : List ℕ) → bytes ≡ written ++ zeros → AreZeros zeros → (0 < length written → get_or written (length written - 1) 0 ≡ 0 → ⊥) → 0 < length written → (IsShort written → ⊥) → IsTorn bytes → ⊥
torn_by_written bytes written zeros is none last some whole torn =
    let front = written_front written zeros torn.1 torn.2 (sym is ∙ torn.3) torn.4 last some in
    elim torn.5 [
      | inl empty ↦ let len : length torn.1 ≡ 0 = ap length empty in omega (arith, len, front.0, some)
      | inr short ↦ whole (subst IsShort (sym front.1) (short_front torn.1 (length written) some front.0 short))
    ]

-- ---- what stands at the front of bytes

abbrev pub IsBytes : List ℕ → Type 0
IsBytes bytes = (i : ℕ) → get_or bytes i 0 < 256

-- eight bytes, and the sum of them: a length field
pub field_is : (number sum rest : List ℕ) → length number ≡ 8 → IsBytes number → take 8 (sha256 number) ≡ sum → number ++ (sum ++ rest) ≡ length_field (from_be_bytes w64 number) ++ rest
unfolding length_field
field_is number sum rest len fits is =
    let back : to_be_bytes w64 (from_be_bytes w64 number) ≡ number = be_bytes_8 number (from_be_bytes w64 number) len fits refl in
    let sums : sum ≡ take 8 (sha256 (to_be_bytes w64 (from_be_bytes w64 number))) = sym is ∙ ap (λ (l : List ℕ). take 8 (sha256 l)) (sym back) in
    (λ i. sym back i ++ (sums i ++ rest)) ∙ sym (append_assoc (to_be_bytes w64 (from_be_bytes w64 number)) (take 8 (sha256 (to_be_bytes w64 (from_be_bytes w64 number)))) rest)

-- eight bytes, and eight that are not the sum of them: no length field
pub field_sum : (number sum rest after : List ℕ) (n : ℕ) → length number ≡ 8 → length sum ≡ 8 → number ++ (sum ++ rest) ≡ length_field n ++ after → take 8 (sha256 number) ≡ sum
unfolding length_field
field_sum number sum rest after n len len_sum e =
    let word = to_be_bytes w64 n in
    let first = split_same number word (sum ++ rest) (take 8 (sha256 word) ++ after) (len ∙ sym (number_length n)) (e ∙ append_assoc word (take 8 (sha256 word)) after) in
    let second = split_same sum (take 8 (sha256 word)) rest after (len_sum ∙ sym (sum_length word)) first.1 in
    ap (λ (l : List ℕ). take 8 (sha256 l)) first.0 ∙ sym second.0

-- fewer bytes than a length field
pub few_no_length : (bytes : List ℕ) → length bytes < 16 → HasLength bytes → ⊥
few_no_length bytes few has =
    let len : length bytes ≡ length (length_field has.0 ++ has.1) = ap length has.3 in
    omega (arith, few, len, length-append (length_field has.0) has.1, field_length has.0)

pub bad_no_length : (number sum rest : List ℕ) → length number ≡ 8 → length sum ≡ 8 → (take 8 (sha256 number) ≡ sum → ⊥) → HasLength (number ++ (sum ++ rest)) → ⊥
bad_no_length number sum rest len len_sum other has = other (field_sum number sum rest has.1 has.0 len len_sum has.3)

-- a frame begins with a length field
pub frame_has_length : (bytes : List ℕ) → HasFrame bytes → HasLength bytes
frame_has_length bytes has = (length has.0, sha256 has.0 ++ (has.0 ++ 255 ∷ has.1), has.2, has.3 ∙ frame_parts has.0 has.1)

-- a length field, and all that it announces: a frame
pub body_is : (n : ℕ) (digest r rest : List ℕ) → length r ≡ n → sha256 r ≡ digest → length_field n ++ (digest ++ (r ++ 255 ∷ rest)) ≡ frame r ++ rest
body_is n digest r rest len is = (λ i. length_field (sym len i) ++ (sym is i ++ (r ++ 255 ∷ rest))) ∙ sym (frame_parts r rest)

-- a length field, and less than it announces: no frame
pub body_few : (n : ℕ) (bytes : List ℕ) → n < 2 ^ 64 → length bytes < 33 + n → HasFrame (length_field n ++ bytes) → ⊥
body_few n bytes fits few has =
    let heads = field_same n (length has.0) bytes (sha256 has.0 ++ (has.0 ++ 255 ∷ has.1)) fits has.2 (has.3 ∙ frame_parts has.0 has.1) in
    let len : length bytes ≡ length (sha256 has.0 ++ (has.0 ++ 255 ∷ has.1)) = ap length heads.1 in
    omega (arith, few, len, body_length has.0 has.0 has.1, heads.0)

-- a length field, and other bytes than it announces: no frame
pub body_bad : (n mark : ℕ) (digest r rest : List ℕ) → n < 2 ^ 64 → length digest ≡ 32 → length r ≡ n → (mark ≡ 255 → sha256 r ≡ digest → ⊥) → HasFrame (length_field n ++ (digest ++ (r ++ mark ∷ rest))) → ⊥
body_bad n mark digest r rest fits len_digest len other has =
    let t = has.0 in
    let body = digest ++ (r ++ mark ∷ rest) in
    let heads = field_same n (length t) body (sha256 t ++ (t ++ 255 ∷ has.1)) fits has.2 (has.3 ∙ frame_parts t has.1) in
    let first = split_same digest (sha256 t) (r ++ mark ∷ rest) (t ++ 255 ∷ has.1) (len_digest ∙ sym (length-sha256 t)) heads.1 in
    let second = split_same r t (mark ∷ rest) (255 ∷ has.1) (len ∙ heads.0) first.1 in
    other (ap (λ (l : List ℕ). get_or l 0 0) second.1) (ap sha256 second.0 ∙ sym first.0)

-- bytes that have the length field n are short exactly if they are fewer than it announces
pub short_by_length : (n : ℕ) (rest : List ℕ) → n < 2 ^ 64 → IsShort (length_field n ++ rest) → length rest < 33 + n
short_by_length n rest fits short = elim short.1 [
  | inl few ↦ absurd (omega (arith, few, length-append (length_field n) rest, field_length n))
  | inr cut ↦
      let same = field_same n cut.0 rest cut.1 fits cut.2 cut.3 in
      let len : length rest ≡ length cut.1 = ap length same.1 in
      omega (arith, same.0, len, cut.4)
]

-- ---- as slices are split

parts_of : (bytes number after sum rest : List ℕ) → number ≡ take 8 bytes → after ≡ drop 8 bytes → sum ≡ take 8 after → rest ≡ drop 8 after → bytes ≡ number ++ (sum ++ rest)
parts_of bytes number after sum rest a b c d =
    let second : after ≡ sum ++ rest = sym (take-append-drop 8 after) ∙ (λ i. sym c i ++ sym d i) in
    sym (take-append-drop 8 bytes) ∙ (λ i. sym a i ++ sym b i) ∙ ap (λ (l : List ℕ). number ++ l) second

front_length : (bytes front after : List ℕ) (n : ℕ) → front ≡ take n bytes → length after + n ≡ length bytes → length front ≡ n
front_length bytes front after n a len = ap length a ∙ length-take-le n bytes (omega (arith, len))

pub field_found : (bytes number after sum rest : List ℕ) (n : ℕ) → number ≡ take 8 bytes → after ≡ drop 8 bytes → length after + 8 ≡ length bytes → sum ≡ take 8 after → rest ≡ drop 8 after
    → IsBytes bytes → n ≡ from_be_bytes w64 number → take 8 (sha256 number) ≡ sum → bytes ≡ length_field n ++ rest
field_found bytes number after sum rest n a b len c d fits is same =
    parts_of bytes number after sum rest a b c d
    ∙ field_is number sum rest (front_length bytes number after 8 a len) (subst IsBytes (sym a) (IsBytes-take 8 bytes fits)) same
    ∙ ap (λ (k : ℕ). length_field k ++ rest) (sym is)

pub field_missing : (bytes number after sum rest : List ℕ) → number ≡ take 8 bytes → after ≡ drop 8 bytes → length after + 8 ≡ length bytes → sum ≡ take 8 after → rest ≡ drop 8 after → length rest + 8 ≡ length after
    → (take 8 (sha256 number) ≡ sum → ⊥) → HasLength bytes → ⊥
field_missing bytes number after sum rest a b len c d len_rest other has =
    bad_no_length number sum rest (front_length bytes number after 8 a len) (front_length after sum rest 8 c len_rest) other (subst HasLength (parts_of bytes number after sum rest a b c d) has)

-- digest, record, mark and rest
body_parts : (bytes digest after r behind rest : List ℕ) (mark n : ℕ) → digest ≡ take 32 bytes → after ≡ drop 32 bytes → r ≡ take n after → behind ≡ drop n after → behind ≡ mark ∷ rest → bytes ≡ digest ++ (r ++ mark ∷ rest)
body_parts bytes digest after r behind rest mark n a b c d e =
    let second : after ≡ r ++ mark ∷ rest = sym (take-append-drop n after) ∙ (λ i. sym c i ++ (sym d ∙ e) i) in
    sym (take-append-drop 32 bytes) ∙ (λ i. sym a i ++ sym b i) ∙ ap (λ (l : List ℕ). digest ++ l) second

pub body_found : (bytes digest after r behind rest : List ℕ) (mark n : ℕ) → digest ≡ take 32 bytes → after ≡ drop 32 bytes → r ≡ take n after → behind ≡ drop n after → behind ≡ mark ∷ rest → length r ≡ n → mark ≡ 255 → sha256 r ≡ digest
    → length_field n ++ bytes ≡ frame r ++ rest
body_found bytes digest after r behind rest mark n a b c d e len is same =
    let whole = body_parts bytes digest after r behind rest mark n a b c d e in
    ap (λ (l : List ℕ). length_field n ++ l) (whole ∙ ap (λ (m : ℕ). digest ++ (r ++ m ∷ rest)) is) ∙ body_is n digest r rest len same

pub body_missing : (bytes digest after r behind rest : List ℕ) (mark n : ℕ) → digest ≡ take 32 bytes → after ≡ drop 32 bytes → length after + 32 ≡ length bytes → r ≡ take n after → behind ≡ drop n after → behind ≡ mark ∷ rest → length r ≡ n → n < 2 ^ 64
    → (mark ≡ 255 → sha256 r ≡ digest → ⊥) → HasFrame (length_field n ++ bytes) → ⊥
body_missing bytes digest after r behind rest mark n a b len32 c d e len fits other has =
    let whole = body_parts bytes digest after r behind rest mark n a b c d e in
    body_bad n mark digest r rest fits (front_length bytes digest after 32 a len32) len other (subst (λ (l : List ℕ). HasFrame (length_field n ++ l)) whole has)

pub frame_shorter : (rest r after : List ℕ) → rest ≡ frame r ++ after → length after < length rest
frame_shorter rest r after is = let len : length rest ≡ length (frame r ++ after) = ap length is in omega (arith, len, frame_length r after)

-- a length field announces n: the bytes are short exactly if fewer follow
pub short_if_less : (bytes rest : List ℕ) (n : ℕ) → n < 2 ^ 64 → 16 ≤ length bytes → bytes ≡ length_field n ++ rest → (length rest < 33 + n → IsShort bytes) × (IsShort bytes → length rest < 33 + n)
short_if_less bytes rest n fits long is = (
  λ less. (omega (arith, long), inr (n, rest, fits, is, less)),
  λ short. short_by_length n rest fits (subst IsShort is short),
)
