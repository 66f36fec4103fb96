-- Bytes are read in one way; and what is read of the front of frames, and of frames that are damaged.
use Rattle.std.proofs.Common.{◌≡◌, ◌≢◌, ◌⊎◌, ℕ, zero, suc, ◌+◌, ◌-◌, ◌<◌, ◌≤◌, ◌^◌, cond, Bool, List, [], ◌∷◌, ◌++◌, length, get_or, take, refl, sym, ap, ◌∙◌, subst, arith, append_assoc, length-append, inl, inr}
use Rattle.std.proofs.lemmas.Bool.{cases_lt, le-leb, lt-leb}
use Rattle.std.proofs.lemmas.List.{length-take-le}
use Rattle.sha2.proofs.Facts256.{length-sha256}
use Rattle.sha2.specs.Sha256.{sha256}
use Rattle.fm_store.specs.Frames.{length_field, frame, frames}
use Rattle.fm_store.specs.Tails.{IsShort, AreZeros, IsTorn, IsTail, IsReadAs, AreRecords, whole_within}
use Rattle.fm_store.specs.Devices.{IsLeftByCrash}
use Rattle.fm_store.specs.declared.frames.Tail.{Tail}
use Rattle.fm_store.specs.declared.frames.Tail.TheVariants.{Clean, Torn, Damaged}
use Rattle.fm_store.proofs.Framing.{take_past, one_at, frame_same, frame_length, frame_parts, frame_not_torn, front_not_torn, body_bad, field_length}

-- a frame is not a tail
pub not_tail : (bytes r rest : List ℕ) (e : Tail) → length r < 2 ^ 64 → bytes ≡ frame r ++ rest → IsTail bytes e → ⊥
not_tail bytes r rest Clean fits is none = let len : length (frame r ++ rest) ≡ 0 = ap length (sym is ∙ none) in omega (arith, len, frame_length r rest)
not_tail bytes r rest Torn fits is torn = frame_not_torn r rest fits (subst IsTorn is torn)
not_tail bytes r rest Damaged fits is bad = bad.2 (r, rest, fits, is)

none_not_some : (bytes : List ℕ) → bytes ≡ [] → 0 < length bytes → ⊥
none_not_some bytes is some = let len : length bytes ≡ 0 = ap length is in omega (arith, len, some)

tail_once : (bytes : List ℕ) (e f : Tail) → IsTail bytes e → IsTail bytes f → e ≡ f
tail_once bytes Clean Clean p q = refl
tail_once bytes Clean Torn p q = absurd (none_not_some bytes p q.0)
tail_once bytes Clean Damaged p q = absurd (none_not_some bytes p q.0)
tail_once bytes Torn Clean p q = absurd (none_not_some bytes q p.0)
tail_once bytes Torn Torn p q = refl
tail_once bytes Torn Damaged p q = absurd (q.1 p)
tail_once bytes Damaged Clean p q = absurd (none_not_some bytes q p.0)
tail_once bytes Damaged Torn p q = absurd (p.1 q)
tail_once bytes Damaged Damaged p q = refl

-- bytes are read in one way
pub reads_once : (bytes : List ℕ) (rs ss : List (List ℕ)) (e f : Tail) → IsReadAs bytes rs e → IsReadAs bytes ss f → (rs ≡ ss) × (e ≡ f)
reads_once bytes [] [] e f p q = (refl, tail_once bytes e f p q)
reads_once bytes [] (s ∷ ss) e f p q = absurd (not_tail bytes s q.0 e q.1 q.2 p)
reads_once bytes (r ∷ rs) [] e f p q = absurd (not_tail bytes r p.0 f p.1 p.2 q)
reads_once bytes (r ∷ rs) (s ∷ ss) e f p q =
    let same = frame_same r s p.0 q.0 p.1 q.1 (sym p.2 ∙ q.2) in
    let rest = reads_once p.0 rs ss e f p.3 (subst (λ (l : List ℕ). IsReadAs l ss f) (sym same.1) q.3) in
    (λ i. same.0 i ∷ rest.0 i, rest.1)

-- whatever is behind frames, their records are read first
pub reads_front : (rs ss : List (List ℕ)) (rest : List ℕ) (e : Tail) → AreRecords rs → IsReadAs (frames rs ++ rest) ss e → (more : List (List ℕ)) × (ss ≡ rs ++ more) × IsReadAs rest more e
reads_front [] ss rest e fit p = (ss, refl, p)
reads_front (r ∷ rs) [] rest e fit p = absurd (not_tail _ r (frames rs ++ rest) e fit.0 (append_assoc (frame r) (frames rs) rest) p)
reads_front (r ∷ rs) (s ∷ ss) rest e fit p =
    let same = frame_same r s (frames rs ++ rest) p.0 fit.0 p.1 (sym (append_assoc (frame r) (frames rs) rest) ∙ p.2) in
    let next = reads_front rs ss rest e fit.1 (subst (λ (l : List ℕ). IsReadAs l ss e) (sym same.1) p.3) in
    (next.0, (λ i. sym same.0 i ∷ next.1 i), next.2)

-- frames, and then what begins none
pub reads_after : (rs : List (List ℕ)) (rest : List ℕ) (e : Tail) → AreRecords rs → IsTail rest e → IsReadAs (frames rs ++ rest) rs e
reads_after [] rest e fit end = end
reads_after (r ∷ rs) rest e fit end = (frames rs ++ rest, fit.0, append_assoc (frame r) (frames rs) rest, reads_after rs rest e fit.1 end)

-- ---- cuts

pub take_none : (n : ℕ) → ◌≡◌ {A = List ℕ} (take n []) []
take_none zero = refl
take_none (suc n) = refl

-- zeros alone
zeros_tail : (zeros : List ℕ) → AreZeros zeros → IsTail zeros Clean ⊎ IsTail zeros Torn
zeros_tail [] none = inl refl
zeros_tail (z ∷ zeros) none = inr (omega arith, [], z ∷ zeros, refl, none, inl refl)

front_short : (n : ℕ) (r rest : List ℕ) → length r < 2 ^ 64 → 0 < n → n < 49 + length r → IsShort (take n (frame r ++ rest))
front_short n r rest fits some few =
    let all = frame r ++ rest in
    let len : length (take n all) ≡ n = length-take-le n all (omega (arith, frame_length r rest, few)) in
    elim (cases_lt n 16) [
      | inl short ↦ (omega (arith, len, some), inl (omega (arith, len, short)))
      | inr long ↦
          let body = sha256 r ++ (r ++ 255 ∷ rest) in
          let more = take (n - 16) body in
          let front : take n all ≡ length_field (length r) ++ more = ap (take n) (frame_parts r rest) ∙ take_past (length_field (length r)) body n (n - 16) (omega (arith, field_length (length r), long)) in
          let whole : length (take n all) ≡ length (length_field (length r) ++ more) = ap length front in (
            omega (arith, len, some),
            inr (length r, more, fits, front, omega (arith, len, whole, length-append (length_field (length r)) more, field_length (length r), few)),
          )
    ]

-- a front of a frame, and zeros
front_tail : (n : ℕ) (r rest zeros : List ℕ) → length r < 2 ^ 64 → AreZeros zeros → n < 49 + length r → IsTail (take n (frame r ++ rest) ++ zeros) Clean ⊎ IsTail (take n (frame r ++ rest) ++ zeros) Torn
front_tail zero r rest zeros fits none few = zeros_tail zeros none
front_tail (suc m) r rest zeros fits none few =
    let n = suc m in
    let front = take n (frame r ++ rest) in
    let short = front_short n r rest fits (omega arith) few in
    inr (omega (arith, length-append front zeros, short.0), front, zeros, refl, none, inr short)

is_none : (n : ℕ) (r : List ℕ) (rs : List (List ℕ)) → n < length (frame r) → whole_within n (r ∷ rs) ≡ []
is_none n r rs few = ap (λ (b : Bool). cond b (r ∷ whole_within (n - length (frame r)) rs) []) (lt-leb _ _ few)

is_some : (n : ℕ) (r : List ℕ) (rs : List (List ℕ)) → length (frame r) ≤ n → whole_within n (r ∷ rs) ≡ r ∷ whole_within (n - length (frame r)) rs
is_some n r rs le = ap (λ (b : Bool). cond b (r ∷ whole_within (n - length (frame r)) rs) []) (le-leb _ _ le)

-- of a front of frames, and zeros behind it, the records are read whose frames are whole, and it is not taken for damaged
pub cut_reads : (n : ℕ) (rs : List (List ℕ)) (zeros : List ℕ) → AreRecords rs → AreZeros zeros → IsReadAs (take n (frames rs) ++ zeros) (whole_within n rs) Clean ⊎ IsReadAs (take n (frames rs) ++ zeros) (whole_within n rs) Torn
cut_reads n [] zeros fit none = subst (λ (l : List ℕ). IsTail (l ++ zeros) Clean ⊎ IsTail (l ++ zeros) Torn) (sym (take_none n)) (zeros_tail zeros none)
cut_reads n (r ∷ rs) zeros fit none =
    let bytes = take n (frames (r ∷ rs)) ++ zeros in
    let len : length (frame r) ≡ 49 + length r = omega (arith, frame_length r [], length-append (frame r) []) in
    elim (cases_lt n (length (frame r))) [
      | inl few ↦
          elim (front_tail n r (frames rs) zeros fit.0 none (omega (arith, few, len))) [
            | inl clean ↦ inl (subst (λ (ss : List (List ℕ)). IsReadAs bytes ss Clean) (sym (is_none n r rs few)) clean)
            | inr torn ↦ inr (subst (λ (ss : List (List ℕ)). IsReadAs bytes ss Torn) (sym (is_none n r rs few)) torn)
          ]
      | inr le ↦
          let rest = take (n - length (frame r)) (frames rs) ++ zeros in
          let is : bytes ≡ frame r ++ rest =
          ap (λ (l : List ℕ). l ++ zeros) (take_past (frame r) (frames rs) n (n - length (frame r)) (omega (arith, le))) ∙ append_assoc (frame r) (take (n - length (frame r)) (frames rs)) zeros in
          elim (cut_reads (n - length (frame r)) rs zeros fit.1 none) [
            | inl clean ↦ inl (subst (λ (ss : List (List ℕ)). IsReadAs bytes ss Clean) (sym (is_some n r rs le)) (rest, fit.0, is, clean))
            | inr torn ↦ inr (subst (λ (ss : List (List ℕ)). IsReadAs bytes ss Torn) (sym (is_some n r rs le)) (rest, fit.0, is, torn))
          ]
    ]

-- ---- damage

-- a record's bytes that were changed are told, and the records before them are read, unless the digest is the same
pub damage_reads : (rs ss : List (List ℕ)) (r s rest : List ℕ) (e : Tail) → AreRecords rs → length r < 2 ^ 64 → length s ≡ length r → (sha256 s ≡ sha256 r → ⊥)
    → IsReadAs (frames rs ++ (length_field (length r) ++ (sha256 r ++ (s ++ 255 ∷ rest)))) ss e → (ss ≡ rs) × (e ≡ Damaged)
damage_reads rs ss r s rest e fit fits len other p =
    let body = sha256 r ++ (s ++ 255 ∷ rest) in
    let bad = length_field (length r) ++ body in
    let front = length_field (length r) ++ (sha256 r ++ s) in
    let long : length front ≡ 48 + length r = omega (arith, length-append (length_field (length r)) (sha256 r ++ s), length-append (sha256 r) s, field_length (length r), length-sha256 r, len) in
    let some : 0 < length bad = omega (arith, length-append (length_field (length r)) body, field_length (length r)) in
    let is : bad ≡ front ++ 255 ∷ rest = ap (λ (l : List ℕ). length_field (length r) ++ l) (sym (append_assoc (sha256 r) s (255 ∷ rest))) ∙ sym (append_assoc (length_field (length r)) (sha256 r ++ s) (255 ∷ rest)) in
    let one : get_or bad (48 + length r) 0 ≡ 255 = ap (λ (l : List ℕ). get_or l (48 + length r) 0) is ∙ one_at front rest (48 + length r) (sym long) in
    let ends : IsTail bad Damaged = (
      some,
      front_not_torn (length r) body (48 + length r) fits (omega arith) (λ zero. let no : 255 ≡ 0 = sym one ∙ zero in omega (arith, no)),
      body_bad (length r) 255 (sha256 r) s rest fits (length-sha256 r) len (λ mark same. other same),
    ) in
    reads_once _ ss rs e Damaged p (reads_after rs bad Damaged fit ends)

-- ---- crashes

pub not_damaged : (bytes : List ℕ) (rs ss : List (List ℕ)) (e : Tail) → IsReadAs bytes rs Clean ⊎ IsReadAs bytes rs Torn → IsReadAs bytes ss e → (ss ≡ rs) × (e ≢ Damaged)
not_damaged bytes rs ss e (inl clean) p =
    let same = reads_once bytes ss rs e Clean p clean in
    (same.0, λ bad. apart (sym same.1 ∙ bad))
  where
    apart : Clean ≡ Damaged → ⊥
    apart is = absurd cc
not_damaged bytes rs ss e (inr torn) p =
    let same = reads_once bytes ss rs e Torn p torn in
    (same.0, λ bad. apart (sym same.1 ∙ bad))
  where
    apart : Torn ≡ Damaged → ⊥
    apart is = absurd cc

pub cut_is : (rs ss : List (List ℕ)) (n : ℕ) (zeros : List ℕ) (e : Tail) → AreRecords rs → AreZeros zeros → IsReadAs (take n (frames rs) ++ zeros) ss e → (ss ≡ whole_within n rs) × (e ≢ Damaged)
cut_is rs ss n zeros e fit none p = not_damaged (take n (frames rs) ++ zeros) (whole_within n rs) ss e (cut_reads n rs zeros fit none) p

within_front : (n : ℕ) (rs : List (List ℕ)) → (k : ℕ) × (whole_within n rs ≡ take k rs)
within_front n [] = (0, refl)
within_front n (r ∷ rs) =
    elim (cases_lt n (length (frame r))) [
      | inl few ↦ (0, is_none n r rs few)
      | inr le ↦ let next = within_front (n - length (frame r)) rs in (suc next.0, is_some n r rs le ∙ ap (λ (ss : List (List ℕ)). r ∷ ss) next.1)
    ]

within_append : (n : ℕ) (rs more : List (List ℕ)) → length (frames rs) ≤ n → (k : ℕ) × (whole_within n (rs ++ more) ≡ rs ++ take k more)
within_append n [] more le = within_front n more
within_append n (r ∷ rs) more le =
    let len = length-append (frame r) (frames rs) in
    let next = within_append (n - length (frame r)) rs more (omega (arith, len, le)) in
    (next.0, is_some n r (rs ++ more) (omega (arith, len, le)) ∙ ap (λ (ss : List (List ℕ)). r ∷ ss) next.1)

pub crash_is : (rs more ss : List (List ℕ)) (kept : ℕ) (left : List ℕ) (e : Tail) → AreRecords (rs ++ more) → length (frames rs) ≤ kept
    → IsLeftByCrash (frames (rs ++ more)) kept left → IsReadAs left ss e → (n : ℕ) × (ss ≡ rs ++ take n more) × (e ≢ Damaged)
crash_is rs more ss kept left e fit durable may p =
    let cut = cut_is (rs ++ more) ss may.count may.zeros e fit may.are_zeros (subst (λ (l : List ℕ). IsReadAs l ss e) may.is p) in
    let within = within_append may.count rs more (omega (arith, durable, may.enough)) in
    (within.0, cut.0 ∙ within.1, cut.1)
