-- Texts that went out in pieces.
use Rattle.std.proofs.Common.{◌≡◌, ◌+◌, ◌-◌, ◌<◌, ◌||◌, ◌&&◌, ℕ, zero, suc, List, [], ◌∷◌, ◌++◌, Bool, true, false, Result, Ok, Err, Option, Some, None, length, take, drop, get_or, nat_eq, nat_lt, append_assoc, append-nil, length-drop, refl, sym, ◌∙◌, ap, subst, arith}
use Rattle.std.specs.Cmp.{unsigned_Decides}
use Rattle.std.proofs.lemmas.List.{take_all, take-append-drop}
use Rattle.std.specs.Result.{IsErrAnd, OnErr}
use Rattle.std.specs.Io.KnownBytes.{Appends}
use Rattle.fm_records.specs.declared.refusal.Refusal.{Refusal}
use Rattle.fm_net.specs.declared.node.Node.{Node}
use Rattle.fm_dimacs.specs.Sending.{AppendsPrefix, StopsBy, IsSent, fails_at}
use Rattle.fm_dimacs.specs.Text.{lines_from}

pub appends_nothing : (old : Option (List ℕ)) → Appends old old []
appends_nothing None = tt
appends_nothing (Some x) = sym (append-nil x)

pub appends_more : (old mid new : Option (List ℕ)) (start piece : List ℕ) → Appends old mid start → Appends mid new piece → Appends old new (start ++ piece)
appends_more None mid new start piece e f = tt
appends_more (Some o) None new start piece e f = absurd e
appends_more (Some o) (Some m) None start piece e f = absurd f
appends_more (Some o) (Some m) (Some n) start piece e f = f ∙ ap (λ x. x ++ piece) e ∙ append_assoc o start piece

-- nothing is a prefix of any text
pub prefix_nothing : (old new : Option (List ℕ)) (text : List ℕ) → Appends old new [] → AppendsPrefix old new text
prefix_nothing old new text e = record { sent = []; rest = text; whole = refl; appended = e }

-- what went out of a first part is a prefix of the whole
pub prefix_start : (old new : Option (List ℕ)) (start rest : List ℕ) → AppendsPrefix old new start → AppendsPrefix old new (start ++ rest)
prefix_start old new start rest p = record { sent = p.sent; rest = p.rest ++ rest; whole = ap (λ t. t ++ rest) p.whole ∙ append_assoc p.sent p.rest rest; appended = p.appended }

-- a first part went out whole, and of the rest a prefix
pub prefix_later : (old mid new : Option (List ℕ)) (start rest : List ℕ) → Appends old mid start → AppendsPrefix mid new rest → AppendsPrefix old new (start ++ rest)
prefix_later old mid new start rest e p = record {
  sent = start ++ p.sent;
  rest = p.rest;
  whole = ap (λ t. start ++ t) p.whole ∙ sym (append_assoc start p.sent p.rest);
  appended = appends_more old mid new start p.sent e p.appended;
}

stops_since : (refusal : Refusal) (old mid new : Bool) → mid ≡ old → StopsBy refusal mid new → StopsBy refusal old new
stops_since refusal old mid new e h = subst (λ b. StopsBy refusal b new) e h

-- a first part went out whole, and the rest was sent
pub sent_last : {T : Type 0} (r : Result T Refusal) (old mid new : Option (List ℕ)) (had mid_failed has : Bool) (start rest : List ℕ) → Appends old mid start → mid_failed ≡ had → IsSent r mid new mid_failed has rest → IsSent r old new had has (start ++ rest)
sent_last (Ok x) old mid new had mid_failed has start rest e f h = (appends_more old mid new start rest e h.0, h.1 ∙ f)
sent_last (Err x) old mid new had mid_failed has start rest e f h = (prefix_later old mid new start rest e h.0, stops_since x had mid_failed has f h.1)

-- a writer that takes something of a piece does not fail
or_false : (b : Bool) → (b || false) ≡ b
or_false true = refl
or_false false = refl

pub took_some : (n : ℕ) (piece : List ℕ) (old new : Bool) → (n ≡ 0 → ⊥) → new ≡ (old || fails_at n piece) → new ≡ old
took_some n piece old new some e =
    elim (nat_eq n 0) as (λ b. nat_eq n 0 ≡ b → new ≡ (old || (b && nat_lt 0 (length piece))) → new ≡ old) [
      | true ↦ λ none _. absurd (some ((unsigned_Decides n 0).0 none))
      | false ↦ λ _ f. f ∙ or_false old
    ] refl e

-- after a prefix of the piece, the same of the rest
pub piece_rest : (piece sent rest : List ℕ) (n : ℕ) → piece ≡ sent ++ rest → piece ≡ (sent ++ take n rest) ++ take (length rest - n) (drop n rest)
piece_rest piece sent rest n whole =
    let all : take (length rest - n) (drop n rest) ≡ drop n rest = take_all _ (drop n rest) (omega (arith, length-drop n rest)) in
    whole ∙ ap (λ t. sent ++ t) (sym (take-append-drop n rest)) ∙ sym (append_assoc sent (take n rest) (drop n rest)) ∙ ap (λ t. (sent ++ take n rest) ++ t) (sym all)

-- the lines of nodes, one after another
module _ (line : ℕ → Node → List ℕ) where
  pub record Step (id : ℕ) (ns : List Node) (i k : ℕ) (n : Node) : Type 0 where
    pub rest : List ℕ
    pub whole : lines_from line id ns ≡ lines_from line id (take i ns) ++ (line k n ++ rest)
    pub more : lines_from line id (take (suc i) ns) ≡ lines_from line id (take i ns) ++ line k n

  pub step : (id : ℕ) (ns : List Node) (i k : ℕ) (d : Node) → k ≡ id + i → i < length ns → Step id ns i k (get_or ns i d)
  step id [] i k d e h = absurd (omega arith)
  step id (n ∷ ns) zero k d e h =
      let is : k ≡ id = omega arith in
      record { rest = lines_from line (id + 1) ns; whole = rw is refl; more = rw is (append-nil (line id n)) }
  step id (n ∷ ns) (suc i) k d e h =
      let later = step (id + 1) ns i k d (omega arith) (omega arith) in
      record {
        rest = later.rest;
        whole = ap (λ t. line id n ++ t) later.whole ∙ sym (append_assoc (line id n) (lines_from line (id + 1) (take i ns)) _);
        more = ap (λ t. line id n ++ t) later.more ∙ sym (append_assoc (line id n) (lines_from line (id + 1) (take i ns)) _);
      }

  pub step_at : (id : ℕ) (ns : List Node) (i k : ℕ) (n : Node) → k ≡ id + i → i < length ns → n ≡ get_or ns i n → Step id ns i k n
  step_at id ns i k n e h is = subst (Step id ns i k) (sym is) (step id ns i k n e h)

-- a call that passes on the refusal of another stopped where that one did
pub stopped : {T : Type 0} (r : Result T Refusal) (refusal : Refusal) (old new : Option (List ℕ)) (had has : Bool) (text : List ℕ) → IsErrAnd r (λ e. e ≡ refusal) → AppendsPrefix old new text → StopsBy refusal had has → IsSent r old new had has text
stopped (Ok x) refusal old new had has text h p s = absurd h
stopped (Err e) refusal old new had has text h p s = (p, subst (λ z. StopsBy z had has) (sym h) s)

-- a first part went out whole, and the next piece stopped
pub stopped_later : {T : Type 0} (r : Result T Refusal) (refusal : Refusal) (old mid new : Option (List ℕ)) (had mid_failed has : Bool) (whole start piece rest : List ℕ) → IsErrAnd r (λ e. e ≡ refusal)
    → whole ≡ start ++ (piece ++ rest) → Appends old mid start → mid_failed ≡ had → AppendsPrefix mid new piece × StopsBy refusal mid_failed has → IsSent r old new had has whole
stopped_later r refusal old mid new had mid_failed has whole start piece rest h is e f k =
    stopped r refusal old new had has whole h
    (subst (AppendsPrefix old new) (sym is) (prefix_later old mid new start (piece ++ rest) e (prefix_start mid new piece rest k.0)))
    (stops_since refusal had mid_failed has f k.1)

-- if a text did not go out whole, a prefix did
pub prefix_sent : {T : Type 0} (r : Result T Refusal) (old new : Option (List ℕ)) (had has : Bool) (text : List ℕ) → IsSent r old new had has text → OnErr r (AppendsPrefix old new text)
prefix_sent (Ok x) old new had has text h = tt
prefix_sent (Err x) old new had has text h = h.0
