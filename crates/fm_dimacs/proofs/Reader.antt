-- For the reader's parts: what may come next, and what may not.
use Rattle.std.proofs.Common.{◌≡◌, ℕ, suc, ◌+◌, ◌-◌, ◌^◌, ◌<◌, ◌≤◌, ◌==◌, false, List, [], ◌∷◌, ◌++◌, Result, Ok, Err, Option, Some, None, length, get_or, drop, refl, sym, ap, subst, ◌∙◌, inl, inr, arith}
use Rattle.std.specs.Prelude.{slice_get, IfSome, IfErr, MatchResult}
use Rattle.std.specs.Result.{IsErrAnd}
use Rattle.std.proofs.lemmas.Bool.{eqb-false}
use Rattle.std.specs.declared.cmp.Ordering.{Ordering}
use Rattle.std.specs.declared.cmp.Ordering.TheVariants.{Less}
use Rattle.std.proofs.Math.Seq.{drop-cons}
use Rattle.std.proofs.lemmas.List.{length-append}
use Rattle.fm_records.proofs.TableLaws.{some_none}
use Rattle.fm_records.specs.declared.refusal.Refusal.{Refusal}
use Rattle.fm_records.specs.declared.refusal.Refusal.TheVariants.{OutOfMemory, BadDimacs}
use Rattle.fm_net.specs.declared.node.Node.{Node}
use Rattle.fm_net.specs.Nodes.{node_cmp, IsInRange}
use Rattle.fm_dimacs.specs.Text.{node_line, problem_line, supply_line}
use Rattle.fm_dimacs.specs.Syntax.{LineState, Comments, Body, Reaches, IsAfterLast, IsNextNode, BreaksAfter, IsFault, with_line, supplies_from, unit_lines}
use Rattle.fm_dimacs.specs.inner.Scan.{Reads, past_text, node_at, problem_at}
use Rattle.fm_dimacs.proofs.Leading.{next_in_range, same_node_line, node_no_problem}
use Rattle.fm_dimacs.proofs.Words.{after_takes, after_again}
use Rattle.fm_dimacs.proofs.ReadLines.{node_again, node_takes, problem_again, problem_takes}
use Rattle.fm_dimacs.proofs.Lasting.{leads_more, leads_one}
use Rattle.fm_dimacs.proofs.Verdict.{broken_here, broken_behind}

-- what a value is that was read
pub reads_none : {X Y : Type 0} (view : X → Y) (o : Option X) (read : Option Y) → o ≡ None → Reads view o read → read ≡ None
reads_none view None read e h = h
reads_none view (Some x) read e h = some_none x e

pub reads_some : {X Y : Type 0} (view : X → Y) (o : Option X) (read : Option Y) (x : X) → o ≡ Some x → Reads view o read → read ≡ Some (view x)
reads_some view None read x e h = some_none x (sym e)
reads_some view (Some y) read x e h = let same : y ≡ x = cc in h ∙ ap (λ z. Some (view z)) same

pub some_holds : {X : Type 0} (P : X → Type 0) (o : Option X) (x : X) → o ≡ Some x → IfSome o P → P x
some_holds P None x e h = some_none x (sym e)
some_holds P (Some y) x e h = let same : y ≡ x = cc in subst P same h

-- after the last one
pub after_is : {X : Type 0} (cmp : X → X → Ordering) (xs : List X) (x n : X) → slice_get xs (length xs - 1) ≡ Some x → IsAfterLast cmp xs n → cmp x n ≡ Less
after_is cmp [] x n e h = absurd (let never : ⊥ = cc in never)
after_is cmp (y ∷ []) x n e h = let same : y ≡ x = cc in subst (λ z. cmp z n ≡ Less) same h
after_is cmp (y ∷ z ∷ ys) x n e h =
    let place : length (y ∷ z ∷ ys) - 1 ≡ suc (length (z ∷ ys) - 1) = omega arith in
    after_is cmp (z ∷ ys) x n (sym (ap (λ i. slice_get (y ∷ z ∷ ys) i) place) ∙ e) h

pub is_after : {X : Type 0} (cmp : X → X → Ordering) (xs : List X) (x n : X) → slice_get xs (length xs - 1) ≡ Some x → cmp x n ≡ Less → IsAfterLast cmp xs n
is_after cmp [] x n e h = tt
is_after cmp (y ∷ []) x n e h = let same : x ≡ y = cc in subst (λ z. cmp z n ≡ Less) same h
is_after cmp (y ∷ z ∷ ys) x n e h =
    let place : length (y ∷ z ∷ ys) - 1 ≡ suc (length (z ∷ ys) - 1) = omega arith in
    is_after cmp (z ∷ ys) x n (sym (ap (λ i. slice_get (y ∷ z ∷ ys) i) place) ∙ e) h

pub next_is_after : (nodes : List Node) (x n : Node) → slice_get nodes (length nodes - 1) ≡ Some x → IsNextNode nodes n → node_cmp x n ≡ Less
next_is_after [] x n e h = absurd (let never : ⊥ = cc in never)
next_is_after (m ∷ ms) x n e h = after_is node_cmp (m ∷ ms) x n e h.0

pub after_is_next : (nodes : List Node) (x n : Node) → slice_get nodes (length nodes - 1) ≡ Some x → IsInRange n → node_cmp x n ≡ Less → IsNextNode nodes n
after_is_next [] x n e r h = absurd (let never : ⊥ = cc in never)
after_is_next (m ∷ ms) x n e r h = (is_after node_cmp (m ∷ ms) x n e h, r)

-- a node's comment that is not read does not stand there
pub no_node : (id : ℕ) (text : List ℕ) (n : Node) (behind : List ℕ) → id < 2 ^ 64 → node_at id text ≡ None → IsInRange n → text ≡ node_line id n ++ behind → ⊥
no_node id text n behind fits e r is = some_none (n, behind) (sym (node_again id n behind fits r) ∙ sym (ap (node_at id) is) ∙ e)

-- a comment of a node that may not come next is broken
pub out_of_order : (nodes : List Node) (text : List ℕ) (m : Node) (rest : List ℕ) → length nodes + 1 < 2 ^ 64 → IsInRange m → node_at (length nodes + 1) text ≡ Some (m, rest) → (IsNextNode nodes m → ⊥)
    → BreaksAfter (length nodes) (Comments nodes) text (length nodes + 1)
out_of_order nodes text m rest fits r e never =
    let here : text ≡ node_line (length nodes + 1) m ++ rest = node_takes (length nodes + 1) text (m, rest) e in
    broken_here (length nodes) (length nodes + 1) (Comments nodes) text refl (record {
      no_line = λ line behind next is h. elim h [
        | inl x ↦
            let same = same_node_line (length nodes + 1) m x.0 rest behind fits r (next_in_range nodes x.0 x.1) (sym here ∙ is ∙ (λ i. x.2 i ++ behind)) in
            never (subst (IsNextNode nodes) (sym same.0) x.1)
        | inr x ↦ node_no_problem (length nodes + 1) (length nodes) x.0 m rest behind (sym here ∙ is ∙ (λ i. x.3 i ++ behind))
      ];
      no_end = λ h. h;
    })

-- a fault behind good lines
pub fault_behind : (lines n behind : ℕ) (p q : LineState) (text rest : List ℕ) (refusal : Refusal) → behind ≡ lines + n → Reaches n p text q rest → IsFault behind q rest refusal → IsFault lines p text refusal
fault_behind lines n behind p q text rest OutOfMemory e h f = tt
fault_behind lines n behind p q text rest (BadDimacs line) e h f = broken_behind lines n line p q text rest h (subst (λ m. BreaksAfter m q rest line) e f)
fault_behind lines n behind p q text rest _ e h f = absurd f

-- one more node
pub node_more : (nodes items : List Node) (n : Node) (text b c : List ℕ) → items ≡ nodes ++ (n ∷ []) → Reaches (length nodes) (Comments []) text (Comments nodes) b → IsNextNode nodes n → b ≡ node_line (length nodes + 1) n ++ c
    → Reaches (length items) (Comments []) text (Comments items) c
node_more nodes items n text b c e h next is =
    let count : length nodes + 1 ≡ length items = omega (arith, ap length e, length-append nodes (n ∷ [])) in
    let more = leads_more (length nodes) (Comments []) (Comments nodes) (Comments items) text b (node_line (length nodes + 1) n) c h is (inl (n, next, refl, ap Comments e)) in
    subst (λ k. Reaches k (Comments []) text (Comments items) c) count more

-- no problem line stands where none is read, and none may stand before any comment
pub problem_broken : (nodes : List Node) (text : List ℕ) (line : ℕ) → line ≡ length nodes + 1 → length nodes < 2 ^ 64 → ((n : Node) (behind : List ℕ) → IsNextNode nodes n → text ≡ node_line (length nodes + 1) n ++ behind → ⊥)
    → ((arcs : ℕ) (behind : List ℕ) → 0 < length nodes → problem_at (length nodes) text ≡ Some (arcs, behind) → ⊥) → BreaksAfter (length nodes) (Comments nodes) text line
problem_broken nodes text line e few never none =
    broken_here (length nodes) line (Comments nodes) text e (record {
      no_line = λ line behind next is h. elim h [
        | inl x ↦ never x.0 behind x.1 (is ∙ (λ i. x.2 i ++ behind))
        | inr x ↦ none x.0 behind x.1 (ap (problem_at (length nodes)) (is ∙ (λ i. x.3 i ++ behind)) ∙ problem_again (length nodes) x.0 behind few x.2)
      ];
      no_end = λ h. h;
    })

pub problem_leads : (nodes : List Node) (text : List ℕ) (x : ℕ × List ℕ) → 0 < length nodes → problem_at (length nodes) text ≡ Some x → Reaches 1 (Comments nodes) text (Body nodes (unit_lines nodes) [] x.0) x.1
problem_leads nodes text x some e =
    let found = problem_takes (length nodes) text x e in
    leads_one (Comments nodes) (Body nodes (unit_lines nodes) [] x.0) text (problem_line (length nodes) x.0) x.1 found.0 (inr (x.0, some, found.1, refl, refl))

-- ---- the demand and the supplies

pub unit_leads : (line text rest : List ℕ) → (length line == 0) ≡ false → past_text line text ≡ Some rest → (nodes : List Node) (units : List (List ℕ)) (left : ℕ) → Reaches 1 (Body nodes (with_line line units) [] left) text (Body nodes units [] left) rest
unit_leads [] text rest some e nodes units left = absurd (let never : ⊥ = cc in never)
unit_leads (b ∷ bs) text rest some e nodes units left = leads_one (Body nodes ((b ∷ bs) ∷ units) [] left) (Body nodes units [] left) text (b ∷ bs) rest (after_takes (b ∷ bs) text rest e) (refl, refl)

pub unit_broken : (line text : List ℕ) (lines : ℕ) → (length line == 0) ≡ false → past_text line text ≡ None → (nodes : List Node) (units : List (List ℕ)) (left : ℕ) → BreaksAfter lines (Body nodes (with_line line units) [] left) text (lines + 1)
unit_broken [] text lines some e nodes units left = absurd (let never : ⊥ = cc in never)
unit_broken (b ∷ bs) text lines some e nodes units left =
    broken_here lines (lines + 1) (Body nodes ((b ∷ bs) ∷ units) [] left) text refl (record {
      no_line = λ line behind next is h. some_none behind (sym (after_again (b ∷ bs) behind) ∙ sym (ap (past_text (b ∷ bs)) (is ∙ (λ i. h.0 i ++ behind))) ∙ e);
      no_end = λ h. h;
    })

pub supplies_at : (id i : ℕ) (nodes : List Node) (n : Node) → i < length nodes → n ≡ get_or nodes i n → supplies_from id (drop i nodes) ≡ with_line (supply_line id n) (supplies_from (id + 1) (drop (i + 1) nodes))
supplies_at id i nodes n h is =
    let next : suc i ≡ i + 1 = omega arith in
    ap (supplies_from id) (drop-cons nodes i n h) ∙ (λ j. with_line (supply_line id (sym is j)) (supplies_from (id + 1) (drop (next j) nodes)))

pub unit_room : (line text rest : List ℕ) → (length line == 0) ≡ false → past_text line text ≡ Some rest → 1 + length rest ≤ length text
unit_room line text rest some e = let other = eqb-false (length line) 0 some in omega (arith, ap length (after_takes line text rest e), length-append line rest)

-- a call that passes on the refusal of another
pub fault_passed : {T : Type 0} (r : Result T Refusal) (refusal : Refusal) (lines : ℕ) (p : LineState) (text : List ℕ) → IsErrAnd r (λ e. e ≡ refusal) → IsFault lines p text refusal → IfErr r (IsFault lines p text)
fault_passed (Ok x) refusal lines p text h f = absurd h
fault_passed (Err e) refusal lines p text h f = subst (IsFault lines p text) (sym h) f

pub only_passed : {T : Type 0} (r : Result T Refusal) (refusal : Refusal) (P : T → Type 0) → IsErrAnd r (λ e. e ≡ refusal) → refusal ≡ OutOfMemory → MatchResult r P (λ e. e ≡ OutOfMemory)
only_passed (Ok x) refusal P h is = absurd h
only_passed (Err e) refusal P h is = h ∙ is
