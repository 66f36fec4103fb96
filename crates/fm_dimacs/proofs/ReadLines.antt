-- A line that is read is the line as it is written, and a line that is written is read again.
use Rattle.std.proofs.Common.{◌≡◌, ℕ, ◌^◌, ◌<◌, ◌≤◌, true, false, cond, eqb, nat_le, List, ◌++◌, Option, Some, None, refl, sym, ap, subst, ◌∙◌, append_assoc, arith}
use Rattle.std.specs.Prelude.{codes, decimal}
use Rattle.std.proofs.lemmas.Bool.{eqb-true, eq-eqb, le-leb}
use Rattle.fm_records.specs.Ids.{id_text}
use Rattle.fm_net.specs.declared.node.Node.{Node}
use Rattle.fm_net.specs.declared.node.Node.TheVariants.{Sink, Unscheduled, Request, Machine, Task}
use Rattle.fm_net.specs.Nodes.{IsInRange}
use Rattle.fm_dimacs.specs.Text.{node_line, problem_line}
use Rattle.fm_dimacs.specs.inner.Scan.{◌>>=◌, choose, past_text, number_at, id_at, request_at, named_at, kind_at, node_at, problem_at, numbers_at}
use Rattle.fm_dimacs.proofs.Words.{Stops, bind_some, guard_some, after_takes, after_again, number_takes, number_again, id_takes, id_again}

some_is : {A : Type 0} (x y : A) → Some x ≡ Some y → x ≡ y
some_is x y e = cc

-- ---- a node

-- what follows the ID in a node's line
abbrev pub kind_text : Node → List ℕ
kind_text Sink = codes " S\n"
kind_text (Unscheduled job) = codes " U " ++ (id_text job ++ codes "\n")
kind_text (Request request) = codes " R " ++ (decimal request ++ codes "\n")
kind_text (Machine machine) = codes " M " ++ (id_text machine ++ codes "\n")
kind_text (Task task) = codes " T " ++ (id_text task ++ codes "\n")

pub line_is : (id : ℕ) (n : Node) → node_line id n ≡ codes "c " ++ (decimal id ++ kind_text n)
line_is id Sink = refl
line_is id (Unscheduled job) = refl
line_is id (Request request) = refl
line_is id (Machine machine) = refl
line_is id (Task task) = refl

request_takes : (bytes : List ℕ) (x : Node × List ℕ) → request_at bytes ≡ Some x → codes " R " ++ bytes ≡ kind_text x.0 ++ x.1
unfolding request_at
request_takes bytes x e =
    let a = bind_some (number_at bytes) (λ n. past_text (codes "\n") n.1 >>= λ rest. cond (nat_le n.0 1000000) (Some (Request n.0, rest)) None) x e in
    let b = bind_some (past_text (codes "\n") a.0.1) (λ rest. cond (nat_le a.0.0 1000000) (Some (Request a.0.0, rest)) None) x a.2 in
    let g = guard_some (nat_le a.0.0 1000000) (Request a.0.0, b.0) x b.2 in
    let whole : bytes ≡ (decimal a.0.0 ++ codes "\n") ++ b.0 =
    (number_takes bytes a.0 a.1).0 ∙ ap (λ t. decimal a.0.0 ++ t) (after_takes (codes "\n") a.0.1 b.0 b.1) ∙ sym (append_assoc (decimal a.0.0) (codes "\n") b.0) in
    subst (λ (y : Node × List ℕ). codes " R " ++ bytes ≡ kind_text y.0 ++ y.1) g.1 (ap (λ t. codes " R " ++ t) whole ∙ sym (append_assoc (codes " R ") (decimal a.0.0 ++ codes "\n") b.0))

request_again : (request : ℕ) (rest : List ℕ) → request ≤ 1000000 → request_at (decimal request ++ (codes "\n" ++ rest)) ≡ Some (Request request, rest)
unfolding request_at
request_again request rest within =
    ap (λ o. o >>= λ n. past_text (codes "\n") n.1 >>= λ r. cond (nat_le n.0 1000000) (Some (Request n.0, r)) None) (number_again request (codes "\n" ++ rest) (omega arith) refl)
    ∙ ap (λ o. o >>= λ r. cond (nat_le request 1000000) (Some (Request request, r)) None) (after_again (codes "\n") rest)
    ∙ ap (λ t. cond t (Some (Request request, rest)) None) (le-leb request 1000000 within)

named_takes : (node : ℕ → Node) (bytes : List ℕ) (x : Node × List ℕ) → named_at node bytes ≡ Some x → (n : ℕ) × (x.0 ≡ node n) × (bytes ≡ (id_text n ++ codes "\n") ++ x.1)
unfolding named_at
named_takes node bytes x e =
    let a = bind_some (id_at bytes) (λ n. past_text (codes "\n") n.1 >>= λ rest. Some (node n.0, rest)) x e in
    let b = bind_some (past_text (codes "\n") a.0.1) (λ rest. Some (node a.0.0, rest)) x a.2 in
    let is = some_is (node a.0.0, b.0) x b.2 in
    let whole : bytes ≡ (id_text a.0.0 ++ codes "\n") ++ b.0 =
    id_takes bytes a.0 a.1 ∙ ap (λ t. id_text a.0.0 ++ t) (after_takes (codes "\n") a.0.1 b.0 b.1) ∙ sym (append_assoc (id_text a.0.0) (codes "\n") b.0) in
    (a.0.0, ap (λ y. y.0) (sym is), whole ∙ ap (λ (y : Node × List ℕ). (id_text a.0.0 ++ codes "\n") ++ y.1) is)

named_again : (node : ℕ → Node) (n : ℕ) (rest : List ℕ) → n < 2 ^ 128 → named_at node (id_text n ++ (codes "\n" ++ rest)) ≡ Some (node n, rest)
unfolding named_at
named_again node n rest fits =
    ap (λ o. o >>= λ m. past_text (codes "\n") m.1 >>= λ r. Some (node m.0, r)) (id_again n (codes "\n" ++ rest) fits)
    ∙ ap (λ o. o >>= λ r. Some (node n, r)) (after_again (codes "\n") rest)

-- a choice that gave a value, by the first or by the others
chosen : {A B : Type 0} (o : Option A) (f : A → Option B) (other : Option B) (y : B) (P : Type 0) → choose o f other ≡ Some y
    → ((x : A) → o ≡ Some x → f x ≡ Some y → P) → (other ≡ Some y → P) → P
chosen None f other y P e first later = later e
chosen (Some x) f other y P e first later = first x refl e

named_kind : (node : ℕ → Node) (word bytes rest : List ℕ) (x : Node × List ℕ) → ((n : ℕ) → kind_text (node n) ≡ word ++ (id_text n ++ codes "\n")) → past_text word bytes ≡ Some rest → named_at node rest ≡ Some x → bytes ≡ kind_text x.0 ++ x.1
named_kind node word bytes rest x text e f =
    let t = named_takes node rest x f in
    after_takes word bytes rest e ∙ ap (λ r. word ++ r) t.2 ∙ sym (append_assoc word (id_text t.0 ++ codes "\n") x.1) ∙ ap (λ w. w ++ x.1) (sym (text t.0)) ∙ ap (λ n. kind_text n ++ x.1) (sym t.1)

kind_takes : (bytes : List ℕ) (x : Node × List ℕ) → kind_at bytes ≡ Some x → bytes ≡ kind_text x.0 ++ x.1
unfolding kind_at
kind_takes bytes x e =
    chosen (past_text (codes " S\n") bytes) (λ rest. Some (Sink, rest)) _ x (bytes ≡ kind_text x.0 ++ x.1) e
    (λ rest f g. after_takes (codes " S\n") bytes rest f ∙ ap (λ (y : Node × List ℕ). kind_text y.0 ++ y.1) (some_is (Sink, rest) x g))
    (λ e2. chosen (past_text (codes " U ") bytes) (named_at Unscheduled) _ x (bytes ≡ kind_text x.0 ++ x.1) e2
    (λ rest f g. named_kind Unscheduled (codes " U ") bytes rest x (λ n. refl) f g)
    (λ e3. chosen (past_text (codes " R ") bytes) request_at _ x (bytes ≡ kind_text x.0 ++ x.1) e3
    (λ rest f g. after_takes (codes " R ") bytes rest f ∙ request_takes rest x g)
    (λ e4. chosen (past_text (codes " M ") bytes) (named_at Machine) _ x (bytes ≡ kind_text x.0 ++ x.1) e4
    (λ rest f g. named_kind Machine (codes " M ") bytes rest x (λ n. refl) f g)
    (λ e5. chosen (past_text (codes " T ") bytes) (named_at Task) None x (bytes ≡ kind_text x.0 ++ x.1) e5
    (λ rest f g. named_kind Task (codes " T ") bytes rest x (λ n. refl) f g)
    (λ e6. absurd (let never : ⊥ = cc in never))))))

kind_again : (n : Node) (rest : List ℕ) → IsInRange n → kind_at (kind_text n ++ rest) ≡ Some (n, rest)
unfolding kind_at
kind_again Sink rest fits = refl
kind_again (Unscheduled job) rest fits = ap (named_at Unscheduled) (append_assoc (id_text job) (codes "\n") rest) ∙ named_again Unscheduled job rest fits
kind_again (Request request) rest fits = ap request_at (append_assoc (decimal request) (codes "\n") rest) ∙ request_again request rest fits
kind_again (Machine machine) rest fits = ap (named_at Machine) (append_assoc (id_text machine) (codes "\n") rest) ∙ named_again Machine machine rest fits
kind_again (Task task) rest fits = ap (named_at Task) (append_assoc (id_text task) (codes "\n") rest) ∙ named_again Task task rest fits

pub node_takes : (id : ℕ) (bytes : List ℕ) (x : Node × List ℕ) → node_at id bytes ≡ Some x → bytes ≡ node_line id x.0 ++ x.1
unfolding node_at
node_takes id bytes x e =
    let a = bind_some (past_text (codes "c ") bytes) (λ rest. number_at rest >>= λ n. cond (eqb n.0 id) (kind_at n.1) None) x e in
    let b = bind_some (number_at a.0) (λ n. cond (eqb n.0 id) (kind_at n.1) None) x a.2 in
    elim (eqb b.0.0 id) as (λ t. eqb b.0.0 id ≡ t → cond t (kind_at b.0.1) None ≡ Some x → bytes ≡ node_line id x.0 ++ x.1) [
      | true ↦ λ same f.
          let number : b.0.0 ≡ id = eqb-true b.0.0 id same in
          let behind : a.0 ≡ decimal id ++ (kind_text x.0 ++ x.1) = (number_takes a.0 b.0 b.1).0 ∙ (λ i. decimal (number i) ++ kind_takes b.0.1 x f i) in
          after_takes (codes "c ") bytes a.0 a.1 ∙ ap (λ r. codes "c " ++ r) (behind ∙ sym (append_assoc (decimal id) (kind_text x.0) x.1))
          ∙ sym (append_assoc (codes "c ") (decimal id ++ kind_text x.0) x.1) ∙ ap (λ t. t ++ x.1) (sym (line_is id x.0))
      | false ↦ λ same f. absurd (let never : ⊥ = cc in never)
    ] refl b.2

kind_stops : (n : Node) (rest : List ℕ) → Stops (kind_text n ++ rest)
kind_stops Sink rest = refl
kind_stops (Unscheduled job) rest = refl
kind_stops (Request request) rest = refl
kind_stops (Machine machine) rest = refl
kind_stops (Task task) rest = refl

pub node_again : (id : ℕ) (n : Node) (rest : List ℕ) → id < 2 ^ 64 → IsInRange n → node_at id (node_line id n ++ rest) ≡ Some (n, rest)
unfolding node_at
node_again id n rest fits in_range =
    let regrouped : node_line id n ++ rest ≡ codes "c " ++ (decimal id ++ (kind_text n ++ rest)) =
    ap (λ t. t ++ rest) (line_is id n) ∙ append_assoc (codes "c ") (decimal id ++ kind_text n) rest ∙ ap (λ t. codes "c " ++ t) (append_assoc (decimal id) (kind_text n) rest) in
    ap (node_at id) regrouped
    ∙ ap (λ o. o >>= λ r. number_at r >>= λ m. cond (eqb m.0 id) (kind_at m.1) None) (after_again (codes "c ") (decimal id ++ (kind_text n ++ rest)))
    ∙ ap (λ o. o >>= λ m. cond (eqb m.0 id) (kind_at m.1) None) (number_again id (kind_text n ++ rest) fits (kind_stops n rest))
    ∙ ap (λ t. cond t (kind_at (kind_text n ++ rest)) None) (eq-eqb id id refl)
    ∙ kind_again n rest in_range

-- ---- the problem

five : (a b c d e rest : List ℕ) → (a ++ (b ++ (c ++ (d ++ e)))) ++ rest ≡ a ++ (b ++ (c ++ (d ++ (e ++ rest))))
five a b c d e rest = simp append_assoc

pub problem_takes : (nodes : ℕ) (bytes : List ℕ) (x : ℕ × List ℕ) → problem_at nodes bytes ≡ Some x → (bytes ≡ problem_line nodes x.0 ++ x.1) × (x.0 < 2 ^ 64)
unfolding problem_at
problem_takes nodes bytes x e =
    let a = bind_some (past_text (codes "p min ") bytes) (λ rest. number_at rest >>= λ n. past_text (codes " ") n.1 >>= λ rest. number_at rest >>= λ arcs. past_text (codes "\n") arcs.1 >>= λ rest. cond (eqb n.0 nodes) (Some (arcs.0, rest)) None) x e in
    let b = bind_some (number_at a.0) (λ n. past_text (codes " ") n.1 >>= λ rest. number_at rest >>= λ arcs. past_text (codes "\n") arcs.1 >>= λ rest. cond (eqb n.0 nodes) (Some (arcs.0, rest)) None) x a.2 in
    let c = bind_some (past_text (codes " ") b.0.1) (λ rest. number_at rest >>= λ arcs. past_text (codes "\n") arcs.1 >>= λ rest. cond (eqb b.0.0 nodes) (Some (arcs.0, rest)) None) x b.2 in
    let d = bind_some (number_at c.0) (λ arcs. past_text (codes "\n") arcs.1 >>= λ rest. cond (eqb b.0.0 nodes) (Some (arcs.0, rest)) None) x c.2 in
    let f = bind_some (past_text (codes "\n") d.0.1) (λ rest. cond (eqb b.0.0 nodes) (Some (d.0.0, rest)) None) x d.2 in
    let g = guard_some (eqb b.0.0 nodes) (d.0.0, f.0) x f.2 in
    let number : b.0.0 ≡ nodes = eqb-true b.0.0 nodes g.0 in
    let arcs = number_takes c.0 d.0 d.1 in
    let whole : bytes ≡ problem_line nodes d.0.0 ++ f.0 =
    after_takes (codes "p min ") bytes a.0 a.1
    ∙ ap (λ t. codes "p min " ++ t) ((number_takes a.0 b.0 b.1).0 ∙ (λ i. decimal (number i) ++ after_takes (codes " ") b.0.1 c.0 c.1 i)
    ∙ ap (λ t. decimal nodes ++ (codes " " ++ t)) (arcs.0 ∙ ap (λ t. decimal d.0.0 ++ t) (after_takes (codes "\n") d.0.1 f.0 f.1)))
    ∙ sym (five (codes "p min ") (decimal nodes) (codes " ") (decimal d.0.0) (codes "\n") f.0) in
    subst (λ (y : ℕ × List ℕ). (bytes ≡ problem_line nodes y.0 ++ y.1) × (y.0 < 2 ^ 64)) g.1 (whole, arcs.1)

pub problem_again : (nodes arcs : ℕ) (rest : List ℕ) → nodes < 2 ^ 64 → arcs < 2 ^ 64 → problem_at nodes (problem_line nodes arcs ++ rest) ≡ Some (arcs, rest)
unfolding problem_at
problem_again nodes arcs rest fits fit =
    let behind_n = codes " " ++ (decimal arcs ++ (codes "\n" ++ rest)) in
    ap (problem_at nodes) (five (codes "p min ") (decimal nodes) (codes " ") (decimal arcs) (codes "\n") rest)
    ∙ ap (λ o. o >>= λ r. number_at r >>= λ n. past_text (codes " ") n.1 >>= λ r. number_at r >>= λ m. past_text (codes "\n") m.1 >>= λ r. cond (eqb n.0 nodes) (Some (m.0, r)) None) (after_again (codes "p min ") (decimal nodes ++ behind_n))
    ∙ ap (λ o. o >>= λ n. past_text (codes " ") n.1 >>= λ r. number_at r >>= λ m. past_text (codes "\n") m.1 >>= λ r. cond (eqb n.0 nodes) (Some (m.0, r)) None) (number_again nodes behind_n fits refl)
    ∙ ap (λ o. o >>= λ r. number_at r >>= λ m. past_text (codes "\n") m.1 >>= λ r. cond (eqb nodes nodes) (Some (m.0, r)) None) (after_again (codes " ") (decimal arcs ++ (codes "\n" ++ rest)))
    ∙ ap (λ o. o >>= λ m. past_text (codes "\n") m.1 >>= λ r. cond (eqb nodes nodes) (Some (m.0, r)) None) (number_again arcs (codes "\n" ++ rest) fit refl)
    ∙ ap (λ o. o >>= λ r. cond (eqb nodes nodes) (Some (arcs, r)) None) (after_again (codes "\n") rest)
    ∙ ap (λ t. cond t (Some (arcs, rest)) None) (eq-eqb nodes nodes refl)

-- ---- an arc

-- the line of an arc with these numbers
abbrev pub numbers_line : ℕ × ℕ × ℕ × ℕ → List ℕ
numbers_line x = codes "a " ++ (decimal x.0 ++ (codes " " ++ (decimal x.1 ++ (codes " 0 " ++ (decimal x.2 ++ (codes " " ++ (decimal x.3 ++ codes "\n")))))))

pub record Fit (x : ℕ × ℕ × ℕ × ℕ) : Type 0 where
  pub source : x.0 < 2 ^ 64
  pub target : x.1 < 2 ^ 64
  pub capacity : x.2 < 2 ^ 64
  pub cost : x.3 < 2 ^ 64

nine : (a b c d e f g h i rest : List ℕ) → (a ++ (b ++ (c ++ (d ++ (e ++ (f ++ (g ++ (h ++ i)))))))) ++ rest ≡ a ++ (b ++ (c ++ (d ++ (e ++ (f ++ (g ++ (h ++ (i ++ rest))))))))
nine a b c d e f g h i rest = simp append_assoc

abbrev Found : Type 0
Found = Option ((ℕ × ℕ × ℕ × ℕ) × List ℕ)

-- what is read behind each of the numbers
abbrev behind_cost : ℕ → ℕ → ℕ → ℕ × List ℕ → Found
behind_cost s t c w = past_text (codes "\n") w.1 >>= λ r. Some ((s, t, c, w.0), r)

abbrev behind_capacity : ℕ → ℕ → ℕ × List ℕ → Found
behind_capacity s t c = past_text (codes " ") c.1 >>= λ r. number_at r >>= behind_cost s t c.0

abbrev behind_target : ℕ → ℕ × List ℕ → Found
behind_target s t = past_text (codes " 0 ") t.1 >>= λ r. number_at r >>= behind_capacity s t.0

abbrev behind_source : ℕ × List ℕ → Found
behind_source s = past_text (codes " ") s.1 >>= λ r. number_at r >>= behind_target s.0

-- a word, and then a number
pub record Wrote (word bytes : List ℕ) (f : ℕ × List ℕ → Found) (y : (ℕ × ℕ × ℕ × ℕ) × List ℕ) : Type 0 where
  pub found : ℕ × List ℕ
  pub text : bytes ≡ word ++ (decimal found.0 ++ found.1)
  pub fits : found.0 < 2 ^ 64
  pub rest : f found ≡ Some y

number_behind : (word bytes : List ℕ) (f : ℕ × List ℕ → Found) (y : (ℕ × ℕ × ℕ × ℕ) × List ℕ) → (past_text word bytes >>= λ r. number_at r >>= f) ≡ Some y → Wrote word bytes f y
number_behind word bytes f y e =
    let a = bind_some (past_text word bytes) (λ r. number_at r >>= f) y e in
    let b = bind_some (number_at a.0) f y a.2 in
    let n = number_takes a.0 b.0 b.1 in
    record { found = b.0; text = after_takes word bytes a.0 a.1 ∙ ap (λ t. word ++ t) n.0; fits = n.1; rest = b.2 }

written_behind : (word rest : List ℕ) (n : ℕ) (f : ℕ × List ℕ → Found) → n < 2 ^ 64 → Stops rest → (past_text word (word ++ (decimal n ++ rest)) >>= λ r. number_at r >>= f) ≡ f (n, rest)
written_behind word rest n f fits stop =
    ap (λ o. o >>= λ r. number_at r >>= f) (after_again word (decimal n ++ rest)) ∙ ap (λ o. o >>= f) (number_again n rest fits stop)

joined : (s t c w : ℕ) (bytes a b d e rest : List ℕ) (x : (ℕ × ℕ × ℕ × ℕ) × List ℕ)
    → bytes ≡ codes "a " ++ (decimal s ++ a) → a ≡ codes " " ++ (decimal t ++ b) → b ≡ codes " 0 " ++ (decimal c ++ d) → d ≡ codes " " ++ (decimal w ++ e) → e ≡ codes "\n" ++ rest
    → ((s, t, c, w), rest) ≡ x → Fit (s, t, c, w) → (bytes ≡ numbers_line x.0 ++ x.1) × Fit x.0
joined s t c w bytes a b d e rest x p q r u v is fit =
    let whole : bytes ≡ numbers_line (s, t, c, w) ++ rest =
    p ∙ (λ i. codes "a " ++ (decimal s ++ q i)) ∙ (λ i. codes "a " ++ (decimal s ++ (codes " " ++ (decimal t ++ r i))))
    ∙ (λ i. codes "a " ++ (decimal s ++ (codes " " ++ (decimal t ++ (codes " 0 " ++ (decimal c ++ u i))))))
    ∙ (λ i. codes "a " ++ (decimal s ++ (codes " " ++ (decimal t ++ (codes " 0 " ++ (decimal c ++ (codes " " ++ (decimal w ++ v i))))))))
    ∙ sym (nine (codes "a ") (decimal s) (codes " ") (decimal t) (codes " 0 ") (decimal c) (codes " ") (decimal w) (codes "\n") rest) in
    subst (λ (y : (ℕ × ℕ × ℕ × ℕ) × List ℕ). (bytes ≡ numbers_line y.0 ++ y.1) × Fit y.0) is (whole, fit)

pub numbers_take : (bytes : List ℕ) (x : (ℕ × ℕ × ℕ × ℕ) × List ℕ) → numbers_at bytes ≡ Some x → (bytes ≡ numbers_line x.0 ++ x.1) × Fit x.0
unfolding numbers_at
numbers_take bytes x e =
    let s = number_behind (codes "a ") bytes behind_source x e in
    let t = number_behind (codes " ") s.found.1 (behind_target s.found.0) x s.rest in
    let c = number_behind (codes " 0 ") t.found.1 (behind_capacity s.found.0 t.found.0) x t.rest in
    let w = number_behind (codes " ") c.found.1 (behind_cost s.found.0 t.found.0 c.found.0) x c.rest in
    let n = bind_some (past_text (codes "\n") w.found.1) (λ r. Some ((s.found.0, t.found.0, c.found.0, w.found.0), r)) x w.rest in
    let is = some_is ((s.found.0, t.found.0, c.found.0, w.found.0), n.0) x n.2 in
    joined s.found.0 t.found.0 c.found.0 w.found.0 bytes s.found.1 t.found.1 c.found.1 w.found.1 n.0 x s.text t.text c.text w.text (after_takes (codes "\n") w.found.1 n.0 n.1)
    is (record { source = s.fits; target = t.fits; capacity = c.fits; cost = w.fits })

pub numbers_again : (x : ℕ × ℕ × ℕ × ℕ) (rest : List ℕ) → Fit x → numbers_at (numbers_line x ++ rest) ≡ Some (x, rest)
unfolding numbers_at
numbers_again x rest fit =
    let end = codes "\n" ++ rest in
    let cost = codes " " ++ (decimal x.3 ++ end) in
    let capacity = codes " 0 " ++ (decimal x.2 ++ cost) in
    let target = codes " " ++ (decimal x.1 ++ capacity) in
    ap numbers_at (nine (codes "a ") (decimal x.0) (codes " ") (decimal x.1) (codes " 0 ") (decimal x.2) (codes " ") (decimal x.3) (codes "\n") rest)
    ∙ written_behind (codes "a ") target x.0 behind_source fit.source refl
    ∙ written_behind (codes " ") capacity x.1 (behind_target x.0) fit.target refl
    ∙ written_behind (codes " 0 ") cost x.2 (behind_capacity x.0 x.1) fit.capacity refl
    ∙ written_behind (codes " ") end x.3 (behind_cost x.0 x.1 x.2) fit.cost refl
    ∙ ap (λ o. o >>= λ r. Some ((x.0, x.1, x.2, x.3), r)) (after_again (codes "\n") rest)
