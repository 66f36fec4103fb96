-- The network of the nodes that were read, and the verdict on a whole text.
use Rattle.std.proofs.Common.{◌≡◌, ℕ, zero, suc, ◌+◌, ◌^◌, ◌<◌, List, [], ◌∷◌, ◌++◌, length, get_or, take, drop, refl, sym, ap, subst, ◌∙◌, append_assoc, arith}
use Rattle.std.specs.List.{AllByRecursion}
use Rattle.std.proofs.Math.Seq.{drop-cons}
use Rattle.std.proofs.lemmas.List.{take_more, take-append-drop}
use Rattle.fm_records.specs.declared.refusal.Refusal.{Refusal}
use Rattle.fm_records.specs.declared.refusal.Refusal.TheVariants.{OutOfMemory, BadDimacs}
use Rattle.fm_records.specs.Sets.{insert_once}
use Rattle.fm_records.specs.Rising.{Rises}
use Rattle.fm_net.specs.declared.node.Node.{Node}
use Rattle.fm_net.specs.declared.node.Node.TheVariants.{Sink, Unscheduled, Request, Machine, Task}
use Rattle.fm_net.specs.Nodes.{node_cmp, IsInRange, IsRequestInRange}
use Rattle.fm_net.specs.Net.{Net, CanBeNet}
use Rattle.fm_dimacs.specs.Text.{dump_text}
use Rattle.fm_dimacs.specs.Syntax.{Comments, Body, Reaches, WhyNot}
use Rattle.fm_dimacs.proofs.Arcs.{insert_last, leads_first}
use Rattle.fm_dimacs.proofs.Lasting.{leads_on}
use Rattle.fm_dimacs.proofs.Whole.{whole_text}
use Rattle.fm_dimacs.proofs.Verdict.{one_text, not_broken}

pub in_range_at : (nodes : List Node) (i : ℕ) (n : Node) → AllByRecursion IsInRange nodes → i < length nodes → n ≡ get_or nodes i n → IsInRange n
in_range_at [] i n all h e = absurd (omega arith)
in_range_at (m ∷ ms) zero n all h e = subst IsInRange (sym e) all.0
in_range_at (m ∷ ms) (suc i) n all h e = in_range_at ms i n all.1 (omega arith) e

pub request_in_range : (n : Node) → IsInRange n → IsRequestInRange n
request_in_range Sink r = tt
request_in_range (Unscheduled job) r = tt
request_in_range (Request request) r = r
request_in_range (Machine machine) r = tt
request_in_range (Task task) r = tt

-- one more node
pub node_put : (before nodes : List Node) (i : ℕ) (n : Node) → Rises node_cmp (before ++ nodes) → i < length nodes → n ≡ get_or nodes i n → insert_once node_cmp n (before ++ take i nodes) ≡ before ++ take (i + 1) nodes
node_put before nodes i n r h e =
    let parts : nodes ≡ take i nodes ++ (n ∷ drop (suc i) nodes) = sym (take-append-drop i nodes) ∙ ap (λ t. take i nodes ++ t) (drop-cons nodes i n h ∙ ap (λ m. m ∷ drop (suc i) nodes) (sym e)) in
    let whole : before ++ nodes ≡ (before ++ take i nodes) ++ (n ∷ drop (suc i) nodes) = ap (λ t. before ++ t) parts ∙ sym (append_assoc before (take i nodes) (n ∷ drop (suc i) nodes)) in
    let more : take (i + 1) nodes ≡ take i nodes ++ (n ∷ []) = take_more nodes i n h ∙ ap (λ m. take i nodes ++ (m ∷ [])) (sym e) in
    insert_last (before ++ take i nodes) (drop (suc i) nodes) n (subst (Rises node_cmp) whole r) ∙ append_assoc before (take i nodes) (n ∷ []) ∙ ap (λ t. before ++ t) (sym more)

sink_first : (nodes : List Node) → ((d : Node) → 0 < length nodes → get_or nodes 0 d ≡ Sink) → 0 < length nodes → nodes ≡ Sink ∷ drop 1 nodes
sink_first [] first some = absurd (omega arith)
sink_first (n ∷ ns) first some = ap (λ m. m ∷ ns) (first n some)

-- the first of the nodes that were read is the sink
pub read_first : (k : ℕ) (nodes : List Node) (text rest : List ℕ) → Reaches k (Comments []) text (Comments nodes) rest → 0 < length nodes → nodes ≡ Sink ∷ drop 1 nodes
read_first k nodes text rest h some = sink_first nodes (leads_first k (Comments []) (Comments nodes) text rest (λ d none. absurd (omega arith)) h) some

-- a text that is read to its end is the network's
pub read_text : (j : ℕ) (nodes : List Node) (net : Net) (text rest : List ℕ) → Reaches j (Comments []) text (Comments nodes) rest → (k : ℕ) × Reaches k (Comments nodes) rest (Body net.nodes [] net.arcs 0) [] → text ≡ dump_text net
read_text j nodes net text rest h g = whole_text (j + g.0) text net.nodes net.arcs (leads_on j g.0 (Comments []) (Comments nodes) (Body net.nodes [] net.arcs 0) text rest [] h g.1)

-- a network's text is read as it, except for lack of memory
pub only_refused : (text : List ℕ) (refusal : Refusal) → length text < 2 ^ 64 → WhyNot text refusal → (net : Net) → CanBeNet net → text ≡ dump_text net → refusal ≡ OutOfMemory
only_refused text OutOfMemory fits why net can e = refl
only_refused text (BadDimacs line) fits why net can e = absurd (not_broken net text line fits can e why)
only_refused text _ fits why net can e = absurd why

pub only_read : (text : List ℕ) (found : Net) → length text < 2 ^ 64 → CanBeNet found → text ≡ dump_text found → (net : Net) → CanBeNet net → text ≡ dump_text net → found ≡ net
only_read text found fits may is net can e = one_text found net may can (subst (λ t. length t < 2 ^ 64) is fits) (sym is ∙ e)
