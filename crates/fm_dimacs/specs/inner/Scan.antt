-- Reading a text from its front: what is there, and the bytes after it; none if no such thing is there.
use Rattle.std.specs.Prelude.{◌≡◌, ℕ, ◌+◌, ◌-◌, ◌*◌, ◌^◌, cond, nat_le, nat_lt, ◌==◌, List, [], ◌∷◌, Option, Some, None, Result, Ok, Err, length, take, drop, codes}
use Rattle.std.specs.Char.{is_ascii_digit}
use Rattle.std.specs.Str.{bytes_eq}
use Rattle.fm_records.specs.declared.ops.TheConstants.{MOST_BANDWIDTH}
use Rattle.fm_records.specs.declared.refusal.Refusal.{Refusal}
use Rattle.fm_records.specs.declared.refusal.Refusal.TheVariants.{OutOfMemory}
use Rattle.fm_records.specs.Ids.{read_id, id_text}
use Rattle.fm_net.specs.declared.node.Node.{Node}
use Rattle.fm_net.specs.declared.node.Node.TheVariants.{Sink, Unscheduled, Request, Machine, Task}
use Rattle.fm_net.specs.Nodes.{ends_cmp}
use Rattle.fm_net.specs.Net.{IsArc}
use Rattle.fm_dimacs.specs.Text.{id_in}
use Rattle.std.specs.declared.cmp.Ordering.TheVariants.{Less}

infixl 10 ◌>>=◌
abbrev pub ◌>>=◌ : {A B : Type 0} → Option A → (A → Option B) → Option B
None >>= f = None
(Some x) >>= f = f x

-- what f makes of the value, or else the other
abbrev pub choose : {A B : Type 0} → Option A → (A → B) → B → B
choose None f other = other
choose (Some x) f other = f x

-- what a function answered, seen by view, is what is read
abbrev pub Reads : {X Y : Type 0} → (X → Y) → Option X → Option Y → Type 0
Reads view None read = read ≡ None
Reads view (Some x) read = read ≡ Some (view x)

-- the same of a function that takes memory
abbrev pub ReadsWithin : {X Y : Type 0} → (X → Y) → Result (Option X) Refusal → Option Y → Type 0
ReadsWithin view (Ok found) read = Reads view found read
ReadsWithin view (Err refusal) read = refusal ≡ OutOfMemory

-- the text
abbrev pub past_text : List ℕ → List ℕ → Option (List ℕ)
past_text text bytes = cond (bytes_eq (take (length text) bytes) text) (Some (drop (length text) bytes)) None

-- the number that the digits go on to from n
abbrev pub digits_from : ℕ → List ℕ → ℕ × List ℕ
digits_from n [] = (n, [])
digits_from n (b ∷ bs) = cond (is_ascii_digit b) (digits_from (n * 10 + (b - 48)) bs) (n, b ∷ bs)

abbrev pub fitting : ℕ × List ℕ → Option (ℕ × List ℕ)
fitting x = cond (nat_lt x.0 (2 ^ 64)) (Some x) None

-- a number of 64 bits without leading zeros
unfoldable pub number_at : List ℕ → Option (ℕ × List ℕ)
number_at [] = None
number_at (b ∷ bs) = cond (b == 48) (Some (0, bs)) (cond (is_ascii_digit b) (fitting (digits_from (b - 48) bs)) None)

-- a UUID in lower case with hyphens
unfoldable pub id_at : List ℕ → Option (ℕ × List ℕ)
id_at bytes = do
  n ← read_id (take 36 bytes)
  cond (bytes_eq (id_text n) (take 36 bytes)) (Some (n, drop 36 bytes)) None

-- a request, and the line's end
unfoldable pub request_at : List ℕ → Option (Node × List ℕ)
request_at bytes = do
  n ← number_at bytes
  rest ← past_text (codes "\n") n.1
  cond (nat_le n.0 MOST_BANDWIDTH) (Some (Request n.0, rest)) None

-- a node's id, and the line's end
unfoldable pub named_at : (ℕ → Node) → List ℕ → Option (Node × List ℕ)
named_at node bytes = do
  n ← id_at bytes
  rest ← past_text (codes "\n") n.1
  Some (node n.0, rest)

-- a node's kind and name, and the line's end
unfoldable pub kind_at : List ℕ → Option (Node × List ℕ)
kind_at bytes =
    choose (past_text (codes " S\n") bytes) (λ rest. Some (Sink, rest))
    (choose (past_text (codes " U ") bytes) (named_at Unscheduled)
    (choose (past_text (codes " R ") bytes) request_at
    (choose (past_text (codes " M ") bytes) (named_at Machine)
    (choose (past_text (codes " T ") bytes) (named_at Task) None))))

-- the comment of the node with the ID
unfoldable pub node_at : ℕ → List ℕ → Option (Node × List ℕ)
node_at id bytes = do
  rest ← past_text (codes "c ") bytes
  n ← number_at rest
  cond (n.0 == id) (kind_at n.1) None

-- the problem line with the number of nodes: the number of arcs
unfoldable pub problem_at : ℕ → List ℕ → Option (ℕ × List ℕ)
problem_at nodes bytes = do
  rest ← past_text (codes "p min ") bytes
  n ← number_at rest
  rest ← past_text (codes " ") n.1
  arcs ← number_at rest
  rest ← past_text (codes "\n") arcs.1
  cond (n.0 == nodes) (Some (arcs.0, rest)) None

-- an arc's line: the IDs of its ends, the capacity and the cost
unfoldable pub numbers_at : List ℕ → Option ((ℕ × ℕ × ℕ × ℕ) × List ℕ)
numbers_at bytes = do
  rest ← past_text (codes "a ") bytes
  source ← number_at rest
  rest ← past_text (codes " ") source.1
  target ← number_at rest
  rest ← past_text (codes " 0 ") target.1
  capacity ← number_at rest
  rest ← past_text (codes " ") capacity.1
  cost ← number_at rest
  rest ← past_text (codes "\n") cost.1
  Some ((source.0, target.0, capacity.0, cost.0), rest)

-- an arc that a network of the nodes can have
abbrev pub IsArcAmong : List Node → (Node × Node) × (ℕ × ℕ) → Type 0
IsArcAmong nodes arc = IsArc (record { nodes = nodes; arcs = [] }) arc.0.0 arc.0.1 arc.1

-- the arc comes after the one with these ends, if there is one
abbrev pub IsAfter : Option (Node × Node) → (Node × Node) × (ℕ × ℕ) → Type 0
IsAfter None arc = Unit {0}
IsAfter (Some ends) arc = ends_cmp ends arc.0 ≡ Less

-- the IDs of an arc's ends, its capacity and its cost
abbrev pub ids_of : List Node → (Node × Node) × (ℕ × ℕ) → ℕ × ℕ × ℕ × ℕ
ids_of nodes arc = (id_in nodes arc.0.0, id_in nodes arc.0.1, arc.1.0, arc.1.1)
