-- Which line is allowed where in the text of a network, and the first line of a text that may not. The rules are those
-- of this project's profile of the DIMACS format.
use Rattle.std.specs.Prelude.{◌≡◌, ℕ, zero, suc, ◌+◌, ◌<◌, ◌^◌, ◌⊎◌, List, [], ◌∷◌, ◌++◌, length, count_by}
use Rattle.std.specs.Ordering.{on}
use Rattle.std.specs.declared.cmp.Ordering.{Ordering}
use Rattle.std.specs.declared.cmp.Ordering.TheVariants.{Less}
use Rattle.fm_records.specs.declared.refusal.Refusal.{Refusal}
use Rattle.fm_records.specs.declared.refusal.Refusal.TheVariants.{OutOfMemory, BadDimacs}
use Rattle.fm_net.specs.declared.node.Node.{Node}
use Rattle.fm_net.specs.declared.node.Node.TheVariants.{Sink}
use Rattle.fm_net.specs.Nodes.{node_cmp, ends_cmp, IsInRange}
use Rattle.fm_net.specs.Net.{IsArc}
use Rattle.fm_dimacs.specs.Text.{node_line, problem_line, is_task_node, demand_line, supply_line, arc_line}

-- x comes after the last of the list, if that has one
abbrev pub IsAfterLast : {X : Type 0} → (X → X → Ordering) → List X → X → Type 0
IsAfterLast cmp [] x = Unit {0}
IsAfterLast cmp (y ∷ []) x = cmp y x ≡ Less
IsAfterLast cmp (y ∷ z ∷ ys) x = IsAfterLast cmp (z ∷ ys) x

-- the node may come behind these: the sink is first, and the others are in order
abbrev pub IsNextNode : List Node → Node → Type 0
IsNextNode [] node = node ≡ Sink
IsNextNode (n ∷ ns) node = IsAfterLast node_cmp (n ∷ ns) node × IsInRange node

-- the arc may come behind these: one that a network of the nodes can have, in order
abbrev pub IsNextArc : List Node → List ((Node × Node) × (ℕ × ℕ)) → (Node × Node) × (ℕ × ℕ) → Type 0
IsNextArc nodes arcs arc = IsArc (record { nodes = nodes; arcs = arcs }) arc.0.0 arc.0.1 arc.1 × IsAfterLast (on (λ a. a.0) ends_cmp) arcs arc

-- the line, unless it is empty, and the others
abbrev pub with_line : List ℕ → List (List ℕ) → List (List ℕ)
with_line [] lines = lines
with_line (b ∷ bs) lines = (b ∷ bs) ∷ lines

-- the lines of the supplies, with IDs from this one on
abbrev pub supplies_from : ℕ → List Node → List (List ℕ)
supplies_from id [] = []
supplies_from id (n ∷ ns) = with_line (supply_line id n) (supplies_from (id + 1) ns)

-- the lines of the demand and the supplies
abbrev pub unit_lines : List Node → List (List ℕ)
unit_lines nodes = with_line (demand_line (count_by is_task_node nodes)) (supplies_from 1 nodes)

-- a place in a text: behind the comments of these nodes; or behind the problem line, where these lines of demand and
-- supplies are to come, these arcs came, and so many are to come
pub data LineState : Type 0 where
  Comments : (nodes : List Node) → LineState
  Body : (nodes : List Node) (units : List (List ℕ)) (arcs : List ((Node × Node) × (ℕ × ℕ))) (left : ℕ) → LineState

-- the line is allowed at the place, and leads to the next one
abbrev pub Allows : LineState → List ℕ → LineState → Type 0
-- the next node's comment; or, behind a comment, the problem line with the number of comments, and a number of arcs
Allows (Comments nodes) line next =
    ((node : Node) × IsNextNode nodes node × (line ≡ node_line (length nodes + 1) node) × (next ≡ Comments (nodes ++ (node ∷ []))))
    ⊎ ((arcs : ℕ) × (0 < length nodes) × (arcs < 2 ^ 64) × (line ≡ problem_line (length nodes) arcs) × (next ≡ Body nodes (unit_lines nodes) [] arcs))
-- the demand and the supplies are exactly these
Allows (Body nodes (unit ∷ units) arcs left) line next = (line ≡ unit) × (next ≡ Body nodes units arcs left)
-- the next arc's line, as long as arcs are to come
Allows (Body nodes [] arcs (suc left)) line next =
    (arc : (Node × Node) × (ℕ × ℕ)) × IsNextArc nodes arcs arc × (line ≡ arc_line nodes arc) × (next ≡ Body nodes [] (arcs ++ (arc ∷ [])) left)
-- then nothing
Allows (Body nodes [] arcs zero) line next = ⊥

-- from one place in the text to another by so many lines, each of which is allowed at its place
abbrev pub Reaches : ℕ → LineState → List ℕ → LineState → List ℕ → Type 0
Reaches zero from text to rest = (from ≡ to) × (text ≡ rest)
Reaches (suc n) from text to rest = (line : List ℕ) × (next : LineState) × (behind : List ℕ) × (text ≡ line ++ behind) × Allows from line next × Reaches n next behind to rest

-- nothing is to come, and nothing comes
abbrev pub MayEnd : LineState → List ℕ → Type 0
MayEnd (Body nodes [] arcs zero) [] = Unit {0}
MayEnd _ _ = ⊥

-- the text does not go on as it may at the place, by a line or by its end
pub record IsMalformedAt (place : LineState) (text : List ℕ) : Type 0 where
  pub no_line : (line behind : List ℕ) (next : LineState) → text ≡ line ++ behind → Allows place line next → ⊥
  pub no_end : MayEnd place text → ⊥

-- the first line that breaks a rule, behind so many lines that break none: it is not allowed there, or is missing
pub record BreaksAfter (lines : ℕ) (start : LineState) (text : List ℕ) (line : ℕ) : Type 0 where
  pub good : ℕ
  pub place : LineState
  pub rest : List ℕ
  pub number : line ≡ lines + good + 1
  pub before : Reaches good start text place rest
  pub stuck : IsMalformedAt place rest

-- the number of the text's first line that breaks a rule, counted from 1
abbrev pub BreaksAt : List ℕ → ℕ → Type 0
BreaksAt = BreaksAfter 0 (Comments [])

-- why a text was not read: there was no memory, or the line is the first that breaks a rule
abbrev pub IsFault : ℕ → LineState → List ℕ → Refusal → Type 0
IsFault lines start text OutOfMemory = Unit {0}
IsFault lines start text (BadDimacs line) = BreaksAfter lines start text line
IsFault lines start text _ = ⊥

-- why a text was not read, from its start
abbrev pub WhyNot : List ℕ → Refusal → Type 0
WhyNot = IsFault 0 (Comments [])
