-- Steps towards the network of a table: nothing is put that is not the table's, and nothing is taken away.
use Rattle.std.specs.Prelude.{◌≡◌, ℕ, Option, Some, None, IsTrue, IsSome}
use Rattle.fm_records.specs.declared.records.SpecReg.{SpecReg}
use Rattle.fm_records.specs.Table.{Table}
use Rattle.fm_records.specs.Facts.{is_open, live_spec, holder_of}
use Rattle.fm_net.specs.declared.node.Node.{Node}
use Rattle.fm_net.specs.declared.node.Node.TheVariants.{Sink, Unscheduled, Request, Machine, Task}
use Rattle.fm_net.specs.Net.{Net, has_node, arc_at}
use Rattle.fm_net.specs.Network.{is_node, arc_of}

abbrev pub Stands : Net → Node → Type 0
Stands net n = IsTrue (has_node net n)

abbrev pub HasArcTo : Net → Node → Node → Type 0
HasArcTo net a b = IsSome (arc_at net a b)

-- each node and each arc of the network is one of the table
pub record IsPart (k : Table) (net : Net) : Type 0 where
  pub nodes : (n : Node) → Stands net n → IsTrue (is_node k n)
  pub arcs : (a b : Node) → HasArcTo net a b → arc_at net a b ≡ arc_of k a b

-- what was there stays
pub record Grows (old new : Net) : Type 0 where
  pub nodes : (n : Node) → Stands old n → Stands new n
  pub arcs : (a b : Node) → HasArcTo old a b → HasArcTo new a b

-- the new network has more of the table's network
pub record Adds (k : Table) (old new : Net) : Type 0 where
  pub part : IsPart k old → IsPart k new
  pub grows : Grows old new

-- the node is there if it is one of the table's, and so are all
abbrev pub HasNode : Table → Node → Net → Type 0
HasNode k n net = IsTrue (is_node k n) → Stands net n

abbrev pub HasNodes : Table → Net → Type 0
HasNodes k net = (n : Node) → HasNode k n net

-- the arcs that jobs, requests, open machines and live tasks have in the table's network

abbrev pub CoversJob : Table → ℕ → Net → Type 0
CoversJob k j net = IsTrue (is_node k (Unscheduled j)) → HasArcTo net (Unscheduled j) Sink

abbrev pub CoversPlace : Table → ℕ → ℕ → Net → Type 0
CoversPlace k r m net = IsSome (arc_of k (Request r) (Machine m)) → HasArcTo net (Request r) (Machine m)

abbrev pub CoversMachine : Table → ℕ → Net → Type 0
CoversMachine k m net = IsTrue (is_open k m) → HasArcTo net (Machine m) Sink

abbrev pub Covers : Table → Node → Node → Net → Type 0
Covers k a b net = IsSome (arc_of k a b) → HasArcTo net a b

abbrev pub CoversPreferred : Table → ℕ → ℕ → Net → Type 0
CoversPreferred k t m net = IsSome (arc_of k (Task t) (Machine m)) → HasArcTo net (Task t) (Machine m)

pub record HasWaiting (k : Table) (t r : ℕ) (net : Net) : Type 0 where
  pub waits : HasArcTo net (Task t) (Request r)
  pub preferred : (m : ℕ) → CoversPreferred k t m net

abbrev pub HasHolder : Table → ℕ → ℕ → Option ℕ → Net → Type 0
HasHolder k t r None net = HasWaiting k t r net
HasHolder k t r (Some m) net = HasArcTo net (Task t) (Machine m)

pub record HasTask (k : Table) (t : ℕ) (spec : SpecReg) (net : Net) : Type 0 where
  pub unscheduled : HasArcTo net (Task t) (Unscheduled spec.job)
  pub holder : HasHolder k t spec.request (holder_of k t) net

abbrev pub CoversTask : Table → ℕ → Net → Type 0
CoversTask k t net = (spec : SpecReg) → live_spec k t ≡ Some spec → HasTask k t spec net
