-- What contracts see of what the threads of a fleet are given, and of what they leave (this project's profile).
use Rattle.std.specs.Prelude.{◌≡◌, ℕ, ◌+◌, ◌<◌, List, [], ◌∷◌, map, Option, None}
use Rattle.fm_gossip.specs.declared.early.Early.{Early}
use Rattle.fm_gossip.specs.inner.EarlyEnds.{named_end}
use Rattle.fm_inbox.specs.Ports.{InboxModel, PortPoolModel, PortModel}
use Rattle.fm_coord.specs.States.{State}
use Rattle.fm_gossip.specs.Served.{Task, member_task, IsServed}
use Rattle.fm_gossip.specs.Members.{MemberModel, but_for, task_of}
use Rattle.fm_gossip.specs.Passing.{passed_at}
use Rattle.fm_gossip.specs.inner.Used.{new_port, used_ports}

-- what a member is to do, at which place it is, and its ports, by the places of their inboxes
pub record WorkModel : Type 0 where
  pub task : Task
  pub place : ℕ
  pub ports : List PortModel

abbrev pub work : Task → ℕ → List PortModel → WorkModel
work task place ports = record { task = task; place = place; ports = ports }

-- what the member at the place is given, with a new port of each of these inboxes
abbrev pub work_of : List ℕ → ℕ → List InboxModel → ℕ → MemberModel → WorkModel
work_of numbers rounds bs place m = work (task_of numbers rounds m) place (map new_port bs)

-- what each of these members is given; the first is at the place
abbrev pub works_of : List ℕ → ℕ → List InboxModel → ℕ → List MemberModel → List WorkModel
works_of numbers rounds bs place [] = []
works_of numbers rounds bs place (m ∷ ms) = work_of numbers rounds bs place m ∷ works_of numbers rounds bs (place + 1) ms

-- what a member is given beside its coordinator: from which others a packet comes, at which place it is, and its ports
pub record LinksModel : Type 0 where
  pub senders : List ℕ
  pub place : ℕ
  pub ports : List PortModel

abbrev pub links : List ℕ → ℕ → List PortModel → LinksModel
links senders place ports = record { senders = senders; place = place; ports = ports }

-- that of each of these members; the first is at the place
abbrev pub links_of : List ℕ → List InboxModel → ℕ → List MemberModel → List LinksModel
links_of numbers bs place [] = []
links_of numbers bs place (m ∷ ms) = links (but_for m.number numbers) place (map new_port bs) ∷ links_of numbers bs (place + 1) ms

-- each of these inboxes has so many ports, and so many of its ports are out
abbrev pub HaveOut : ℕ → ℕ → List PortPoolModel → Type 0
HaveOut ports out [] = Unit {0}
HaveOut ports out (b ∷ bs) = (b.inbox.ports ≡ ports) × (b.out ≡ out) × HaveOut ports out bs

-- each of these inboxes has a port that is not out
abbrev pub HavePorts : List PortPoolModel → Type 0
HavePorts [] = Unit {0}
HavePorts (b ∷ bs) = (b.out < b.inbox.ports) × HavePorts bs

-- what a member and its links come to, and those of each
abbrev pub linked_work : ℕ → MemberModel → LinksModel → WorkModel
linked_work rounds m l = work (member_task m.number m.limit m.tells l.senders rounds) l.place l.ports

abbrev pub linked_works : ℕ → List MemberModel → List LinksModel → List WorkModel
linked_works rounds [] ls = []
linked_works rounds (m ∷ ms) [] = []
linked_works rounds (m ∷ ms) (l ∷ ls) = linked_work rounds m l ∷ linked_works rounds ms ls

-- what a member leaves: its coordinator and its ports, and why it ended early, if it did
pub record MemberEndModel : Type 0 where
  pub state : State
  pub ports : List PortModel
  pub early : Option Early

abbrev pub done_work : State → List PortModel → Option Early → MemberEndModel
done_work state ports early = record { state = state; ports = ports; early = early }

-- a member did what it was to do, and used its new ports for what it sent and got
pub record IsDone (w : WorkModel) (d : MemberEndModel) : Type 0 where
  pub served : IsServed w.task d.state
  pub used : (bs : List InboxModel) → w.ports ≡ map new_port bs → d.ports ≡ used_ports w.place 0 (passed_at d.state) bs

-- it did, unless it ended early
abbrev pub IsDoneUnless : WorkModel → MemberEndModel → Type 0
IsDoneUnless w d = d.early ≡ None → IsDone w d

-- each member did, unless it ended early
abbrev pub AreDoneUnless : List WorkModel → List MemberEndModel → Type 0
AreDoneUnless [] [] = Unit {0}
AreDoneUnless (w ∷ ws) (d ∷ ds) = IsDoneUnless w d × AreDoneUnless ws ds
AreDoneUnless [] (d ∷ ds) = ⊥
AreDoneUnless (w ∷ ws) [] = ⊥

-- none of these ended early
abbrev pub NoneEarly : List MemberEndModel → Type 0
NoneEarly [] = Unit {0}
NoneEarly (d ∷ ds) = (d.early ≡ None) × NoneEarly ds

-- each member did
abbrev pub AreDone : List WorkModel → List MemberEndModel → Type 0
AreDone [] [] = Unit {0}
AreDone (w ∷ ws) (d ∷ ds) = IsDone w d × AreDone ws ds
AreDone [] (d ∷ ds) = ⊥
AreDone (w ∷ ws) [] = ⊥

-- which end of these members is named
abbrev pub named_of : List MemberEndModel → Option Early
named_of [] = None
named_of (d ∷ ds) = named_end d.early (named_of ds)
