-- The effect of the lines of a stream, by the sets of operations that coordinators took in (this project's profile).
use Rattle.std.specs.Prelude.{◌≡◌, ◌⊎◌, ℕ, ◌++◌, ◌∷◌, List, [], cond, length, nat_le, nat_lt, replicate, get_or, slice_set, Option, Some, None, unwrap_or, slice_get, IsTrue}
use Rattle.std.specs.List.{list_any}
use Rattle.serde_json.specs.Data.{Data}
use Rattle.serde_json.specs.Read.{read as read_text}
use Rattle.fm_records.specs.declared.ops.Op.{Op}
use Rattle.fm_records.specs.declared.refusal.Refusal.{Refusal}
use Rattle.fm_records.specs.declared.refusal.Refusal.TheVariants.{OutOfMemory, BadScript}
use Rattle.fm_records.specs.Know.{table_of}
use Rattle.fm_records.specs.Ranges.{CanBe}
use Rattle.fm_delta.specs.declared.packet.Packet.{Packet}
use Rattle.fm_delta.specs.Packets.{same_packet}
use Rattle.fm_coord.specs.declared.entry.Range.{Range}
use Rattle.fm_coord.specs.declared.entry.Range.TheVariants.{Interval, Full}
use Rattle.fm_coord.specs.Events.{Sent, Replica}
use Rattle.fm_world.specs.declared.step.Act.{Act as WorldAct}
use Rattle.fm_world.specs.declared.step.Act.TheVariants as world
use Rattle.fm_world.specs.Worlds.{WorldOfSets, with_number, cause_of, refusal_of, taken_in}
use Rattle.fm_world.specs.Represents.{Kept, WorldRepresents}
use Rattle.fm_script.specs.declared.script.ScriptAct.{ScriptAct}
use Rattle.fm_script.specs.declared.script.ScriptAct.TheVariants as act
use Rattle.fm_script.specs.Script.{is_named}
use Rattle.fm_script.specs.Requests.{RequestModel, Opens, Does, Cuts, News, OwnNews, Takes, Asks, Agrees, Versions, Renews, request_from, line_checked, AsksNothing, Requests, RequestsNothing}
use Rattle.fm_script.specs.StreamLines.{at_of}
use Rattle.fm_query.specs.declared.query.Query.TheVariants as query
use Rattle.fm_query.specs.Queries.{IsText, IsUnanswered}
use Rattle.fm_query.specs.Unpacked.{IsPacketIn, IsNoPacketIn}
use Rattle.fm_io.specs.Replies.{accepted_reply, refusal_reply}
use Rattle.fm_script.specs.Openings.{new_world}
use Rattle.fm_service.specs.WorldSteps.{step_at, StreamRoundStep}
use Rattle.fm_service.specs.WorldSteps as acting
use Rattle.fm_service.specs.Renewing.{renewed_world}
use Rattle.fm_service.specs.OwnNews.{own_news_since, own_mark_after}
use Rattle.fm_service.specs.VerdictText.{verdict_text}

-- the packets that were cut under a name, in the order of their cuts: their names, and their numbers among all packets
pub record Named : Type 0 where
  pub names : List (List ℕ)
  pub numbers : List ℕ

abbrev pub none_named : Named
none_named = record { names = []; numbers = [] }

-- with one packet more
abbrev pub named_also : Named → List ℕ → ℕ → Named
named_also p name number = record { names = p.names ++ name ∷ []; numbers = p.numbers ++ number ∷ [] }

-- where a stream is: the packets that have names; for each number of a coordinator how many of its deltas went out as
-- news, up to which delta its own went out, and up to which delta they are stored; and the world
pub record Following : Type 0 where
  pub named : Named
  pub marks : List ℕ
  pub own_marks : List ℕ
  pub stored_marks : List ℕ
  pub world : WorldOfSets

-- a world of which nothing went out, and nothing is stored
abbrev pub fresh : WorldOfSets → Following
fresh w = record { named = none_named; marks = replicate 256 0; own_marks = replicate 256 0; stored_marks = replicate 256 0; world = w }

-- the same, with another world
abbrev pub at_world : Following → WorldOfSets → Following
at_world k w = record { named = k.named; marks = k.marks; own_marks = k.own_marks; stored_marks = k.stored_marks; world = w }

-- the names that packets have; none before the line that lists the coordinators
abbrev pub cut_names_in : Option Following → List (List ℕ)
cut_names_in None = []
cut_names_in (Some k) = k.named.names

-- what may stand behind packets from elsewhere: for each, operations whose table is what it says. Equal packets (sender, number and
-- value) have the same: so, too, if a sender cut them for different operations, as it may once its numbers began again at a renewal
abbrev pub StandBehind : (Packet → List Op) → Type 0
StandBehind behind = (p : Packet) → CanBe p.value → table_of (behind p) ≡ p.value

-- the packet by the operations behind it
abbrev pub packet_by_ops : (Packet → List Op) → Packet → Sent
packet_by_ops behind p = record { sender = p.sender; number = p.number; set = behind p }

-- other operations behind one of the packets
abbrev pub but_behind : Packet → List Op → (Packet → List Op) → Packet → List Op
but_behind p S behind q = cond (same_packet q p) S (behind q)

-- the number of the packet whose name has the place; if none has, a number after those of all packets
abbrev pub packet_number_at : Following → ℕ → ℕ
packet_number_at k place = unwrap_or (slice_get k.named.numbers place) (length k.world.packets)

-- what a step as in a script asks a coordinator for; a round is refused as a view would be
abbrev pub asked_for : Following → ScriptAct → WorldAct
asked_for k (act.Tell op) = world.Tell op
asked_for k (act.Cut range) = world.Cut range
asked_for k (act.Deliver place) = world.Deliver (packet_number_at k place)
asked_for k (act.Trim n) = world.Trim n
asked_for k (act.Round kind) = world.View

-- what a step as in a script makes of the world, and its text
abbrev pub StreamActStep : Following → ℕ → ScriptAct → List ℕ → WorldOfSets → Type 0
StreamActStep k at (act.Cut range) text v = acting.Cuts k.world at range text v
StreamActStep k at (act.Round kind) text v = StreamRoundStep k.world at kind text v
StreamActStep k at a text v = (text ≡ []) × acting.WorldStep k.world (step_at at (asked_for k a)) v

-- the names after a cut
abbrev pub named_by : Following → Option (List ℕ) → Named
named_by k None = k.named
named_by k (Some name) = named_also k.named name (length k.world.packets)

-- what is news of a replica: its deltas from the mark on, or all that it took in if some of these were dropped
abbrev pub news_since : ℕ → Replica → Range
news_since mark r = cond (nat_lt mark r.floor) Full (Interval mark (length r.buffer))

abbrev pub mark_at : Following → ℕ → ℕ
mark_at k at = get_or k.marks at 0

-- the news of the coordinator with the number make j of k
pub record Tells (k : Following) (at : ℕ) (text : List ℕ) (j : Following) : Type 0 where
  pub replica : Replica
  pub there : with_number k.world.replicas at ≡ Some replica
  pub v : WorldOfSets
  pub cuts : acting.Cuts k.world at (news_since (mark_at k at) replica) text v
  pub is : j ≡ record { named = k.named; marks = slice_set k.marks at (length replica.buffer); own_marks = k.own_marks; stored_marks = k.stored_marks; world = v }

abbrev pub own_mark_at : Following → ℕ → ℕ
own_mark_at k at = get_or k.own_marks at 0

-- a range that is cut, and its text; without one there is neither
abbrev pub CutsMaybe : WorldOfSets → ℕ → Option Range → List ℕ → WorldOfSets → Type 0
CutsMaybe w at None text v = (text ≡ []) × (v ≡ w)
CutsMaybe w at (Some range) text v = acting.Cuts w at range text v

-- why that cut is refused
abbrev pub CutRefused : Following → ℕ → Option Range → Refusal → Type 0
CutRefused k at range e = (asked : Range) × (range ≡ Some asked) × (e ≡ refusal_of k.world (step_at at (world.Cut asked)))

-- the own news of the coordinator with the number make j of k
pub record TellsOwn (k : Following) (at : ℕ) (text : List ℕ) (j : Following) : Type 0 where
  pub replica : Replica
  pub there : with_number k.world.replicas at ≡ Some replica
  pub v : WorldOfSets
  pub cuts : CutsMaybe k.world at (own_news_since (own_mark_at k at) replica) text v
  pub is : j ≡ record { named = k.named; marks = k.marks; own_marks = slice_set k.own_marks at (own_mark_after (own_mark_at k at) replica); stored_marks = k.stored_marks; world = v }

-- a packet from elsewhere is taken in, and makes j of k
pub record ImportStep (behind : Packet → List Op) (k : Following) (at : ℕ) (digits : List ℕ) (j : Following) : Type 0 where
  pub packet : Packet
  pub spelled : IsPacketIn digits packet
  pub accepted : cause_of k.world (step_at at (world.Take packet)) ≡ None
  pub is : j ≡ at_world k (taken_in k.world at 0 (packet_by_ops behind packet))

-- what a request makes of a stream that has its coordinators, and its text
abbrev pub DoesAt : (Packet → List Op) → Following → RequestModel → List ℕ → Following → Type 0
DoesAt behind k (Opens listed) text j = ⊥
DoesAt behind k (Does step) text j = (v : WorldOfSets) × StreamActStep k step.at step.act text v × (j ≡ at_world k v)
DoesAt behind k (Cuts at range name) text j = (v : WorldOfSets) × acting.Cuts k.world at range text v × (j ≡ record { named = named_by k name; marks = k.marks; own_marks = k.own_marks; stored_marks = k.stored_marks; world = v })
DoesAt behind k (News at) text j = Tells k at text j
DoesAt behind k (OwnNews at) text j = TellsOwn k at text j
DoesAt behind k (Takes at digits) text j = (text ≡ []) × ImportStep behind k at digits j
DoesAt behind k (Asks at question) text j = IsText (query.About at question) k.world text × (j ≡ k)
DoesAt behind k Agrees text j = IsText query.Agree k.world text × (j ≡ k)
DoesAt behind k Versions text j = IsText query.Version k.world text × (j ≡ k)
DoesAt behind k Renews text j = (text ≡ []) × (j ≡ fresh (renewed_world k.world))

-- the same of any stream: the first request lists the coordinators
abbrev pub DoesIn : (Packet → List Op) → Option Following → RequestModel → List ℕ → Option Following → Type 0
DoesIn behind None (Opens listed) text new = (text ≡ []) × (new ≡ Some (fresh (new_world listed)))
DoesIn behind None asked text new = ⊥
DoesIn behind (Some k) asked text new = (j : Following) × DoesAt behind k asked text j × (new ≡ Some j)

-- the range of news of a replica, if there is one
abbrev pub news_of : ℕ → Option Replica → Range
news_of mark None = Full
news_of mark (Some r) = news_since mark r

-- the range of own news of a replica, if there is one, and if there are any; all if there is no replica
abbrev pub own_news_of : ℕ → Option Replica → Option Range
own_news_of mark None = Some Full
own_news_of mark (Some r) = own_news_since mark r

-- why a stream that has its coordinators refuses a request
abbrev pub RefusesAt : Following → RequestModel → Refusal → Type 0
RefusesAt k (Opens listed) e = e ≡ BadScript 0
RefusesAt k (Does step) e = e ≡ refusal_of k.world (step_at step.at (asked_for k step.act))
RefusesAt k (Cuts at range None) e = e ≡ refusal_of k.world (step_at at (world.Cut range))
RefusesAt k (Cuts at range (Some name)) e = (e ≡ refusal_of k.world (step_at at (world.Cut range))) ⊎ (IsTrue (is_named k.named.names name) × (e ≡ BadScript 0))
RefusesAt k (News at) e = e ≡ refusal_of k.world (step_at at (world.Cut (news_of (mark_at k at) (with_number k.world.replicas at))))
RefusesAt k (OwnNews at) e = CutRefused k at (own_news_of (own_mark_at k at) (with_number k.world.replicas at)) e
RefusesAt k (Takes at digits) e = IsNoPacketIn digits e ⊎ ((packet : Packet) × IsPacketIn digits packet × (e ≡ refusal_of k.world (step_at at (world.Take packet))))
RefusesAt k (Asks at question) e = IsUnanswered (query.About at question) k.world e
RefusesAt k Agrees e = IsUnanswered query.Agree k.world e
RefusesAt k Versions e = IsUnanswered query.Version k.world e
RefusesAt k Renews e = e ≡ OutOfMemory

-- the same of any stream: before the coordinators are listed there is no other request
abbrev pub RefusesIn : Option Following → RequestModel → Refusal → Type 0
RefusesIn None (Opens listed) e = e ≡ OutOfMemory
RefusesIn None asked e = e ≡ BadScript 0
RefusesIn (Some k) asked e = RefusesAt k asked e

-- some history has as many entries as that
abbrev pub is_due : ℕ → WorldOfSets → Type 0
is_due most w = IsTrue (list_any (λ r. nat_le most (length r.steps)) w.replicas)

-- between two lines: coordinators may be renewed once a history has as many entries as that. That they are then renewed is not
-- said, since there may be no memory for it
abbrev pub Settles : ℕ → Option Following → Option Following → Type 0
Settles most made new = (new ≡ made) ⊎ ((k : Following) × (made ≡ Some k) × is_due most k.world × (new ≡ Some (fresh (renewed_world k.world))))

-- why a line whose value is that may be refused: memory runs out, it asks for nothing, or for what is refused. A line that asks to check
-- another is refused only for want of memory
abbrev pub MayBeRefused : Option Following → Data → Refusal → Type 0
MayBeRefused old d e =
    (e ≡ OutOfMemory)
    ⊎ ((AsksNothing (cut_names_in old) d × (e ≡ BadScript 0))
    ⊎ ((asked : RequestModel) × (line_checked d ≡ None) × (request_from (cut_names_in old) d ≡ Some asked) × RefusesIn old asked e))

-- what is said beforehand of a line that may be refused so: that it is accepted, if it is refused at most because memory runs out; else
-- another refusal that it may get
abbrev pub IsVerdict : (Refusal → Type 0) → Option Refusal → Type 0
IsVerdict MayCome None = (e : Refusal) → MayCome e → e ≡ OutOfMemory
IsVerdict MayCome (Some e) = MayCome e × (e ≡ OutOfMemory → ⊥)

-- the text says what a line whose value is that would be answered
abbrev pub TellsVerdict : Option Following → Data → List ℕ → Type 0
TellsVerdict old d text = (verdict : Option Refusal) × IsVerdict (MayBeRefused old d) verdict × (text ≡ verdict_text (at_of d) verdict)

-- a line asks to check another: what that would be answered is told, and nothing changes
pub record IsLineChecked (old : Option Following) (line answer : List ℕ) (new : Option Following) : Type 0 where
  pub value : Data
  pub read : read_text line ≡ Some value
  pub inner : Data
  pub checks : line_checked value ≡ Some inner
  pub text : List ℕ
  pub tells : TellsVerdict old inner text
  pub is : answer ≡ accepted_reply text
  pub same : new ≡ old

-- a line is accepted: what it asks for is done, and its text told
pub record IsAccepted (most : ℕ) (behind : Packet → List Op) (old : Option Following) (line answer : List ℕ) (new : Option Following) : Type 0 where
  pub asked : RequestModel
  pub requests : Requests (cut_names_in old) line asked
  pub text : List ℕ
  pub made : Option Following
  pub does : DoesIn behind old asked text made
  pub settles : Settles most made new
  pub is : answer ≡ accepted_reply text

-- a line is refused: it asks for nothing, or for what is refused; nothing changes
pub record IsRefused (old : Option Following) (line answer : List ℕ) (new : Option Following) : Type 0 where
  pub refusal : Refusal
  pub cause : RequestsNothing (cut_names_in old) line refusal ⊎ ((asked : RequestModel) × Requests (cut_names_in old) line asked × RefusesIn old asked refusal)
  pub is : answer ≡ refusal_reply refusal
  pub same : new ≡ old

-- a line is answered so, and makes new of old
abbrev pub Answers : ℕ → (Packet → List Op) → Option Following → List ℕ → List ℕ → Option Following → Type 0
Answers most behind old line answer new = IsAccepted most behind old line answer new ⊎ (IsRefused old line answer new ⊎ IsLineChecked old line answer new)

-- the world, the names and the marks are those of the stream
pub record IsStreamState (world : Kept) (named : Named) (marks own_marks stored_marks : List ℕ) (k : Following) : Type 0 where
  pub stands : WorldRepresents world k.world
  pub named_is : named ≡ k.named
  pub marks_is : marks ≡ k.marks
  pub own_marks_is : own_marks ≡ k.own_marks
  pub stored_marks_is : stored_marks ≡ k.stored_marks
