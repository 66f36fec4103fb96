-- What a world answers to a query, and why it does not (this project's profile).
use Rattle.std.specs.Prelude.{◌≡◌, ◌⊎◌, ℕ, List, length, Bool, false, is_some, None, IsSomeAnd, slice_get}
use Rattle.fm_records.specs.declared.refusal.Refusal.{Refusal}
use Rattle.fm_records.specs.declared.refusal.Refusal.TheVariants.{OutOfMemory, NoCoordinator, NoPacket}
use Rattle.fm_records.specs.Know.{table_of}
use Rattle.fm_wire.specs.Grammar.{packet_size}
use Rattle.fm_coord.specs.declared.entry.Range.TheVariants.{Full}
use Rattle.fm_coord.specs.Events.{Replica, packet_of}
use Rattle.fm_coord.specs.Replays.{seen_packet}
use Rattle.fm_world.specs.Represents.{Kept, WorldRepresents}
use Rattle.fm_world.specs.Worlds.{WorldOfSets, with_number}
use Rattle.fm_question.specs.declared.question.Question.{Question}
use Rattle.fm_question.specs.declared.question.Question.TheVariants.{Graph, Solve, Plan, Winners, Stops, End, Why, List as Listed, Next, Size, Over}
use Rattle.fm_query.specs.declared.query.Query.{Query}
use Rattle.fm_query.specs.declared.query.Query.TheVariants.{About, Agree, Packet, Version}
use Rattle.fm_query.specs.PlanText.{IsPlanText, stops_text}
use Rattle.fm_query.specs.ReasonsText.{IsReasonsText}
use Rattle.fm_query.specs.ListText.{list_text}
use Rattle.fm_query.specs.NextText.{IsNextText, HasNoNext}
use Rattle.fm_query.specs.OverText.{over_text}
use Rattle.fm_query.specs.SizeText.{size_text}
use Rattle.fm_query.specs.QueryTexts.{network_of, graph_of, winners_of, difference, agreement_text, end_text, version_text, packet_line, IsSolution}

-- this holds of each world of sets that the coordinators stand for
abbrev pub ForEachWorld : Kept → (WorldOfSets → Type 0) → Type 0
ForEachWorld kept Holds = (w : WorldOfSets) → WorldRepresents kept w → Holds w

-- how many bytes the replica's next packet has, if it is one of all that it received
abbrev pub full_size : Replica → ℕ
full_size r = packet_size (seen_packet (packet_of r Full))

-- the text answers a question to the replica, by what it received
abbrev pub AnswersTo : Question → Replica → List ℕ → Type 0
AnswersTo Graph r text = text ≡ graph_of r
AnswersTo Solve r text = IsSolution (network_of r) text
AnswersTo Plan r text = IsPlanText (table_of r.taken) text
AnswersTo Winners r text = text ≡ winners_of r
AnswersTo Stops r text = text ≡ stops_text (table_of r.taken) r.number
AnswersTo End r text = text ≡ end_text r.floor (length r.buffer)
AnswersTo (Why task) r text = IsReasonsText (table_of r.taken) task text
AnswersTo (Listed listing) r text = text ≡ list_text listing (table_of r.taken)
AnswersTo (Next subject) r text = IsNextText (table_of r.taken) subject text
AnswersTo Over r text = text ≡ over_text (table_of r.taken)
AnswersTo Size r text = text ≡ size_text (table_of r.taken) (length r.steps) r.limit r.floor (length r.buffer) (full_size r)

-- what is asked of is there, and the text answers the query
abbrev pub IsText : Query → WorldOfSets → List ℕ → Type 0
IsText (About n question) w text = IsSomeAnd (with_number w.replicas n) (λ r. AnswersTo question r text)
IsText Agree w text = text ≡ agreement_text (difference w.replicas)
IsText (Packet i) w text = IsSomeAnd (slice_get w.packets i) (λ p. text ≡ packet_line p)
IsText Version w text = text ≡ version_text

-- whether the query finds replicas that know different things
abbrev pub differs_in : Query → WorldOfSets → Bool
differs_in Agree w = is_some (difference w.replicas)
differs_in _ w = false

-- a question that the replica has no answer to, and the refusal says why: there is no greater version, or no later attempt
abbrev pub HasNoAnswer : Question → Replica → Refusal → Type 0
HasNoAnswer (Next subject) r refusal = HasNoNext (table_of r.taken) subject refusal
HasNoAnswer _ r refusal = ⊥

-- what is asked of is not there, and the refusal says so
abbrev pub Lacks : Query → WorldOfSets → Refusal → Type 0
Lacks (About n question) w refusal =
    ((with_number w.replicas n ≡ None) × (refusal ≡ NoCoordinator))
    ⊎ IsSomeAnd (with_number w.replicas n) (λ r. HasNoAnswer question r refusal)
Lacks Agree w refusal = ⊥
Lacks (Packet i) w refusal = (slice_get w.packets i ≡ None) × (refusal ≡ NoPacket)
Lacks Version w refusal = ⊥

-- why there is no answer: memory ran out, or what is asked of is not there
abbrev pub IsUnanswered : Query → WorldOfSets → Refusal → Type 0
IsUnanswered q w refusal = (refusal ≡ OutOfMemory) ⊎ Lacks q w refusal
