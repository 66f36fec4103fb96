-- What calls are answered, and how histories keep it.
use Rattle.std.specs.Prelude.{length}
use Rattle.fm_net.specs.Network.{net_of}
use Rattle.fm_round.specs.Admission.{admission}
use Rattle.fm_coord.specs.declared.entry.Call.{Call}
use Rattle.fm_coord.specs.declared.entry.Call.TheVariants as call
use Rattle.fm_coord.specs.declared.entry.Reply.{Reply}
use Rattle.fm_coord.specs.declared.entry.Reply.TheVariants as reply
use Rattle.fm_coord.specs.declared.output.CallOutput.{CallOutput}
use Rattle.fm_coord.specs.declared.output.CallOutput.TheVariants as answer
use Rattle.fm_coord.specs.States.{State, cut_packet}

-- the reply of an answer: of a view the network is left out, which what was known determines
abbrev pub reply_to : CallOutput → Reply
reply_to answer.Done = reply.Nothing
reply_to (answer.Packet packet) = reply.Packet packet
reply_to (answer.View view) = reply.Seen view.at view.knowledge
reply_to (answer.Admitted admission) = reply.Admitted admission

-- what an accepted call is answered: a cut by its packet, a view by what there is to see, and a commit by what was
-- admitted
abbrev pub answer_to : State → Call → CallOutput
answer_to s (call.Tell op) = answer.Done
answer_to s (call.Merge packet) = answer.Done
answer_to s (call.Cut range) = answer.Packet (cut_packet s range)
answer_to s (call.Trim n) = answer.Done
answer_to s call.View = answer.View (record { at = length s.history; knowledge = s.knowledge; network = net_of s.knowledge })
answer_to s (call.Commit plan) = answer.Admitted (admission s.knowledge s.number plan)
