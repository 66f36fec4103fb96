-- The text of replies, as it is sent.
use Rattle.std.specs.Prelude.{ℕ, List, [], ◌++◌, Option, Some, None}
use Rattle.fm_io.specs.declared.replies.LineReply.{LineReply}
use Rattle.fm_io.specs.declared.replies.LineReply.TheVariants.{Accepted, Refused}
use Rattle.fm_io.specs.declared.held_replies.HeldReplies.{HeldReplies}
use Rattle.fm_io.specs.Replies.{accepted_reply, refusal_reply}

abbrev pub reply_text : LineReply → List ℕ
reply_text (Accepted text) = accepted_reply text.items
reply_text (Refused refusal) = refusal_reply refusal

-- of the reply that is held apart, if one is
abbrev pub apart_text : Option LineReply → List ℕ
apart_text None = []
apart_text (Some reply) = reply_text reply

-- of all that are held
abbrev pub replies_text : HeldReplies → List ℕ
replies_text held = held.bytes.items ++ apart_text held.apart
