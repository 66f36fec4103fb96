use Rattle.std.proofs.Common.{refl, subst, inl, inr}
use Rattle.fm_records.specs.declared.refusal.Refusal.TheVariants as refusal
use Rattle.fm_io.specs.declared.lines.Line.{Line}
use Rattle.fm_io.specs.LineReads.{IsKeptLine}
use Rattle.fm_io.specs.Replies.{refusal_reply}
use Rattle.fm_io.proofs.follow.reply.Goals as goal

pub returns-in-TooLong-clause-taken : goal.returns-in-TooLong-clause-taken
returns-in-TooLong-clause-taken g c = λ whole h.
    let long = subst (λ (x : Line). IsKeptLine x whole c.args.line.now) c.in-TooLong.is h in
    (refusal_reply (refusal.BadScript 0), inl (inr (long, refl), refl), c.send_refused-in-TooLong.ensures.sent)

pub returns-in-OutOfMemory-clause-taken : goal.returns-in-OutOfMemory-clause-taken
returns-in-OutOfMemory-clause-taken g c = λ whole h.
    (refusal_reply refusal.OutOfMemory, inl (inl refl, refl), c.send_refused-in-OutOfMemory.ensures.sent)
