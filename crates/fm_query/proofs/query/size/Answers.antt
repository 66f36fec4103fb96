use Rattle.std.proofs.Common.{◌≡◌, ◌+◌, None, refl, inl, inr, sym, ap, ◌∙◌, length, vec_items}
use Rattle.std.proofs.lemmas.List.{length-map}
use Rattle.std.specs.Option.{IsSomeAnd}
use Rattle.fm_records.specs.Know.{table_of}
use Rattle.fm_coord.specs.States.{caller_and_call, step_asked}
use Rattle.fm_wire.specs.Grammar.{packet_size}
use Rattle.fm_query.specs.SizeText.{size_text}
use Rattle.fm_query.specs.Queries.{full_size}
use Rattle.fm_query.proofs.Asking.{of_none, of_represented}
use Rattle.fm_query.proofs.query.size.Goals as goal

pub returns-in-None-clause-err : goal.returns-in-None-clause-err
returns-in-None-clause-err g c = λ w h. inr (inl (of_none c.args.world.now w c.args.at h (λ o. o ≡ None) c.in-None.ensures refl, refl))

pub returns-in_ok-size_text-in-Some-clause-ok : goal.returns-in_ok-size_text-in-Some-clause-ok
returns-in_ok-size_text-in-Some-clause-ok g c = λ w h.
    of_represented c.args.world.now w c.args.at h (λ o. IsSomeAnd o (λ r. c.into_bytes.result.items ≡ size_text (table_of r.taken) (length r.steps) r.limit r.floor (length r.buffer) (full_size r))) _ c.in-Some.ensures
    (λ r stands.
    let entries = sym (length-map c.in-Some.coordinator.now.state.history caller_and_call) ∙ ap length stands.history ∙ length-map r.steps step_asked in
    ap vec_items c.into_bytes.ensures.value ∙ c.in_ok-size_text-in-Some.ensures.ok
    ∙ (λ i. size_text (stands.knowledge i) (entries i) (stands.limit i) (stands.floor i) (stands.end i) (packet_size (record { sender = stands.number i; number = stands.cuts i + 1; value = stands.knowledge i }))))
