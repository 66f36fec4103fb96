use Rattle.std.proofs.Common.{◌≡◌, ◌∙◌, ◌∷◌, ◌+◌, drop, sym, ap, subst, rules}
use Rattle.std.proofs.lemmas.List.{drop_more, drop_all}
use Rattle.std.specs.List.{filter_map, cons_option}
use Rattle.fm_policy.specs.inner.Inputs.{waiting_request}
use Rattle.fm_policy.proofs.Named.{AllNamed, named_more, named_all}
use Rattle.fm_policy.proofs.inputs.waiting_requests.Goals as goal
use Rattle.fm_policy.proofs.inputs.waiting_requests.Goals.{in-Some+in_ok-insert, in_default}

pub loop-entry-preserved : goal.loop-entry-preserved
loop-entry-preserved c =
    let tasks = c.args.tasks.now in
    let i = c.loop-entry.entry-index in
    let item = c.entry-item.result in
    let all = filter_map waiting_request tasks in
    let keys = c.loop-entry.requests.keys in
    let rest = filter_map waiting_request (drop (i + 1) tasks) in
    let left : drop i tasks ≡ item ∷ drop (i + 1) tasks = drop_more tasks i item c.loop-entry-test.true ∙ ap (λ x. x ∷ drop (i + 1) tasks) (sym c.entry-item.is) in
    let before : AllNamed all keys (cons_option (waiting_request item) rest) = subst (λ xs. AllNamed all keys (filter_map waiting_request xs)) left c.loop-entry.invariant in
    elim c.match-waits_for.branch [
      | in-Some+in_ok-insert w ↦ subst (λ s. AllNamed all s.keys rest) (sym w.requests-is) (named_more all keys w.insert.new.self.keys rest w.in-Some.request (subst (λ o. AllNamed all keys (cons_option o rest)) (sym w.in-Some.ensures) before) w.in_ok-insert.ensures.updates.0)
      | in_default w ↦ subst (λ s. AllNamed all s.keys rest) (sym w.requests-is) (subst (λ o. AllNamed all keys (cons_option o rest)) (sym w.in_default.ensures) before)
    ]

pub returns : goal.returns
returns c =
    let all = filter_map waiting_request c.args.tasks.now in
    let items : c.in_ok-collect.field-0.items ≡ c.loop-entry.requests.keys = search rules in
    items ∙ named_all all c.loop-entry.requests.keys
    (subst (λ xs. AllNamed all c.loop-entry.requests.keys (filter_map waiting_request xs)) (drop_all c.loop-entry.entry-index c.args.tasks.now (search rules)) c.loop-entry.invariant)
    c.iter.ensures.ordered
