use Rattle.std.proofs.Common.{◌≡◌, ◌∙◌, ◌+◌, ◌++◌, ◌∷◌, [], sym, ap, subst, take, drop, map, append_assoc, append-nil}
use Rattle.std.specs.Ordering.{nat_cmp}
use Rattle.std.proofs.lemmas.List.{take-append-drop, drop_more, drop_all}
use Rattle.fm_records.specs.Rising.{Rises}
use Rattle.fm_relief.specs.Relief.{tasks_on, preempted}
use Rattle.fm_relief.specs.inner.Excesses.{excess_at}
use Rattle.fm_relief.specs.inner.HeldLists.{held_on}
use Rattle.fm_relief.proofs.Fronts.{all_requests}
use Rattle.fm_relief.proofs.Held.{on_rises, sum_on}
use Rattle.fm_relief.proofs.Listing.{row_met, excess_held, overfull_by, relief_is}
use Rattle.fm_relief.proofs.relief.overfull_machines.Goals as goal

pub overfull_machine-requires-clause-by_id : goal.overfull_machine-requires-clause-by_id
overfull_machine-requires-clause-by_id c =
    let k = c.args.knowledge.now in
    let xs = c.pairs-pairs.result.now in
    let i = c.loop-machine.machine-index in
    let e = c.loop-machine-item.result in
    let rest : drop i xs ≡ e ∷ drop (i + 1) xs = drop_more xs i e c.loop-machine-test.true ∙ ap (λ z. z ∷ drop (i + 1) xs) (sym c.loop-machine-item.is) in
    let split = sym (c.pairs-pairs.ensures.pairs ∙ c.requires.machines) ∙ sym (take-append-drop i xs) ∙ ap (λ zs. take i xs ++ zs) rest in
    let found = row_met (excess_at k) k.machines (take i xs) (drop (i + 1) xs) e split in
    subst (λ hs. Rises nat_cmp (map (λ h. h.task) hs)) (sym (c.requires.held e.0 e.1 found)) (on_rises k e.0 c.known.ensures.table.tasks.rising)

pub overfull_machine-requires-clause-all : goal.overfull_machine-requires-clause-all
overfull_machine-requires-clause-all c =
    let k = c.args.knowledge.now in
    let xs = c.pairs-pairs.result.now in
    let i = c.loop-machine.machine-index in
    let e = c.loop-machine-item.result in
    let rest : drop i xs ≡ e ∷ drop (i + 1) xs = drop_more xs i e c.loop-machine-test.true ∙ ap (λ z. z ∷ drop (i + 1) xs) (sym c.loop-machine-item.is) in
    let split = sym (c.pairs-pairs.ensures.pairs ∙ c.requires.machines) ∙ sym (take-append-drop i xs) ∙ ap (λ zs. take i xs ++ zs) rest in
    let found = row_met (excess_at k) k.machines (take i xs) (drop (i + 1) xs) e split in
    excess_held k e.0 e.1 found ∙ sum_on k e.0 c.known.ensures.table.tasks.rising ∙ ap all_requests (sym (c.requires.held e.0 e.1 found))

pub loop-machine-preserved : goal.loop-machine-preserved
loop-machine-preserved c =
    let k = c.args.knowledge.now in
    let xs = c.pairs-pairs.result.now in
    let i = c.loop-machine.machine-index in
    let e = c.loop-machine-item.result in
    let rest : drop i xs ≡ e ∷ drop (i + 1) xs = drop_more xs i e c.loop-machine-test.true ∙ ap (λ z. z ∷ drop (i + 1) xs) (sym c.loop-machine-item.is) in
    let split = sym (c.pairs-pairs.ensures.pairs ∙ c.requires.machines) ∙ sym (take-append-drop i xs) ∙ ap (λ zs. take i xs ++ zs) rest in
    let found = row_met (excess_at k) k.machines (take i xs) (drop (i + 1) xs) e split in
    let held : held_on c.args.held.now e.0 ≡ tasks_on k e.0 = c.requires.held e.0 e.1 found in
    let made : c.in_ok-overfull_machine.field-0 ≡ overfull_by k e = c.in_ok-overfull_machine.ensures ∙ (λ j. record { machine = e.0; held = e.1.held; nic = e.1.nic; preempts = preempted (held j) e.1.nic }) in
    let later = map (overfull_by k) (drop (i + 1) xs) in
    ap (λ zs. zs ++ later) c.in_ok-push.ensures.items
    ∙ append_assoc c.loop-machine.found.items (c.in_ok-overfull_machine.field-0 ∷ []) later
    ∙ ap (λ r. c.loop-machine.found.items ++ r ∷ later) made
    ∙ ap (λ zs. c.loop-machine.found.items ++ map (overfull_by k) zs) (sym rest)
    ∙ c.loop-machine.invariant

pub returns : goal.returns
returns c =
    let k = c.args.knowledge.now in
    let xs = c.pairs-pairs.result.now in
    let i = c.loop-machine.machine-index in
    let past : drop i xs ≡ [] = drop_all i xs c.loop-machine-test.false in
    c.new.ensures
    ∙ sym (append-nil c.loop-machine.found.items)
    ∙ ap (λ zs. c.loop-machine.found.items ++ map (overfull_by k) zs) (sym past)
    ∙ c.loop-machine.invariant
    ∙ ap (map (overfull_by k)) (c.pairs-pairs.ensures.pairs ∙ c.requires.machines)
    ∙ relief_is k
