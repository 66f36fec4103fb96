use Rattle.std.proofs.Common.{map, length, ap, sym, subst, inr, ◌∙◌, arith}
use Rattle.std.proofs.lemmas.List.{length-map}
use Rattle.fm_gossip.specs.Served.{AreServed}
use Rattle.fm_gossip.specs.Members.{member_number, member_tasks}
use Rattle.fm_gossip.specs.Passing.{passed_at, ArePassedOn}
use Rattle.fm_gossip.specs.inner.Used.{AreUsed}
use Rattle.fm_gossip.specs.inner.Works.{HaveOut, NoneEarly}
use Rattle.fm_gossip.proofs.Columns.{written}
use Rattle.fm_gossip.proofs.Working.{all_used, all_served, as_many, length-links_of, linked_for}
use Rattle.fm_gossip.proofs.member_threads.run_fleet.Goals as goal

pub works-works-requires-clause-count : goal.works-works-requires-clause-count
works-works-requires-clause-count g c =
    let bs = map (λ b. b.inbox) c.in-Ok.prepared.1.items in
    let long = ap length c.in-Ok.ensures.links ∙ length-links_of (map member_number c.deref.result.now) bs 0 c.deref.result.now ∙ ap length c.deref.ensures.value in
    omega (arith, long, c.args.members.ok, c.in-Ok.prepared.0.ok)

pub closed-closed-requires-clause-used : goal.closed-closed-requires-clause-used
closed-closed-requires-clause-used g c =
    let bs = map (λ b. b.inbox) c.in-Ok.prepared.1.items in
    let ms = c.args.members.items in
    let linked = linked_for bs _ ms c.in-Ok.prepared.0.items c.deref.ensures.value c.in-Ok.ensures.links in
    subst (λ ds. NoneEarly ds → AreUsed 0 bs (map passed_at (map (λ d. d.state) ds)) (map (λ d. d.ports) ds)) (sym c.deref_mut.ensures.value)
    (all_used (map member_number ms) c.args.rounds bs ms c.in-Ok.prepared.0.items c.works-works.result.items c.at_once-dones.result.items linked c.works-works.ensures.works c.at_once-dones.ensures)

pub closed-closed-requires-clause-count : goal.closed-closed-requires-clause-count
closed-closed-requires-clause-count g c =
    let bs = map (λ b. b.inbox) c.in-Ok.prepared.1.items in
    let ms = c.args.members.items in
    let linked = linked_for bs _ ms c.in-Ok.prepared.0.items c.deref.ensures.value c.in-Ok.ensures.links in
    c.in-Ok.ensures.inboxes ∙ ap length c.deref.ensures.value
    ∙ sym (as_many (map member_number ms) c.args.rounds bs ms c.in-Ok.prepared.0.items c.works-works.result.items c.at_once-dones.result.items linked c.works-works.ensures.works c.at_once-dones.ensures)
    ∙ ap length (sym c.deref_mut.ensures.value)

pub closed-closed-requires-clause-out : goal.closed-closed-requires-clause-out
closed-closed-requires-clause-out g c =
    let bs = map (λ b. b.inbox) c.in-Ok.prepared.1.items in
    let ms = c.args.members.items in
    let linked = linked_for bs _ ms c.in-Ok.prepared.0.items c.deref.ensures.value c.in-Ok.ensures.links in
    let many = ap length c.deref.ensures.value
    ∙ sym (as_many (map member_number ms) c.args.rounds bs ms c.in-Ok.prepared.0.items c.works-works.result.items c.at_once-dones.result.items linked c.works-works.ensures.works c.at_once-dones.ensures)
    ∙ ap length (sym c.deref_mut.ensures.value) in
    subst (λ n. HaveOut n n c.in-Ok.prepared.1.items) many c.in-Ok.ensures.out

pub coordinators_of-coordinators-requires-clause-room : goal.coordinators_of-coordinators-requires-clause-room
coordinators_of-coordinators-requires-clause-room g c =
    let bs = map (λ b. b.inbox) c.in-Ok.prepared.1.items in
    let ms = c.args.members.items in
    let linked = linked_for bs _ ms c.in-Ok.prepared.0.items c.deref.ensures.value c.in-Ok.ensures.links in
    let many = as_many (map member_number ms) c.args.rounds bs ms c.in-Ok.prepared.0.items c.works-works.result.items c.at_once-dones.result.items linked c.works-works.ensures.works c.at_once-dones.ensures in
    omega (arith, many, c.in-Ok.ensures.coordinators.1, ap length c.deref.ensures.value, c.at_once-dones.result.ok, c.deref_mut.ensures.len)

pub returns-in-Ok-closed-clause-ok : goal.returns-in-Ok-closed-clause-ok
returns-in-Ok-closed-clause-ok g c =
    let bs = map (λ b. b.inbox) c.in-Ok.prepared.1.items in
    let ms = c.args.members.items in
    let ds = c.at_once-dones.result in
    let linked = linked_for bs _ ms c.in-Ok.prepared.0.items c.deref.ensures.value c.in-Ok.ensures.links in
    let kept = written ds.len c.closed-closed.new.dones ds.items (omega (arith, c.closed-closed.auto.dones, c.deref_mut.ensures.len, ds.ok)) (omega (arith, ds.ok)) in
    let same = c.coordinators_of-coordinators.ensures ∙ ap (map (λ d. d.state)) kept ∙ c.closed-closed.ensures.same ∙ ap (map (λ d. d.state)) c.deref_mut.ensures.value in
    let none = subst NoneEarly c.deref_mut.ensures.value c.in-Ok-closed.ensures.none in
    subst (AreServed (member_tasks c.args.rounds ms)) (sym same)
    (all_served (map member_number ms) c.args.rounds bs ms c.in-Ok.prepared.0.items c.works-works.result.items ds.items linked c.works-works.ensures.works c.at_once-dones.ensures none)

pub returns-in-Ok-closed-clause-passed : goal.returns-in-Ok-closed-clause-passed
returns-in-Ok-closed-clause-passed g c =
    let ds = c.at_once-dones.result in
    let kept = written ds.len c.closed-closed.new.dones ds.items (omega (arith, c.closed-closed.auto.dones, c.deref_mut.ensures.len, ds.ok)) (omega (arith, ds.ok)) in
    let same = c.coordinators_of-coordinators.ensures ∙ ap (map (λ d. d.state)) kept ∙ c.closed-closed.ensures.same in
    subst (λ ss. ArePassedOn (map passed_at ss)) (sym same) c.in-Ok-closed.ensures.passed

pub returns-clause-back : goal.returns-clause-back
returns-clause-back g c =
    let bs = map (λ b. b.inbox) c.in-Ok.prepared.1.items in
    let ms = c.args.members.items in
    let ds = c.at_once-dones.result in
    let linked = linked_for bs _ ms c.in-Ok.prepared.0.items c.deref.ensures.value c.in-Ok.ensures.links in
    let kept = written ds.len c.closed-closed.new.dones ds.items (omega (arith, c.closed-closed.auto.dones, c.deref_mut.ensures.len, ds.ok)) (omega (arith, ds.ok)) in
    let same = c.coordinators_of-coordinators.ensures ∙ ap (map (λ d. d.state)) kept ∙ c.closed-closed.ensures.same ∙ ap (map (λ d. d.state)) c.deref_mut.ensures.value in
    let cs = c.coordinators_of-coordinators.result.items in
    inr (c.new-in-Err-closed.ensures.items, sym (length-map cs (λ z. z.state)) ∙ ap length same ∙ length-map ds.items (λ d. d.state) ∙ as_many (map member_number ms) c.args.rounds bs ms c.in-Ok.prepared.0.items c.works-works.result.items ds.items linked c.works-works.ensures.works c.at_once-dones.ensures)
