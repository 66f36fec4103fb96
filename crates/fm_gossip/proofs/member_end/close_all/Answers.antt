use Rattle.std.proofs.Common.{◌≡◌, ◌∷◌, [], map, length, refl, ap, sym, ◌∙◌, arith}
use Rattle.std.proofs.lemmas.List.{map-append, length-map}
use Rattle.fm_gossip.specs.Passing.{passed_at}
use Rattle.fm_gossip.proofs.Columns.{taken_now, its_ports, length-column, none_closed, closed_next}
use Rattle.fm_gossip.proofs.Working.{last_out}
use Rattle.fm_gossip.proofs.member_end.close_all.Goals as goal

pub close_one-requires-clause-ports : goal.close_one-requires-clause-ports
close_one-requires-clause-ports g c =
    let whole = ap (map (λ b. b.inbox)) c.in-Some.ensures.items ∙ map-append (λ b. b.inbox) c.pop.new.self.items (c.in-Some.inbox ∷ []) in
    let taken = taken_now _ _ c.in-Some.inbox.inbox _ _ _ _ _ _ _ whole (ap (map passed_at) c.loop-inbox.invariant.0) refl (ap (map (λ e. e.port)) c.new-out.ensures.items) c.loop-inbox.invariant.1 c.in_ok-take_last.ensures.taken in
    its_ports (λ d. d.port) c.take_last.new.out.items _ _ _ taken.1

pub close_one-requires-clause-all : goal.close_one-requires-clause-all
close_one-requires-clause-all g c =
    let whole = ap (map (λ b. b.inbox)) c.in-Some.ensures.items ∙ map-append (λ b. b.inbox) c.pop.new.self.items (c.in-Some.inbox ∷ []) in
    let taken = taken_now _ _ c.in-Some.inbox.inbox _ _ _ _ _ _ _ whole (ap (map passed_at) c.loop-inbox.invariant.0) refl (ap (map (λ e. e.port)) c.new-out.ensures.items) c.loop-inbox.invariant.1 c.in_ok-take_last.ensures.taken in
    let out = c.take_last.new.out in
    let ports = length-map out.items (λ d. d.port) in
    let column = ap length taken.1 ∙ length-column _ 0 c.in-Some.inbox.inbox _ in
    let states = length-map (map (λ d. d.state) c.args.dones.now) passed_at ∙ length-map c.args.dones.now (λ d. d.state) in
    let all = (last_out _ _ _ _ c.in-Some.inbox c.in-Some.ensures.items c.loop-inbox.invariant.2).1 in
    omega (arith, ports, column, states, all, out.ok)

pub loop-inbox-preserved : goal.loop-inbox-preserved
loop-inbox-preserved g c =
    let whole = ap (map (λ b. b.inbox)) c.in-Some.ensures.items ∙ map-append (λ b. b.inbox) c.pop.new.self.items (c.in-Some.inbox ∷ []) in
    let taken = taken_now _ _ c.in-Some.inbox.inbox _ _ _ _ _ _ _ whole (ap (map passed_at) c.loop-inbox.invariant.0) refl (ap (map (λ e. e.port)) c.new-out.ensures.items) c.loop-inbox.invariant.1 c.in_ok-take_last.ensures.taken in (
      c.take_last.ensures.same ∙ c.loop-inbox.invariant.0,
      closed_next _ _ c.in-Some.inbox.inbox _ _ _ _ whole c.loop-inbox.invariant.1 taken.0 taken.1 c.in_ok-close_one.ensures.same,
      (last_out _ _ _ _ c.in-Some.inbox c.in-Some.ensures.items c.loop-inbox.invariant.2).0,
    )

pub loop-inbox-init : goal.loop-inbox-init
loop-inbox-init g c =
    let long : length (map (λ b. b.inbox) c.args.inboxes.items) ≡ length (map passed_at (map (λ d. d.state) c.args.dones.now)) =
    length-map c.args.inboxes.items (λ b. b.inbox) ∙ c.requires.count ∙ sym (length-map (map (λ d. d.state) c.args.dones.now) passed_at ∙ length-map c.args.dones.now (λ d. d.state)) in
    (refl, none_closed _ _ _ long c.requires.used, c.requires.out)
