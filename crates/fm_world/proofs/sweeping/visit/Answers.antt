use Rattle.std.proofs.Common.{rules, ◌≡◌, ◌≤◌, length, drop, get_or, sym, subst}
use Rattle.fm_world.proofs.Visits.{place_inside, within_history, visit_of}
use Rattle.fm_world.proofs.sweeping.visit.Goals as goal

pub bounds-places-i : goal.bounds-places-i
bounds-places-i g c = place_inside c.args.coordinators.now c.args.i c.args.places.now c.args.gathered.now.steps.items c.args.gathered.now.packets c.requires.swept c.requires.within

pub bounds-places-i-2 : goal.bounds-places-i-2
bounds-places-i-2 g c = place_inside c.args.coordinators.now c.args.i c.args.places.now c.args.gathered.now.steps.items c.args.gathered.now.packets c.requires.swept c.requires.within

pub split_at-requires : goal.split_at-requires
split_at-requires g c =
    let co = c.index-coordinators-i.result in
    let within = within_history c.args.coordinators.now c.args.i c.args.places.now c.args.gathered.now.steps.items c.args.gathered.now.packets c.requires.swept c.requires.within co c.index-coordinators-i.is in
    let history : c.history.result.now ≡ co.state.history = search rules in
    subst (λ l. get_or c.args.places.now c.args.i 0 ≤ length l) (sym history) within

pub returns-clause-swept : goal.returns-clause-swept
returns-clause-swept g c =
    let co = c.index-coordinators-i.result in
    let number : c.value.result ≡ co.state.number = search rules in
    let entries : c.split_at.result.1.now ≡ drop (get_or c.args.places.now c.args.i 0) co.state.history = search rules in
    (visit_of c.args.coordinators.now c.args.i c.args.places.now c.args.gathered.now.steps.items c.args.gathered.now.packets c.requires.swept c.requires.within co c.index-coordinators-i.is
    c.take_first.new.self.steps.items c.take_first.new.self.packets c.in_ok-taken.taken c.value.result c.split_at.result.1.now number entries c.requires.distinct c.in_ok-taken.ensures.within c.in_ok-taken.ensures.taken c.in_ok-taken.ensures.end).0

pub returns-clause-visit : goal.returns-clause-visit
returns-clause-visit g c =
    let co = c.index-coordinators-i.result in
    let number : c.value.result ≡ co.state.number = search rules in
    let entries : c.split_at.result.1.now ≡ drop (get_or c.args.places.now c.args.i 0) co.state.history = search rules in
    (visit_of c.args.coordinators.now c.args.i c.args.places.now c.args.gathered.now.steps.items c.args.gathered.now.packets c.requires.swept c.requires.within co c.index-coordinators-i.is
    c.take_first.new.self.steps.items c.take_first.new.self.packets c.in_ok-taken.taken c.value.result c.split_at.result.1.now number entries c.requires.distinct c.in_ok-taken.ensures.within c.in_ok-taken.ensures.taken c.in_ok-taken.ensures.end).1
