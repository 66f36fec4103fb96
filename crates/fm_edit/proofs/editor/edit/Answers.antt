use Rattle.std.proofs.Common.{◌≡◌, ◌∙◌, ap, sym, subst}
use Rattle.fm_net.specs.Edits.{after_edits, change, MayEditAll}
use Rattle.fm_net.proofs.EditLaws.{change_may, change_gives}
use Rattle.fm_net.specs.Net.{Net}
use Rattle.fm_net.specs.Network.{net_of}
use Rattle.fm_edit.proofs.Edited.{now_can_be, edits_are}
use Rattle.fm_edit.proofs.Followed.{after_can_be}
use Rattle.fm_edit.proofs.editor.edit.Goals as goal

pub make-requires : goal.make-requires
make-requires g c =
    let r = c.requires.took_in in
    let now = g.L.Look.table c.args.look.now in
    let net = c.get-network.result.now in
    let can = after_can_be r.before r.delta now c.args.changed.now r.before_can_be r.delta_can_be r.joined r.keys in
    let told = c.in_ok-touched.ensures in
    let edits : c.in_ok-edits.edits.items ≡ change net (net_of now) = c.in_ok-edits.ensures ∙ edits_are now can told.small c.follow.new.self told.remembers net c.in_ok-touched.touched.nodes.keys c.in_ok-touched.touched.pairs.keys c.known.ensures told.touches in
    subst (λ (n : Net). MayEditAll n c.as_slice.result.now) c.get-network.ensures (subst (MayEditAll net) (sym (c.as_slice.ensures.value ∙ edits)) (change_may net (net_of now) c.known.ensures (now_can_be now can told.small)))

pub returns-clause-least : goal.returns-clause-least
returns-clause-least g c = λ k is_for.
    let r = c.requires.took_in in
    let now = g.L.Look.table c.args.look.now in
    let net = c.get-network.result.now in
    let can = after_can_be r.before r.delta now c.args.changed.now r.before_can_be r.delta_can_be r.joined r.keys in
    let told = c.in_ok-touched.ensures in
    let edits : c.in_ok-edits.edits.items ≡ change net (net_of now) = c.in_ok-edits.ensures ∙ edits_are now can told.small c.follow.new.self told.remembers net c.in_ok-touched.touched.nodes.keys c.in_ok-touched.touched.pairs.keys c.known.ensures told.touches in
    edits ∙ ap (λ n. change n (net_of now)) (c.get-network.ensures ∙ is_for.network)

pub returns-clause-taken : goal.returns-clause-taken
returns-clause-taken g c = λ k is_for. c.in_ok-touched.ensures.taken k is_for.remembers

pub returns-clause-given : goal.returns-clause-given
returns-clause-given g c =
    let r = c.requires.took_in in
    let now = g.L.Look.table c.args.look.now in
    let net = c.get-network.result.now in
    let can = after_can_be r.before r.delta now c.args.changed.now r.before_can_be r.delta_can_be r.joined r.keys in
    let told = c.in_ok-touched.ensures in
    let edits : c.in_ok-edits.edits.items ≡ change net (net_of now) = c.in_ok-edits.ensures ∙ edits_are now can told.small c.follow.new.self told.remembers net c.in_ok-touched.touched.nodes.keys c.in_ok-touched.touched.pairs.keys c.known.ensures told.touches in
    record {
      network = c.in_ok-make.ensures ∙ ap (after_edits c.as_slice.result.now) (sym c.get-network.ensures) ∙ ap (λ es. after_edits es net) (c.as_slice.ensures.value ∙ edits) ∙ change_gives net (net_of now) c.known.ensures (now_can_be now can told.small);
      remembers = told.remembers;
    }
