use Rattle.std.proofs.Common.{rules, ◌≡◌, ◌≤◌, ◌+◌, length, drop, None, Some, ap, subst, sym, ◌∙◌}
use Rattle.std.specs.Prelude.{position, option_map}
use Rattle.std.specs.Map.{lookup}
use Rattle.std.specs.BTreeMap.{is_at}
use Rattle.fm_delta.specs.Packets.{same_packet}
use Rattle.fm_world.specs.inner.Names.{name_of, name_cmp, AreOthers, StartsAt, AreNamed}
use Rattle.fm_world.proofs.Naming.{none_there, there_after}
use Rattle.fm_world.proofs.cut_packets.CutPackets.index_of.Goals as goal

pub split_at-requires : goal.split_at-requires
split_at-requires c =
    let ps = c.self.inside.list.items in
    let known : AreNamed c.self.inside.starts.entries ps = c.self.invariant in
    let found : lookup (is_at (name_cmp (name_of c.args.packet.now))) c.self.inside.starts.entries ≡ Some c.in-Some.start = search rules in
    let starts : StartsAt ps (name_of c.args.packet.now) (Some c.in-Some.start) = subst (StartsAt ps (name_of c.args.packet.now)) found (known (name_of c.args.packet.now)) in
    let is : c.as_slice.result.now ≡ ps = search rules in
    subst (λ l. c.in-Some.start ≤ length l) (sym is) starts.0

pub returns-in-None : goal.returns-in-None
returns-in-None c =
    let ps = c.self.inside.list.items in
    let known : AreNamed c.self.inside.starts.entries ps = c.self.invariant in
    let found : lookup (is_at (name_cmp (name_of c.args.packet.now))) c.self.inside.starts.entries ≡ None = search rules in
    let none : AreOthers (name_of c.args.packet.now) ps = subst (StartsAt ps (name_of c.args.packet.now)) found (known (name_of c.args.packet.now)) in
    let all : c.args.self.now ≡ ps = search rules in
    sym (none_there c.args.packet.now ps none) ∙ ap (position (λ q. same_packet q c.args.packet.now)) (sym all)

pub returns-in-None-index_in : goal.returns-in-None-index_in
returns-in-None-index_in c =
    let ps = c.self.inside.list.items in
    let known : AreNamed c.self.inside.starts.entries ps = c.self.invariant in
    let found : lookup (is_at (name_cmp (name_of c.args.packet.now))) c.self.inside.starts.entries ≡ Some c.in-Some.start = search rules in
    let starts : StartsAt ps (name_of c.args.packet.now) (Some c.in-Some.start) = subst (StartsAt ps (name_of c.args.packet.now)) found (known (name_of c.args.packet.now)) in
    let all : c.args.self.now ≡ ps = search rules in
    let after : position (λ q. same_packet q c.args.packet.now) (drop c.in-Some.start ps) ≡ None = search rules in
    sym (there_after c.args.packet.now ps c.in-Some.start starts.0 starts.1 ∙ ap (option_map (λ k. c.in-Some.start + k)) after) ∙ ap (position (λ q. same_packet q c.args.packet.now)) (sym all)

pub returns-in-Some-index_in : goal.returns-in-Some-index_in
returns-in-Some-index_in c =
    let ps = c.self.inside.list.items in
    let known : AreNamed c.self.inside.starts.entries ps = c.self.invariant in
    let found : lookup (is_at (name_cmp (name_of c.args.packet.now))) c.self.inside.starts.entries ≡ Some c.in-Some.start = search rules in
    let starts : StartsAt ps (name_of c.args.packet.now) (Some c.in-Some.start) = subst (StartsAt ps (name_of c.args.packet.now)) found (known (name_of c.args.packet.now)) in
    let all : c.args.self.now ≡ ps = search rules in
    let after : position (λ q. same_packet q c.args.packet.now) (drop c.in-Some.start ps) ≡ Some c.in-Some-index_in.further = search rules in
    sym (there_after c.args.packet.now ps c.in-Some.start starts.0 starts.1 ∙ ap (option_map (λ k. c.in-Some.start + k)) after) ∙ ap (position (λ q. same_packet q c.args.packet.now)) (sym all)
