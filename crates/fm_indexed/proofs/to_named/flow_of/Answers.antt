use Rattle.std.proofs.Common.{◌≡◌, ◌∙◌, ◌<◌, ◌^◌, ℕ, List, sym, subst, rules, arith}
use Rattle.std.specs.Prelude.{slice_index}
use Rattle.fm_net.specs.declared.node.Node.{Node}
use Rattle.fm_certificate.specs.Totals.{Entry, IsTotalled}
use Rattle.fm_cycles.specs.declared.indexed_arcs.IndexedArc.{IndexedArc}
use Rattle.fm_indexed.specs.Numbered.{NetArc, AreArcsOf}
use Rattle.fm_indexed.specs.inner.Named.{named_units, units_by, entered_by}
use Rattle.fm_indexed.proofs.Naming.{by_names}
use Rattle.fm_indexed.proofs.Totalling.{totalled}
use Rattle.fm_indexed.proofs.to_named.flow_of.Goals as goal

-- the entries by the network's names
entries_are : (nodes given : List Node) (arcs : List NetArc) (numbers lent : List IndexedArc) (units : List ℕ) (entries : List Entry) → given ≡ nodes → lent ≡ numbers → AreArcsOf nodes arcs numbers → entries ≡ units_by given lent units → entries ≡ named_units arcs units
entries_are nodes given arcs numbers lent units entries same all are is = is ∙ (λ i. units_by (same i) (all i) units) ∙ by_names nodes arcs numbers units are

-- and what enters the nodes
entered_are : (c : goal.In_ok-entered) → c.in_ok-entered.entered.items ≡ entered_by c.args.network.now.nodes c.in_ok-sums.sums.items
entered_are c =
    let sums : c.deref-2.result.now ≡ c.in_ok-sums.sums.items = search rules in
    c.in_ok-entered.ensures ∙ (λ i. entered_by (c.requires.nodes i) (sums i))

pub of-requires : goal.of-requires
of-requires c =
    let net = c.args.network.now in
    let arcs : c.deref.result.now ≡ c.args.numbered.now.arcs.items = search rules in
    let entries = entries_are net.nodes c.args.nodes.now net.arcs c.args.numbered.now.arcs.items c.deref.result.now c.args.units.now c.in_ok-entries.entries.items c.requires.nodes arcs c.requires.numbered.of_arcs c.in_ok-entries.ensures in
    let fits : (i : ℕ) → slice_index c.args.units.now i < 2 ^ 64 = λ i. let h = c.type_inv.units i in omega arith in
    let both = totalled net c.known.ensures c.args.numbered.now.places c.args.numbered.now.arcs.items c.requires.numbered c.args.units.now c.in_ok-sums.sums.items c.in_ok-sums.ensures.sums fits in
    subst (λ (es : List Entry). IsTotalled es c.in_ok-entered.entered.items) (sym entries)
    (subst (λ (entered : List (Node × ℕ)). IsTotalled (named_units net.arcs c.args.units.now) entered) (sym (entered_are c)) both)

pub returns : goal.returns
returns c =
    let net = c.args.network.now in
    let arcs : c.deref.result.now ≡ c.args.numbered.now.arcs.items = search rules in
    c.of.ensures ∙ entries_are net.nodes c.args.nodes.now net.arcs c.args.numbered.now.arcs.items c.deref.result.now c.args.units.now c.in_ok-entries.entries.items c.requires.nodes arcs c.requires.numbered.of_arcs c.in_ok-entries.ensures
