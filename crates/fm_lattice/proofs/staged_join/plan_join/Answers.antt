use Rattle.std.proofs.Common.{◌≡◌, ◌+◌, ◌<◌, ◌≤◌, ◌^◌, [], true, cond, length, map, sym, ◌∙◌, ap, subst, arith, rules, vec_len, vec_capacity}
use Rattle.std.proofs.lemmas.List.{nil_from_length}
use Rattle.std.proofs.lemmas.Result.{IfOk-weaker}
use mathlib.Core.Bool.{false≢true}
use Rattle.fm_lattice.specs.Maps.{map_join, keep_new}
use Rattle.fm_lattice.specs.inner.JoinedPairs.{joined_pair}
use Rattle.fm_lattice.specs.laws.MapLaws.{overwritten}
use Rattle.fm_lattice.specs.Blocks.{pairs_of}
use Rattle.fm_lattice.specs.inner.BlockOrder.{HaveSpares, GoToOwned}
use Rattle.fm_lattice.specs.inner.StagedJoins.{outcome}
use Rattle.fm_lattice.proofs.Planned.{joined_to_none, tells_nothing}
use Rattle.fm_lattice.proofs.staged_join.plan_join.Goals as goal

pub returns-clause-outcome : goal.returns-clause-outcome
returns-clause-outcome g c =
    let here = pairs_of c.args.blocks.now.items in
    let there = pairs_of c.args.other.now in
    let news : map (λ c. c.0) c.in_ok-changes.changes.items ≡ map (joined_pair g.K.Ord.cmp g.V.Join.join here) there = c.in_ok-changes.ensures.pairs in
    ap (map_join g.K.Ord.cmp keep_new here) news
    ∙ overwritten g.K.Ord.cmp g.met.K.Ord.total g.met.K.Chain.same g.V.Join.join here there c.requires.here.map.rising c.requires.there.map.rising

pub returns-clause-ready : goal.returns-clause-ready
returns-clause-ready g c =
    let pairs : pairs_of c.reserve.new.self.items ≡ pairs_of c.args.blocks.now.items = ap pairs_of c.in_ok-reserve.ensures.items ∙ c.in_ok-changes.ensures.left_pairs in
    let some : 0 < vec_len c.reserve.new.self = search (arith, c.if-is_empty.ensures, c.in_ok-reserve.ensures.len, c.in_ok-changes.ensures.left_len) in
    let room : vec_len c.reserve.new.self + vec_len c.in_ok-changes.changes ≤ vec_capacity c.reserve.new.self = search (arith, c.in_ok-reserve.ensures.ok, c.len-3.ensures) in
    let fits : c.args.len + vec_len c.in_ok-changes.changes < 2 ^ 64 = search (arith, c.if-len.false, c.len-2.ensures) in
    record {
      headed = λ e. absurd (false≢true e);
      counted = λ e. absurd (false≢true e);
      some = λ _. some;
      spares = λ _. subst (λ z. HaveSpares g.K.Ord.cmp 2 z c.in_ok-changes.changes.items) (sym pairs) c.in_ok-changes.ensures.spares;
      owned = λ _. subst (λ z. GoToOwned g.K.Ord.cmp z c.in_ok-changes.changes.items) (sym c.in_ok-reserve.ensures.items) c.in_ok-changes.ensures.owned;
      room = λ _. room;
      fits = λ _. fits;
    }

pub returns-then-is_empty-clause-outcome : goal.returns-then-is_empty-clause-outcome
returns-then-is_empty-clause-outcome g c =
    let here = pairs_of c.args.blocks.now.items in
    let there = pairs_of c.args.other.now in
    let len : length c.args.blocks.now.items ≡ 0 = search (arith, c.if-is_empty.ensures, c.args.blocks.now.ok) in
    let none : here ≡ [] = ap pairs_of (nil_from_length c.args.blocks.now.items len) in
    let joined = joined_to_none g.K.Ord.cmp g.met.K.Ord.total g.met.K.Chain.same g.V.Join.join g.V.Join.is_value g.met.V.Join.laws there c.requires.there.map in
    IfOk-weaker c.plan_copy.result (λ plan. (plan.aside ≡ true) × (pairs_of plan.whole.items ≡ there)) (λ plan. outcome g.K.Ord.cmp here plan.aside plan.whole.items plan.changes.items ≡ map_join g.K.Ord.cmp g.V.Join.join here there)
    (λ plan made.
    ap (λ b. cond b (pairs_of plan.whole.items) (map_join g.K.Ord.cmp keep_new here (map (λ c. c.0) plan.changes.items))) made.0
    ∙ made.1 ∙ joined ∙ ap (λ es. map_join g.K.Ord.cmp g.V.Join.join es there) (sym none))
    c.plan_copy.ensures.pairs

pub returns-then-is_below-clause-outcome : goal.returns-then-is_below-clause-outcome
returns-then-is_below-clause-outcome g c =
    let here = pairs_of c.args.blocks.now.items in
    let there = pairs_of c.args.other.now in
    let below : map_join g.K.Ord.cmp g.V.Join.join there here ≡ here = search (rules, c.is_below.ensures, c.deref.ensures.value, c.if-is_below.true) in
    ap (λ changes. map_join g.K.Ord.cmp keep_new here (map (λ c. c.0) changes)) c.new-then-is_below.ensures.items
    ∙ tells_nothing g.K.Ord.cmp g.met.K.Ord.total g.met.K.Chain.same g.V.Join.join g.V.Join.is_value g.met.V.Join.laws there c.requires.there.map here c.requires.here.map below
