-- The walk back over parents: what holds as it goes, one step further, and at its end.
use Rattle.std.proofs.Common.{◌≡◌, ◌∙◌, ap, sym, subst, refl, inl, inr, ℕ, zero, suc, ◌⊎◌, ◌+◌, ◌-◌, ◌≤◌, ◌<◌, true, false, List, [], ◌∷◌, ◌++◌, Option, Some, None, length, drop, get_or, set, length-set, length-append, length-drop, get_or-set_same, arith}
use Rattle.std.proofs.lemmas.List.{drop-append-le}
use Rattle.std.specs.Prelude.{slice_get, slice_index}
use Rattle.fm_cycles.specs.Walks.{Costs, Steps, TargetsOther, ShareNoNode, IsNegativeCycle}
use Rattle.fm_cycles.specs.Residual.{residual, CanBeTaken, start_of, AreArcs}
use Rattle.fm_cycles.specs.inner.Labels.{AreLabels, IsWalkBack}
use Rattle.fm_cycles.specs.inner.ParentGraph.{value_count, visit_of, IsVisited, AreBefore, HasRoot, AreRooted, IsClosedAt, IsWalkedBack}
use Rattle.fm_cycles.specs.declared.parent_graph.Visit.{Visit}
use Rattle.fm_cycles.specs.declared.indexed_arcs.IndexedArc.{IndexedArc}
use Rattle.fm_cycles.specs.declared.indexed_arcs.ResidualArc.{ResidualArc}
use Rattle.fm_cycles.proofs.Lowered.{is_walk}
use Rattle.fm_cycles.proofs.Counts.{marked_set, marked_most}

no_mark : {P : Type 0} {x : Visit} → ◌≡◌ {A = Option Visit} None (Some x) → P
no_mark e = absurd (let no : ⊥ = cc in no)

-- what has no visit after one had none before
still : (visits : List (Option Visit)) (v i : ℕ) (x : Visit) → get_or (set visits i (Some x)) v None ≡ None → get_or visits v None ≡ None
still [] v i x none = none
still (y ∷ ys) zero zero x none = absurd (let no : ⊥ = cc in no)
still (y ∷ ys) zero (suc i) x none = none
still (y ∷ ys) (suc v) zero x none = none
still (y ∷ ys) (suc v) (suc i) x none = still ys v i x none

drop_at : (walk : List ResidualArc) (s : ResidualArc) → drop (length walk) (walk ++ s ∷ []) ≡ s ∷ []
drop_at [] s = refl
drop_at (w ∷ ws) s = drop_at ws s

-- a visit is the newest one, or an older one
visit_cases : (visits : List (Option Visit)) (v n : ℕ) (x y : Visit) → get_or (set visits n (Some x)) v None ≡ Some y → ((v ≡ n) × (x ≡ y)) ⊎ (get_or visits v None ≡ Some y)
visit_cases [] v n x y e = inr e
visit_cases (z ∷ zs) zero zero x y e = inl (refl, (let is : x ≡ y = cc in is))
visit_cases (z ∷ zs) zero (suc n) x y e = inr e
visit_cases (z ∷ zs) (suc v) zero x y e = inr e
visit_cases (z ∷ zs) (suc v) (suc n) x y e = elim (visit_cases zs v n x y e) [ inl h ↦ inl (ap (λ (m : ℕ). suc m) h.0, h.1) | inr h ↦ inr h ]

-- a visited node has a visit
visit_there : (o : Option Visit) → (o ≡ None → ⊥) → (x : Visit) × (o ≡ Some x)
visit_there None some = absurd (some refl)
visit_there (Some x) some = (x, refl)

module _ (g : Steps ResidualArc) (parents : ℕ → Option ResidualArc) where
  back_more : (v u : ℕ) (steps : List ResidualArc) (s : ResidualArc) → IsWalkBack g parents v steps u → parents u ≡ Some s → IsWalkBack g parents v (steps ++ s ∷ []) (g.source s)
  back_more v u [] s back last = (ap parents back ∙ last, refl)
  back_more v u (t ∷ steps) s back last = (back.0, back_more (g.source t) u steps s back.1 last)

  back_on : (v u w : ℕ) (steps more : List ResidualArc) → IsWalkBack g parents v steps u → IsWalkBack g parents u more w → IsWalkBack g parents v (steps ++ more) w
  back_on v u w [] more back on = subst (λ n. IsWalkBack g parents n more w) (sym back) on
  back_on v u w (s ∷ steps) more back on = (back.0, back_on (g.source s) u w steps more back.1 on)

  -- a root in fewer steps than a bound is one in fewer than a greater bound
  pub more_few : (few more v : ℕ) → few ≤ more → HasRoot g few parents v → HasRoot g more parents v
  more_few few more v le rooted = record { root = rooted.root; steps = rooted.steps; back = rooted.back; none = rooted.none; few = let less = rooted.few in omega arith }

  -- each target of the steps is visited
  abbrev pub AreVisited : List (Option Visit) → List ResidualArc → Type 0
  AreVisited visits [] = Unit {0}
  AreVisited visits (s ∷ ss) = (get_or visits (g.target s) None ≡ None → ⊥) × AreVisited visits ss

  others_more : (t s : ResidualArc) (us : List ResidualArc) → TargetsOther g t us → (g.target t ≡ g.target s → ⊥) → TargetsOther g t (us ++ s ∷ [])
  others_more t s [] others other = (other, tt)
  others_more t s (u ∷ us) others other = (others.0, others_more t s us others.1 other)

  apart_more : (visits : List (Option Visit)) (ss : List ResidualArc) (s : ResidualArc) → AreVisited visits ss → get_or visits (g.target s) None ≡ None → ShareNoNode g ss → ShareNoNode g (ss ++ s ∷ [])
  apart_more visits [] s seen none apart = (tt, tt)
  apart_more visits (t ∷ ts) s seen none apart =
      let other = λ (e : g.target t ≡ g.target s). seen.0 (ap (λ n. get_or visits n None) e ∙ none) in
      (others_more t s ts apart.0 other, apart_more visits ts s seen.1 none apart.1)

  visited_set : (visits : List (Option Visit)) (ss : List ResidualArc) (i : ℕ) (x : Visit) → AreVisited visits ss → AreVisited (set visits i (Some x)) ss
  visited_set visits [] i x seen = tt
  visited_set visits (s ∷ ss) i x seen = (
    λ none. seen.0 (still visits (g.target s) i x none),
    visited_set visits ss i x seen.1,
  )

  visited_more : (visits : List (Option Visit)) (ss : List ResidualArc) (s : ResidualArc) → AreVisited visits ss → (get_or visits (g.target s) None ≡ None → ⊥) → AreVisited visits (ss ++ s ∷ [])
  visited_more visits [] s seen one = (one, tt)
  visited_more visits (t ∷ ts) s seen one = (seen.0, visited_more visits ts s seen.1 one)

  apart_drop : (i : ℕ) (ss : List ResidualArc) → ShareNoNode g ss → ShareNoNode g (drop i ss)
  apart_drop zero ss apart = apart
  apart_drop (suc i) [] apart = tt
  apart_drop (suc i) (s ∷ ss) apart = apart_drop i ss apart.1

  cycle_of : (first costs : Costs) (v : ℕ) (steps : List ResidualArc) → AreLabels g first costs parents → IsWalkBack g parents v steps v → 0 < length steps → ShareNoNode g steps → IsNegativeCycle g steps
  cycle_of first costs v [] labels back some apart = absurd (omega arith)
  cycle_of first costs v (s ∷ steps) labels back some apart = record {
    node = v;
    walk = is_walk g first costs parents labels v v (s ∷ steps) back;
    negative = labels.negative v s steps back;
    apart = apart;
  }

module _ (arcs : List IndexedArc) (units : List ℕ) (nodes : ℕ) (parents : ℕ → Option ResidualArc) (start : ℕ) (old : List (Option Visit)) where
  abbrev g : Steps ResidualArc
  g = residual arcs units

  abbrev here : ℕ → Visit
  here i = record { start = start; place = i }

  -- as the walk goes: what is visited was so before or by this walk, whose visits tell their places
  pub record State (visits : List (Option Visit)) (walk : List ResidualArc) (node : ℕ) : Type 0 where
    pub within : node < nodes
    pub sized : length visits ≡ nodes
    pub counted : value_count visits ≡ value_count old + length walk
    pub back : IsWalkBack g parents start walk node
    pub visited : (v : ℕ) (x : Visit) → visit_of visits v ≡ Some x → (visit_of old v ≡ Some x) ⊎ ((x.start ≡ start) × (x.place < length walk) × IsWalkBack g parents v (drop x.place walk) node)
    pub kept : (v : ℕ) → IsVisited old v → IsVisited visits v
    pub begun : IsVisited visits start ⊎ (node ≡ start)
    pub seen : AreVisited g parents visits walk
    pub apart : ShareNoNode g walk

  pub begin : start < nodes → length old ≡ nodes → (walk : List ResidualArc) → walk ≡ [] → State old walk start
  begin within sized_old walk none = record {
    within = within;
    sized = sized_old;
    counted = let zero_steps = ap (λ (p : List ResidualArc). length p) none in omega arith;
    back = subst (λ (p : List ResidualArc). IsWalkBack g parents start p start) (sym none) refl;
    visited = λ v x there. inl there;
    kept = λ v there. there;
    begun = inr refl;
    seen = subst (λ (p : List ResidualArc). AreVisited g parents old p) (sym none) tt;
    apart = subst (λ (p : List ResidualArc). ShareNoNode g p) (sym none) tt;
  }

  -- if an open step comes from a node
  source_within : AreArcs arcs nodes → (s : ResidualArc) → g.is_open s → g.source s < nodes
  source_within known s can =
      elim (slice_get arcs s.arc) as (λ o. slice_get arcs s.arc ≡ o → CanBeTaken o s.forward (slice_index units s.arc) → start_of o s.forward < nodes) [
        | None ↦ λ _ no. absurd no
        | Some a ↦ λ is _. elim s.forward as (λ b. start_of (Some a) b < nodes) [ true ↦ (known s.arc a is).0 | false ↦ (known s.arc a is).1 ]
      ] refl can

  -- a node without a visit is visited
  module _ (visits : List (Option Visit)) (walk : List ResidualArc) (node : ℕ) (st : State visits walk node) (new : visit_of visits node ≡ None) where
    abbrev visits2 : List (Option Visit)
    visits2 = set visits node (Some (here (length walk)))

    fits : node < length visits
    fits = let h = st.within in let e = st.sized in omega arith

    counted2 : value_count visits2 ≡ value_count old + length walk + 1
    counted2 = let one = marked_set visits node (here (length walk)) fits new in let all = st.counted in omega arith

    kept2 : (v : ℕ) → IsVisited visits v → IsVisited visits2 v
    kept2 v there none = there (still visits v node (here (length walk)) none)

    node2 : IsVisited visits2 node
    node2 none = let some : get_or visits2 node None ≡ Some (here (length walk)) = get_or-set_same visits node (Some (here (length walk))) None fits in let no : ⊥ = no_mark (sym none ∙ some) in no

    begun2 : IsVisited visits2 start
    begun2 = elim st.begun [
      | inl was ↦ kept2 start was
      | inr is ↦ subst (λ n. IsVisited visits2 n) is node2
    ]

    -- one place less is left
    pub short : (place : ℕ) → nodes - value_count (set visits node (Some (here place))) < nodes - value_count visits
    short place =
        let one = marked_set visits node (here place) fits new in
        let most = marked_most (set visits node (Some (here place))) in
        let same = length-set visits node (Some (here place)) in
        let e = st.sized in
        omega arith

    -- the step is taken
    module _ (known : AreArcs arcs nodes) (first costs : Costs) (labels : AreLabels g first costs parents) (s : ResidualArc) (last : parents node ≡ Some s) where
      abbrev walk2 : List ResidualArc
      walk2 = walk ++ s ∷ []

      at : g.target s ≡ node
      at = labels.ends node s last

      longer : length walk2 ≡ length walk + 1
      longer = length-append walk (s ∷ [])

      pub advanced : State visits2 walk2 (g.source s)
      advanced = record {
        within = source_within known s (labels.opened node s last);
        sized = length-set visits node (Some (here (length walk))) ∙ st.sized;
        counted = let all = counted2 in let e = longer in omega arith;
        back = back_more g parents start node walk s st.back last;
        visited = λ v x there. elim (visit_cases visits v node (here (length walk)) x there) [
          | inl newest ↦ inr (subst (λ (y : Visit). (y.start ≡ start) × (y.place < length walk2) × IsWalkBack g parents v (drop y.place walk2) (g.source s)) newest.1 (
            refl,
            (let e = longer in omega arith),
            subst (λ n. IsWalkBack g parents n (drop (length walk) walk2) (g.source s)) (sym newest.0)
                (subst (λ p. IsWalkBack g parents node p (g.source s)) (sym (drop_at walk s)) (last, refl)),
          ))
          | inr older ↦ elim (st.visited v x older) [
            | inl was ↦ inl was
            | inr mine ↦ inr (
              mine.0,
              (let h = mine.1 in let e = longer in omega arith),
              subst (λ p. IsWalkBack g parents v p (g.source s)) (sym (drop-append-le x.place walk (s ∷ []) (let h = mine.1 in omega arith)))
                  (back_more g parents v node (drop x.place walk) s mine.2 last),
            )
          ]
        ];
        kept = λ v there. kept2 v (st.kept v there);
        begun = inl begun2;
        seen = visited_more g parents visits2 walk s (visited_set g parents visits walk node (here (length walk)) st.seen) (subst (λ n. IsVisited visits2 n) (sym at) node2);
        apart = apart_more g parents visits walk s st.seen (ap (λ n. visit_of visits n) at ∙ new) st.apart;
      }

    before2 : AreBefore start old → AreBefore (start + 1) visits2
    before2 before v x there = elim (visit_cases visits v node (here (length walk)) x there) [
      | inl newest ↦ let e = ap (λ (y : Visit). y.start) newest.1 in omega arith
      | inr older ↦ elim (st.visited v x older) [
        | inl was ↦ let h = before v x was in omega arith
        | inr mine ↦ let e = mine.0 in omega arith
      ]
    ]

    -- a node without a parent ends the walk
    pub ended : length old ≡ nodes → AreBefore start old → parents node ≡ None → IsWalkedBack g parents start old visits2 walk None
    ended sized_old before none = record {
      sized = length-set visits node (Some (here (length walk))) ∙ st.sized ∙ sym sized_old;
      before = before2 before;
      kept = λ v there. kept2 v (st.kept v there);
      started = begun2;
      closed = tt;
      rooted = λ _ were v there.
          let x = visit_there (visit_of visits2 v) there in
          elim (visit_cases visits v node (here (length walk)) x.0 x.1) [
            | inl newest ↦ record { root = node; steps = []; back = newest.0; none = none; few = let all = counted2 in omega arith }
            | inr older ↦ elim (st.visited v x.0 older) [
              | inl was ↦ more_few g parents (value_count old) (value_count visits2) v (let all = counted2 in omega arith) (were v (λ no. no_mark (sym no ∙ was)))
              | inr mine ↦ record { root = node; steps = drop x.0.place walk; back = mine.2; none = none; few = let all = counted2 in let e = length-drop x.0.place walk in omega arith }
            ]
          ];
    }

  -- the walk came to a visited node
  module _ (visits : List (Option Visit)) (walk : List ResidualArc) (node : ℕ) (st : State visits walk node) (x : Visit) (there : visit_of visits node ≡ Some x) (before : AreBefore start old) where
    begun_here : IsVisited visits start
    begun_here = elim st.begun [
      | inl was ↦ was
      | inr is ↦ subst (λ n. IsVisited visits n) is (λ no. no_mark (sym no ∙ there))
    ]

    before_here : AreBefore (start + 1) visits
    before_here v y is = elim (st.visited v y is) [
      | inl was ↦ let h = before v y was in omega arith
      | inr mine ↦ let e = mine.0 in omega arith
    ]

    -- by this walk: it closed
    pub closed_here : (first costs : Costs) → AreLabels g first costs parents → x.start ≡ start → IsNegativeCycle g (drop x.place walk)
    closed_here first costs labels is = elim (st.visited node x there) [
      | inl was ↦ let h = before node x was in absurd (omega arith)
      | inr mine ↦ cycle_of g parents first costs node (drop x.place walk) labels mine.2 (let e = length-drop x.place walk in let h = mine.1 in omega arith) (apart_drop g parents x.place walk st.apart)
    ]

    -- by an earlier one: what holds of that holds of this
    joined : (x.start ≡ start → ⊥) → AreRooted g parents old → AreRooted g parents visits
    joined other were v came =
        let was : visit_of old node ≡ Some x = elim (st.visited node x there) [ inl was ↦ was | inr mine ↦ absurd (other mine.0) ] in
        let on = were node (λ no. no_mark (sym no ∙ was)) in
        let all = st.counted in
        let y = visit_there (visit_of visits v) came in
        elim (st.visited v y.0 y.1) [
          | inl older ↦ more_few g parents (value_count old) (value_count visits) v (omega arith) (were v (λ no. no_mark (sym no ∙ older)))
          | inr mine ↦ record {
            root = on.root;
            steps = drop y.0.place walk ++ on.steps;
            back = back_on g parents v node on.root (drop y.0.place walk) on.steps mine.2 on.back;
            none = on.none;
            few = let e = length-append (drop y.0.place walk) on.steps in let d = length-drop y.0.place walk in let less = on.few in omega arith;
          }
        ]

    pub came : length old ≡ nodes → (found : Option ℕ) → IsClosedAt g walk found → (found ≡ None → x.start ≡ start → ⊥) → IsWalkedBack g parents start old visits walk found
    came sized_old found closed other = record {
      sized = st.sized ∙ sym sized_old;
      before = before_here;
      kept = st.kept;
      started = begun_here;
      closed = closed;
      rooted = λ none were. joined (other none) were;
    }
