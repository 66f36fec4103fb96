-- Counts and plans of ways where few tasks move, by a walk over these.
use Rattle.std.proofs.Common.{◌≡◌, ◌∙◌, ap, sym, subst, refl, inl, inr, ℕ, ◌+◌, Bool, true, false, cond, ◌==◌, ◌&&◌, List, [], ◌∷◌, Option, Some, None, option_map, count_by, arith}
use Rattle.std.specs.List.{sum_by, filter_map, cons_option}
use Rattle.std.specs.Ordering.{nat_cmp, is_eq}
use Rattle.std.specs.Cmp.{nat_cmp_total}
use Rattle.std.specs.declared.cmp.Ordering.TheVariants.{Less, Equal, Greater}
use Rattle.std.proofs.lemmas.Cmp.{tied_itself}
use Rattle.std.proofs.lemmas.List.Sums.{sum_by-cons}
use Rattle.fm_lattice.specs.laws.ChainLaws.{by_cases, nat_same}
use Rattle.fm_lattice.specs.Maps.{lookup, IsBelow, IsRising}
use Rattle.fm_lattice.specs.laws.MapLaws.{lookup_below}
use Rattle.fm_records.specs.Ranges.{CanBe}
use Rattle.fm_records.specs.Options.{when, and_then, or_else, passes}
use Rattle.fm_records.specs.Sets.{IsMember}
use Rattle.fm_records.specs.Table.{Table, TaskValue}
use Rattle.fm_records.specs.Facts.{live_spec, is_live, holder_of, holds, attempt_of}
use Rattle.fm_net.specs.Net.{CanBeNet}
use Rattle.fm_net.proofs.ListLaws.{entry_member}
use Rattle.fm_net.specs.Network.{is_held, net_of}
use Rattle.fm_net.proofs.NetworkLaws.{passes_some, live_entry, held_ends}
use Rattle.fm_certificate.proofs.Members.{member_lookup}
use Rattle.fm_certificate.proofs.Sums.{sum_same, sum_both}
use Rattle.fm_round.specs.declared.plan.Place.{Place}
use Rattle.fm_round.specs.declared.plan.Preempt.{Preempt}
use Rattle.fm_round.specs.PlanOfFlow.{place_at, preempt_of}
use Rattle.fm_round.specs.Schedules.{IsPlanOf}
use Rattle.fm_paths.specs.TaskPaths.{Way, ToJob, ByRequest, Straight, ways_of, goes_by, takes_slot, Fit}
use Rattle.fm_paths.specs.Prices.{first_node, AreFair}
use Rattle.fm_paths.specs.Plans.{is_job, is_run, goer, place_way, places_of_ways, preempts_of_ways, InTurn}
use Rattle.fm_paths.specs.Moves.{way_at_rest, rest, ways_with, AreMoves, places_of_moves, preempts_of_moves, plan_of_moves}
use Rattle.fm_paths.proofs.Stands.{sum_ways}
use Rattle.fm_paths.proofs.Listed.{found_same, fused}
use Rattle.fm_paths.proofs.Rounds.{is_plan}

no_some : {A P : Type 0} {a : A} → None ≡ Some a → P
no_some e = absurd (let no : ⊥ = cc in no)

less_equal : {P : Type 0} → Less ≡ Equal → P
less_equal e = absurd (let no : ⊥ = cc in no)

module _ {V : Type 0} where
  below_of : (k : ℕ) (e : ℕ × V) (es : List (ℕ × V)) → IsBelow nat_cmp k es → IsMember e es → nat_cmp k e.0 ≡ Less
  below_of k e [] b m = absurd m
  below_of k e (x ∷ es) b m = elim m [ inl is ↦ ap (λ (z : ℕ × V). nat_cmp k z.0) (sym is) ∙ b.0 | inr later ↦ below_of k e es b.1 later ]

  below_less : (a b : ℕ) (es : List (ℕ × V)) → nat_cmp a b ≡ Less → IsBelow nat_cmp b es → IsBelow nat_cmp a es
  below_less a b [] less below = tt
  below_less a b (e ∷ es) less below = (nat_cmp_total.trans a b e.0 less below.0, below_less a b es less below.1)

tied : (a b : ℕ) → a ≡ b → nat_cmp a b ≡ Equal
tied a b is = ap (nat_cmp a) (sym is) ∙ tied_itself nat_cmp_total a

module _ {V W : Type 0} where
  abbrev row : List (ℕ × W) → ℕ × V → Option (ℕ × W)
  row ps e = option_map (λ w. (e.0, w)) (lookup nat_cmp e.0 ps)

  abbrev Known : List (ℕ × V) → List (ℕ × W) → Type 0
  Known ts ps = (t : ℕ) (w : W) → IsMember (t, w) ps → (v : V) × IsMember (t, v) ts

  -- what is looked up of a list in a walk over all is the list
  pub listed : (ts : List (ℕ × V)) (ps : List (ℕ × W)) → IsRising nat_cmp ts → IsRising nat_cmp ps → Known ts ps → filter_map (row ps) ts ≡ ps
  listed [] [] r q known = refl
  listed [] (p ∷ ps) r q known = absurd (known p.0 p.1 (inl refl)).1
  listed (t ∷ ts) [] r q known = listed ts [] r.1 tt (λ u w m. absurd m)
  listed (t ∷ ts) (p ∷ ps) r q known =
      let found = filter_map (row (p ∷ ps)) ts in
      by_cases (nat_cmp t.0 p.0) (λ o. nat_cmp t.0 p.0 ≡ o → cons_option (option_map (λ w. (t.0, w)) (cond (is_eq o) (Some p.1) (lookup nat_cmp t.0 ps))) found ≡ p ∷ ps)
      (λ _ less.
      let none = lookup_below nat_cmp nat_cmp_total nat_same t.0 ps (below_less t.0 p.0 ps less q.0) in
      let later : Known ts (p ∷ ps) = λ u w m.
      let v = known u w m in
      elim v.1 [
        | inl is ↦
            let same : t.0 ≡ u = ap (λ (z : ℕ × V). z.0) is in
            elim m [
              | inl first ↦ less_equal (sym less ∙ tied t.0 p.0 (same ∙ sym (ap (λ (z : ℕ × W). z.0) first)))
              | inr more ↦ less_equal (sym (nat_cmp_total.trans t.0 p.0 u less (below_of p.0 (u, w) ps q.0 more)) ∙ tied t.0 u same)
            ]
        | inr there ↦ (v.0, there)
      ] in
      ap (λ o. cons_option (option_map (λ w. (t.0, w)) o) found) none ∙ listed ts (p ∷ ps) r.1 q later)
      (λ _ e.
      let same = nat_same t.0 p.0 e in
      let rows : found ≡ filter_map (row ps) ts = found_same (row (p ∷ ps)) (row ps) ts (λ x m.
      ap (option_map (λ w. (x.0, w))) (by_cases (nat_cmp x.0 p.0) (λ o. nat_cmp x.0 p.0 ≡ o → cond (is_eq o) (Some p.1) (lookup nat_cmp x.0 ps) ≡ lookup nat_cmp x.0 ps)
      (λ _ _. refl)
      (λ _ f. less_equal (sym (below_of t.0 x ts r.0 m) ∙ tied t.0 x.0 (same ∙ sym (nat_same x.0 p.0 f))))
      (λ _ _. refl)
      refl)) in
      let later : Known ts ps = λ u w m.
      let v = known u w (inr m) in
      elim v.1 [
        | inl is ↦ less_equal (sym (below_of p.0 (u, w) ps q.0 m) ∙ tied p.0 u (sym same ∙ ap (λ (z : ℕ × V). z.0) is))
        | inr there ↦ (v.0, there)
      ] in
      let tails = rows ∙ listed ts ps r.1 q.1 later in
      λ i. (same i, p.1) ∷ tails i)
      (λ _ greater.
      let v = known p.0 p.1 (inl refl) in
      elim v.1 [
        | inl is ↦ let no : Greater ≡ Equal = sym greater ∙ tied t.0 p.0 (ap (λ (z : ℕ × V). z.0) is) in absurd (let bad : ⊥ = cc in bad)
        | inr there ↦ let no : Greater ≡ Less = sym greater ∙ below_of t.0 (p.0, v.0) ts r.0 there in absurd (let bad : ⊥ = cc in bad)
      ])
      refl

-- sums over what is found
abbrev part : {A : Type 0} → (A → ℕ) → Option A → ℕ
part f None = 0
part f (Some a) = f a

sum_found : {X Y : Type 0} (f : Y → ℕ) (g : X → Option Y) (xs : List X) → sum_by f (filter_map g xs) ≡ sum_by (λ x. part f (g x)) xs
sum_found f g [] = refl
sum_found f g (x ∷ xs) =
    let rest = sum_found f g xs in
    let first : sum_by f (cons_option (g x) (filter_map g xs)) ≡ part f (g x) + sum_by f (filter_map g xs) =
    elim (g x) as (λ o. sum_by f (cons_option o (filter_map g xs)) ≡ part f o + sum_by f (filter_map g xs)) [ None ↦ omega arith | Some y ↦ sum_by-cons f y (filter_map g xs) ] in
    omega (arith, sum_by-cons (λ z. part f (g z)) x xs)

module _ (k : Table) (moves : List (ℕ × Way)) (can_be : CanBe k) (are : AreMoves k moves) where
  abbrev way : ℕ → Way
  way = ways_with k moves

  abbrev at : ℕ → Option Way
  at t = lookup nat_cmp t moves

  all : filter_map (row moves) k.tasks ≡ moves
  all = listed k.tasks moves can_be.table.tasks.rising are.rise (λ t w m.
      let live = are.live t w (member_lookup nat_cmp nat_cmp_total nat_same (t, w) moves are.rise m) in
      let s = passes_some (λ s. true) (live_spec k t) live in
      let e = live_entry k t s.0 s.1 in
      (e.0, entry_member nat_cmp nat_same t e.0 k.tasks e.1))

  sum_moves : (f : ℕ × Way → ℕ) → sum_by f moves ≡ sum_by (λ e. part f (option_map (λ w. (e.0, w)) (at e.0))) k.tasks
  sum_moves f = ap (sum_by f) (sym all) ∙ sum_found f (row moves) k.tasks

  -- a task that is not live does not move, and is not held
  not_live : (t : ℕ) → is_live k t ≡ false → at t ≡ None
  not_live t dead = elim (at t) as (λ o. at t ≡ o → o ≡ None) [ None ↦ λ _. refl | Some w ↦ λ e. absurd (let both : true ≡ false = sym (are.live t w e) ∙ dead in let bad : ⊥ = cc in bad) ] refl

  none_held : (m t : ℕ) → is_live k t ≡ false → holds k m t ≡ false
  none_held m t dead = elim (holds k m t) as (λ b. holds k m t ≡ b → b ≡ false) [ true ↦ λ e. absurd (let both : true ≡ false = sym (held_ends k t m e).from ∙ dead in let bad : ⊥ = cc in bad) | false ↦ λ _. refl ] refl

  -- by requests go those alone that move
  asked_one : (r m t : ℕ) (o : Option Way) (h : Option ℕ) → cond {A = ℕ} (goes_by r m (t, or_else (way_at_rest k t h) o)) 1 0 ≡ part (λ w. cond (goes_by r m w) 1 0) (option_map (λ w. (t, w)) o)
  asked_one r m t None None = refl
  asked_one r m t None (Some p) = refl
  asked_one r m t (Some w) h = refl

  asked_at : (r m t : ℕ) → cond {A = ℕ} (is_live k t) (cond (goes_by r m (t, way t)) 1 0) 0 ≡ part (λ w. cond (goes_by r m w) 1 0) (option_map (λ w. (t, w)) (at t))
  asked_at r m t = elim (is_live k t) as (λ b. is_live k t ≡ b → cond {A = ℕ} b (cond (goes_by r m (t, way t)) 1 0) 0 ≡ part (λ w. cond (goes_by r m w) 1 0) (option_map (λ w. (t, w)) (at t))) [
    | true ↦ λ _. asked_one r m t (at t) (holder_of k t)
    | false ↦ λ dead. sym (ap (λ o. part (λ w. cond (goes_by r m w) 1 0) (option_map (λ w. (t, w)) o)) (not_live t dead))
  ] refl

  pub asked_count : (r m : ℕ) → count_by (goes_by r m) (ways_of k way) ≡ count_by (goes_by r m) moves
  asked_count r m =
      sum_ways k way (λ w. cond (goes_by r m w) 1 0)
      ∙ sum_same (λ (e : ℕ × TaskValue). cond (is_live k e.0) (cond (goes_by r m (e.0, way e.0)) 1 0) 0) (λ e. part (λ w. cond (goes_by r m w) 1 0) (option_map (λ w. (e.0, w)) (at e.0))) k.tasks (λ e _. asked_at r m e.0)
      ∙ sym (sum_moves (λ w. cond (goes_by r m w) 1 0))

  -- a machine's slots are taken by those it holds, less those that move, and those that move to it
  slot_one : (m t : ℕ) (o : Option Way) (h : Option ℕ) (held : ℕ) → held ≡ cond (passes (λ (x : ℕ). x == m) h) 1 0 → cond
      {A = ℕ} (takes_slot m (t, or_else (way_at_rest k t h) o)) 1 0 + part (λ (w : ℕ × Way). held) (option_map (λ w. (t, w)) o) ≡
      held + part (λ w. cond (takes_slot m w) 1 0) (option_map (λ w. (t, w)) o)
  slot_one m t None None held is = omega arith
  slot_one m t None (Some p) held is = omega arith
  slot_one m t (Some w) h held is = omega arith

  abbrev held_one : ℕ → ℕ → ℕ
  held_one m t = cond (holds k m t) 1 0

  slot_at : (m t : ℕ) → cond {A = ℕ} (is_live k t) (cond (takes_slot m (t, way t)) 1 0) 0 + part (λ (w : ℕ × Way). held_one m w.0) (option_map (λ w. (t, w)) (at t)) ≡ held_one m t + part (λ w. cond (takes_slot m w) 1 0) (option_map (λ w. (t, w)) (at t))
  slot_at m t =
      let same : part (λ (w : ℕ × Way). held_one m w.0) (option_map (λ w. (t, w)) (at t)) ≡ part (λ (w : ℕ × Way). held_one m t)
      (option_map (λ w. (t, w)) (at t)) = elim (at t) as (λ o. part (λ (w : ℕ × Way). held_one m w.0)
      (option_map (λ w. (t, w)) o) ≡ part (λ (w : ℕ × Way). held_one m t) (option_map (λ w. (t, w)) o))
      [ None ↦ refl | Some w ↦ refl ] in
      elim (is_live k t) as (λ b. is_live k t ≡ b → cond {A = ℕ} b (cond (takes_slot m (t, way t)) 1 0) 0 + part (λ (w : ℕ × Way). held_one m w.0) (option_map (λ w. (t, w)) (at t)) ≡ held_one m t + part (λ w. cond (takes_slot m w) 1 0) (option_map (λ w. (t, w)) (at t))) [
        | true ↦ λ _. let one = slot_one m t (at t) (holder_of k t) (held_one m t) refl in omega arith
        | false ↦ λ dead.
            let none = not_live t dead in
            let zero_held : held_one m t ≡ 0 = ap (λ b. cond {A = ℕ} b 1 0) (none_held m t dead) in
            let a : part (λ (w : ℕ × Way). held_one m w.0) (option_map (λ w. (t, w)) (at t)) ≡ 0 = ap (λ o. part (λ (w : ℕ × Way). held_one m w.0) (option_map (λ w. (t, w)) o)) none in
            let b : part (λ w. cond (takes_slot m w) 1 0) (option_map (λ w. (t, w)) (at t)) ≡ 0 = ap (λ o. part (λ w. cond (takes_slot m w) 1 0) (option_map (λ w. (t, w)) o)) none in
            omega arith
      ] refl

  pub slot_count : (m : ℕ) → count_by (takes_slot m) (ways_of k way) + count_by (λ w. holds k m w.0) moves ≡ count_by (λ e. holds k m e.0) k.tasks + count_by (takes_slot m) moves
  slot_count m =
      let here : ℕ × TaskValue → ℕ = λ e. cond (is_live k e.0) (cond (takes_slot m (e.0, way e.0)) 1 0) 0 in
      let gone : ℕ × TaskValue → ℕ = λ e. part (λ (w : ℕ × Way). held_one m w.0) (option_map (λ w. (e.0, w)) (at e.0)) in
      let held : ℕ × TaskValue → ℕ = λ e. held_one m e.0 in
      let come : ℕ × TaskValue → ℕ = λ e. part (λ w. cond (takes_slot m w) 1 0) (option_map (λ w. (e.0, w)) (at e.0)) in
      let same = sum_same (λ e. here e + gone e) (λ e. held e + come e) k.tasks (λ e _. slot_at m e.0) in
      omega (arith, same, sum_both here gone k.tasks, sum_both held come k.tasks, sum_ways k way (λ w. cond (takes_slot m w) 1 0), sum_moves (λ w. held_one m w.0), sum_moves (λ w. cond (takes_slot m w) 1 0))

  -- The plan.

  if_there : {A : Type 0} (f : ℕ → Option A) (b : Bool) (t : ℕ) → and_then f (when b t) ≡ cond b (f t) None
  if_there f true t = refl
  if_there f false t = refl

  runs : (t : ℕ) (w : Way) → cond (is_run (first_node w)) (place_way k t w) None ≡ place_way k t w
  runs t (ToJob j) = refl
  runs t (ByRequest r m) = refl
  runs t (Straight m) = refl

  rest_place : (t : ℕ) (h : Option ℕ) → holder_of k t ≡ h → place_way k t (way_at_rest k t h) ≡ None
  rest_place t None e = refl
  rest_place t (Some p) e = let held : is_held k t ≡ true = ap (passes (λ (m : ℕ). true)) e in ap (λ b. cond b None (place_at k t p)) held

  rest_preempt : (t : ℕ) (h : Option ℕ) → holder_of k t ≡ h → cond (is_job (first_node (way_at_rest k t h))) (preempt_of k t) None ≡ None
  rest_preempt t None e = let free : is_held k t ≡ false = ap (passes (λ (m : ℕ). true)) e in ap (λ b. when b (record { task = t; attempt = attempt_of k t })) free
  rest_preempt t (Some p) e = refl

  abbrev place_move : ℕ × Way → Option Place
  place_move p = place_way k p.0 p.1

  abbrev preempt_move : ℕ × Way → Option Preempt
  preempt_move p = cond (is_job (first_node p.1)) (preempt_of k p.0) None

  place_here : (t : ℕ) (o : Option Way) → place_way k t (or_else (rest k t) o) ≡ and_then place_move (option_map (λ w. (t, w)) o)
  place_here t None = rest_place t (holder_of k t) refl
  place_here t (Some w) = refl

  preempt_here : (t : ℕ) (o : Option Way) → cond (is_job (first_node (or_else (rest k t) o))) (preempt_of k t) None ≡ and_then preempt_move (option_map (λ w. (t, w)) o)
  preempt_here t None = rest_preempt t (holder_of k t) refl
  preempt_here t (Some w) = refl

  one_place : (t : ℕ) → and_then (λ u. place_way k u (way u)) (when (is_live k t && is_run (first_node (way t))) t) ≡ and_then place_move (option_map (λ w. (t, w)) (at t))
  one_place t = if_there (λ u. place_way k u (way u)) (is_live k t && is_run (first_node (way t))) t ∙ (elim (is_live k t) as (λ b. is_live k t ≡ b → cond (b && is_run (first_node (way t))) (place_way k t (way t)) None ≡ and_then place_move (option_map (λ w. (t, w)) (at t))) [
    | true ↦ λ _. runs t (way t) ∙ place_here t (at t)
    | false ↦ λ dead. sym (ap (λ o. and_then place_move (option_map (λ w. (t, w)) o)) (not_live t dead))
  ] refl)

  one_preempt : (t : ℕ) → and_then (preempt_of k) (when (is_live k t && is_job (first_node (way t))) t) ≡ and_then preempt_move (option_map (λ w. (t, w)) (at t))
  one_preempt t = if_there (preempt_of k) (is_live k t && is_job (first_node (way t))) t ∙ (elim (is_live k t) as (λ b. is_live k t ≡ b → cond (b && is_job (first_node (way t))) (preempt_of k t) None ≡ and_then preempt_move (option_map (λ w. (t, w)) (at t))) [
    | true ↦ λ _. preempt_here t (at t)
    | false ↦ λ dead. sym (ap (λ o. and_then preempt_move (option_map (λ w. (t, w)) o)) (not_live t dead))
  ] refl)

  pub places_moved : places_of_ways k way ≡ places_of_moves k moves
  places_moved =
      fused (goer k way is_run) (λ u. place_way k u (way u)) k.tasks
      ∙ found_same (λ e. and_then (λ u. place_way k u (way u)) (goer k way is_run e)) (λ e. and_then place_move (row moves e)) k.tasks (λ e _. one_place e.0)
      ∙ sym (fused (row moves) place_move k.tasks)
      ∙ ap (filter_map place_move) all

  pub preempts_moved : preempts_of_ways k way ≡ preempts_of_moves k moves
  preempts_moved =
      fused (goer k way is_job) (preempt_of k) k.tasks
      ∙ found_same (λ e. and_then (preempt_of k) (goer k way is_job e)) (λ e. and_then preempt_move (row moves e)) k.tasks (λ e _. one_preempt e.0)
      ∙ sym (fused (row moves) preempt_move k.tasks)
      ∙ ap (filter_map preempt_move) all

  pub moves_plan : (price offer : ℕ → ℕ) → CanBeNet (net_of k) → Fit k way → AreFair k way price offer → InTurn k way → IsPlanOf k (plan_of_moves k moves)
  moves_plan price offer can fit fair in_turn = subst (IsPlanOf k) (λ i. record { places = places_moved i; preempts = preempts_moved i }) (is_plan k way price offer can_be can fit fair in_turn)
