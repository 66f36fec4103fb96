-- A claim that passes the checks makes a plan of a least flow.
use Rattle.std.proofs.Common.{◌≡◌, ◌∙◌, sym, ap, subst, refl, inl, inr, ℕ, zero, suc, ◌+◌, ◌-◌, ◌<◌, ◌≤◌, ◌==◌, ◌&&◌, ◌⊎◌, not, Bool, true, false, cond, List, [], ◌∷◌, Some, None, option_map, count_by, IsTrue, eq-eqb, eqb-true, arith, Option, min}
use Rattle.std.specs.Ordering.{nat_cmp}
use Rattle.fm_lattice.specs.laws.ChainLaws.{nat_same}
use Rattle.fm_lattice.specs.Maps.{lookup, IsRising}
use Rattle.fm_records.specs.declared.records.SpecReg.{SpecReg}
use Rattle.fm_records.specs.declared.records.JobReg.{JobReg}
use Rattle.fm_records.specs.declared.records.MachineReg.{MachineReg}
use Rattle.fm_records.specs.Options.{or_else, passes, and_then, when}
use Rattle.fm_records.specs.Ranges.{CanBe}
use Rattle.fm_records.proofs.LookupLaws.{both_true}
use Rattle.fm_records.specs.Table.{Table}
use Rattle.fm_records.specs.Facts.{job_of, live_spec, is_live, open_state, holder_of, holds, load_of}
use Rattle.fm_net.proofs.ListLaws.{entry_member}
use Rattle.fm_net.specs.declared.node.Node.TheVariants.{Unscheduled, Request, Machine, Task}
use Rattle.fm_net.specs.Network.{is_node, is_held, is_live_of, waits_for, room_arc, preferred_arc, arc_of}
use Rattle.fm_net.proofs.NetworkLaws.{passes_some, came_from, mapped_from, room_from}
use Rattle.fm_certificate.proofs.Members.{member_lookup}
use Rattle.std.specs.Cmp.{nat_cmp_total}
use Rattle.fm_tally.specs.declared.tally.LiveTask.{LiveTask}
use Rattle.fm_tally.specs.declared.tally.OpenMachine.{OpenMachine}
use Rattle.fm_tally.specs.declared.tally.Tally.{Tally}
use Rattle.fm_tally.specs.Tallies.{has_any, task_at, TallyIsFor}
use Rattle.fm_tally.specs.declared.way.Way.{Way}
use Rattle.fm_tally.specs.declared.way.Way.TheVariants.{ToJob, ByRequest, Straight}
use Rattle.fm_paths.specs.TaskPaths.{MayGo, ways_of, goes_by, takes_slot}
use Rattle.fm_paths.specs.Prices.{first_node, arc_cost, cost_beyond, cost_from, AreFair}
use Rattle.fm_paths.specs.Plans.{InTurn, all_at_jobs}
use Rattle.fm_paths.specs.Moves.{way_at_rest, rest, ways_with, AreMoves, FitMoves}
use Rattle.fm_paths.proofs.Moves.{asked_count, slot_count}
use Rattle.fm_paths.proofs.Stands.{live_job}
use Rattle.fm_paths.proofs.Fair.{waits_spec, not_held}
use Rattle.fm_planner.specs.declared.claim.Claim.{Claim}
use Rattle.fm_planner.specs.declared.move_counts.Counts.{Counts}
use Rattle.fm_planner.specs.inner.Claims.{rise_of, offer_of}
use Rattle.fm_planner.specs.inner.Counts.{AreCounts}
use Rattle.fm_policy.specs.Rooms.{fitting_tasks}
use Rattle.fm_planner.specs.inner.Slackness.{IsFairAtRest, IsFairTask, load_in, straight_cost, own_cost, IsNoCheaper, Leaves, Asks, GoesStraight, IsFairMove, IsFairOffer, IsFairMachine, Passes}
use Rattle.fm_planner.proofs.Lists.{all_at, counted_member}
use Rattle.fm_planner.proofs.Entries.{task_found, entry_of, in_tally, open_of, machine_found, open_in_tally, room_is, spare_left}
use Rattle.fm_planner.proofs.Turns.{in_turn}

-- the price of a machine by a claim
abbrev pub price_of : Table → Claim → ℕ → ℕ
price_of k claim m = load_of k m + rise_of claim m

no_some : {A P : Type 0} {a : A} → None ≡ Some a → P
no_some e = absurd (let no : ⊥ = cc in no)

some_is : {A : Type 0} {a b : A} → Some a ≡ Some b → a ≡ b
some_is e = cc

both_ways : {P : Type 0} {b : Bool} → b ≡ true → b ≡ false → P
both_ways e f = absurd (let no : ⊥ = cc in no)

some_preferred : (xs : List (ℕ × ℕ)) (m c : ℕ) → lookup nat_cmp m xs ≡ Some c → has_any xs ≡ true
some_preferred [] m c e = no_some e
some_preferred (x ∷ xs) m c e = refl

none_or_some : (n : ℕ) → (n ≡ 0) ⊎ (1 ≤ n)
none_or_some zero = inl refl
none_or_some (suc n) = inr (omega arith)

-- ways of different kinds are not one
job_request : {P : Type 0} {j r m : ℕ} → ToJob j ≡ ByRequest r m → P
job_request e = absurd (let no : ⊥ = cc in no)

job_straight : {P : Type 0} {j m : ℕ} → ToJob j ≡ Straight m → P
job_straight e = absurd (let no : ⊥ = cc in no)

straight_request : {P : Type 0} {p r m : ℕ} → Straight p ≡ ByRequest r m → P
straight_request e = absurd (let no : ⊥ = cc in no)

module _ (k : Table) (tally : Tally) (claim : Claim) (counts : Counts) (is_for : TallyIsFor k tally) (counted : AreCounts k claim.moves counts) (can_be : CanBe k) (rises : IsRising nat_cmp claim.moves) (tested : Passes k tally claim counts) where
  abbrev way : ℕ → Way
  way = ways_with k claim.moves

  fair_task : (t : ℕ) (x : LiveTask) → task_at k t ≡ Some x → IsFairTask k tally claim (t, x)
  fair_task t x e = all_at (IsFairTask k tally claim) tally.tasks tested.tasks t x (is_for.tasks t ∙ e)

  fair_move : (t : ℕ) (w : Way) → lookup nat_cmp t claim.moves ≡ Some w → IsFairMove k tally claim counts (t, w)
  fair_move t w e = all_at (IsFairMove k tally claim counts) claim.moves tested.moves t w e

  fair_machine : (m : ℕ) (state : MachineReg) → open_state k m ≡ Some state → IsFairMachine claim counts (m, open_of k m state)
  fair_machine m state e = all_at (IsFairMachine claim counts) tally.machines tested.machines m (open_of k m state) (is_for.machines m ∙ open_in_tally k m state e)

  -- what a move says of the table

  record Left (t j : ℕ) : Type 0 where
    pub live : is_live_of k j t ≡ true
    pub machine : ℕ
    pub held : holder_of k t ≡ Some machine
    pub cheap : (job : JobReg) → job_of k j ≡ Some job → job.preempt ≤ rise_of claim machine

  left_is : (t j : ℕ) → Leaves tally claim t j → Left t j
  left_is t j l =
      let f = task_found k t l.task (sym (is_for.tasks t) ∙ l.found) in
      let own : f.spec.job ≡ j = ap (λ (x : LiveTask). x.job) f.is ∙ l.own in
      let held : holder_of k t ≡ Some l.machine = ap (λ (x : LiveTask). x.holder) f.is ∙ l.held in
      let is_held_here : is_held k t ≡ true = ap (passes (λ (x : ℕ). true)) held in
      let price : f.job.preempt ≡ l.task.price = ap (λ b. cond b f.job.preempt f.job.wait) (sym is_held_here) ∙ ap (λ (x : LiveTask). x.price) f.is in
      record {
        live = ap (passes (λ (s : SpecReg). s.job == j)) f.live ∙ eq-eqb f.spec.job j own;
        machine = l.machine;
        held = held;
        cheap = λ job known. let same : f.job ≡ job = some_is (sym f.known ∙ ap (job_of k) own ∙ known) in let preempt = ap (λ (x : JobReg). x.preempt) same in let cheap = l.cheap in omega (arith, price, preempt, cheap);
      }

  record Asked (t r m : ℕ) : Type 0 where
    pub waits : waits_for k r t ≡ true
    pub pays : (j : ℕ) (job : JobReg) → is_live_of k j t ≡ true → job_of k j ≡ Some job → offer_of claim r + r ≤ job.wait
    pub capacity : ℕ
    pub room : room_arc k r m ≡ Some (capacity, r + load_of k m)
    pub few : count_by (goes_by r m) claim.moves ≤ capacity
    pub price : price_of k claim m ≤ offer_of claim r

  asked_is : (t r m : ℕ) → Asks tally claim counts t r m → Asked t r m
  asked_is t r m a =
      let f = task_found k t a.task (sym (is_for.tasks t) ∙ a.found) in
      let y = machine_found k m a.machine (sym (is_for.machines m) ∙ a.open_there) in
      let request : f.spec.request ≡ r = ap (λ (x : LiveTask). x.request) f.is ∙ a.own in
      let free : is_held k t ≡ false = ap (passes (λ (x : ℕ). true)) (ap (λ (x : LiveTask). x.holder) f.is ∙ a.waits) in
      let price : f.job.wait ≡ a.task.price = ap (λ b. cond b f.job.preempt f.job.wait) (sym free) ∙ ap (λ (x : LiveTask). x.price) f.is in
      let slots : y.0.slots ≡ a.machine.slots = ap (λ (o : OpenMachine). o.slots) y.2 in
      let load : load_of k m ≡ a.machine.load = ap (λ (o : OpenMachine). o.load) y.2 in
      let left = ap (λ (o : OpenMachine). o.spare) y.2 ∙ a.left in
      record {
        waits = (λ i. passes (λ (s : SpecReg). s.request == r) (f.live i) && not (free i)) ∙ ap (λ b. b && true) (eq-eqb f.spec.request r request);
        pays = λ j job live known.
            let s = passes_some (λ (s : SpecReg). s.job == j) (live_spec k t) live in
            let spec : f.spec ≡ s.0 = some_is (sym f.live ∙ s.1) in
            let own : f.spec.job ≡ j = ap (λ (x : SpecReg). x.job) spec ∙ eqb-true s.0.job j s.2 in
            let same : f.job ≡ job = some_is (sym f.known ∙ ap (job_of k) own ∙ known) in
            let wait = ap (λ (x : JobReg). x.wait) same in
            let pays = a.pays in
            omega (arith, price, wait, pays);
        capacity = fitting_tasks y.0.slots a.spare r;
        room = room_is k r m y.0 a.spare y.1 left a.room;
        few = let number = counted.pairs r m in let few = a.few in let same = ap (λ s. fitting_tasks s a.spare r) slots in omega (arith, number, few, same);
        price = let price = a.price in omega (arith, load, price);
      }

  -- the load of an open machine, by the tally
  load_is : (m : ℕ) (state : MachineReg) → open_state k m ≡ Some state → load_in tally m ≡ load_of k m
  load_is m state e = ap (λ (o : Option OpenMachine). or_else 0 (option_map (λ (y : OpenMachine). y.load) o)) (is_for.machines m ∙ open_in_tally k m state e)

  record Straightly (t m : ℕ) : Type 0 where
    pub spec : SpecReg
    pub live : live_spec k t ≡ Some spec
    pub free : is_held k t ≡ false
    pub credit : ℕ
    pub preferred : lookup nat_cmp m spec.prefer ≡ Some credit
    pub load : load_in tally m ≡ load_of k m
    pub arc : preferred_arc k spec m ≡ Some (1, spec.request + load_of k m - credit)
    pub below_waiting : (job : JobReg) → job_of k spec.job ≡ Some job → spec.request + load_of k m - credit + rise_of claim m ≤ job.wait
    pub below_request : spec.request + load_of k m - credit + rise_of claim m ≤ offer_of claim spec.request + spec.request

  straightly : (t m : ℕ) → GoesStraight k tally claim t m → Straightly t m
  straightly t m g =
      let f = task_found k t g.task (sym (is_for.tasks t) ∙ g.found) in
      let y = machine_found k m g.roomy.machine (sym (is_for.machines m) ∙ g.roomy.open_there) in
      let one : f.spec ≡ g.spec = some_is (sym f.live ∙ g.live) in
      let request : g.task.request ≡ g.spec.request = sym (ap (λ (x : LiveTask). x.request) f.is) ∙ ap (λ (x : SpecReg). x.request) one in
      let free : is_held k t ≡ false = ap (passes (λ (x : ℕ). true)) (ap (λ (x : LiveTask). x.holder) f.is ∙ g.waits) in
      let price : f.job.wait ≡ g.task.price = ap (λ b. cond b f.job.preempt f.job.wait) (sym free) ∙ ap (λ (x : LiveTask). x.price) f.is in
      let load = load_is m y.0 y.1 in
      let left = ap (λ (o : OpenMachine). o.spare) y.2 ∙ g.roomy.left in
      let room = room_is k g.spec.request m y.0 g.roomy.spare y.1 left (let r = g.roomy.room in omega (arith, request, r)) in
      let cost : straight_cost tally claim g.task.request (m, g.credit) ≡ g.spec.request + load_of k m - g.credit + rise_of claim m = λ i. request i + load i - g.credit + rise_of claim m in
      record {
        spec = g.spec;
        live = g.live;
        free = free;
        credit = g.credit;
        preferred = g.preferred;
        load = load;
        arc = ap (and_then (λ credit. option_map (λ (a : ℕ × ℕ). (1, a.1 - credit)) (room_arc k g.spec.request m))) g.preferred ∙ ap (option_map (λ (a : ℕ × ℕ). (1, a.1 - g.credit))) room;
        below_waiting = λ job known.
            let same : f.job ≡ job = some_is (sym f.known ∙ ap (λ (x : SpecReg). job_of k x.job) one ∙ known) in
            let wait = ap (λ (x : JobReg). x.wait) same in
            let below = g.below_waiting in
            omega (arith, price, wait, cost, below);
        below_request =
            let below = g.below_request in
            let paid : offer_of claim g.task.request + g.task.request ≡ offer_of claim g.spec.request + g.spec.request = ap (λ r. offer_of claim r + r) request in
            omega (arith, cost, below, paid);
      }

  straight_arc : (t m : ℕ) (s : Straightly t m) → arc_of k (Task t) (Machine m) ≡ Some (1, s.spec.request + load_of k m - s.credit)
  straight_arc t m s =
      ap (λ b. cond b (when (holds k m t) (1, 0)) (and_then (λ x. preferred_arc k x m) (live_spec k t))) s.free
      ∙ ap (and_then (λ x. preferred_arc k x m)) s.live
      ∙ s.arc

  move_straight : (t m : ℕ) → lookup nat_cmp t claim.moves ≡ Some (Straight m) → Straightly t m
  move_straight t m e = straightly t m (fair_move t (Straight m) e)

  move_left : (t j : ℕ) → lookup nat_cmp t claim.moves ≡ Some (ToJob j) → Left t j
  move_left t j e = left_is t j (fair_move t (ToJob j) e)

  move_asked : (t r m : ℕ) → lookup nat_cmp t claim.moves ≡ Some (ByRequest r m) → Asked t r m
  move_asked t r m e = asked_is t r m (fair_move t (ByRequest r m) e)

  -- the ways of those that do not move

  held_rests : (t m : ℕ) → holder_of k t ≡ Some m → rest k t ≡ Straight m
  held_rests t m e = ap (way_at_rest k t) e

  free_rests : (t : ℕ) → is_held k t ≡ false → rest k t ≡ all_at_jobs k t
  free_rests t free = elim (holder_of k t) as (λ o. passes (λ (x : ℕ). true) o ≡ false → way_at_rest k t o ≡ all_at_jobs k t) [ None ↦ λ _. refl | Some m ↦ λ no. both_ways refl no ] free

  way_is : (t : ℕ) (w : Way) (P : Type 0) → way t ≡ w → (lookup nat_cmp t claim.moves ≡ None → rest k t ≡ w → P) → (lookup nat_cmp t claim.moves ≡ Some w → P) → P
  way_is t w P is rests moves =
      elim (lookup nat_cmp t claim.moves) as (λ o. lookup nat_cmp t claim.moves ≡ o → or_else (rest k t) o ≡ w → P) [
        | None ↦ λ e r. rests e r
        | Some v ↦ λ e r. moves (e ∙ ap Some r)
      ] refl is

  no_holder : (t : ℕ) → is_held k t ≡ false → holder_of k t ≡ None
  no_holder t free = elim (holder_of k t) as (λ o. passes (λ (x : ℕ). true) o ≡ false → o ≡ None) [ None ↦ λ _. refl | Some m ↦ λ no. both_ways refl no ] free

  never_asks : (t r m : ℕ) (P : Type 0) → rest k t ≡ ByRequest r m → P
  never_asks t r m P = elim (holder_of k t) as (λ o. way_at_rest k t o ≡ ByRequest r m → P) [ None ↦ λ e. job_request e | Some p ↦ λ e. straight_request e ]

  -- the moves

  pub are_moves : AreMoves k claim.moves
  are_moves = record { rise = rises; live = live }
    where
      live : (t : ℕ) (w : Way) → lookup nat_cmp t claim.moves ≡ Some w → is_live k t ≡ true
      live t (ToJob j) e = let l = move_left t j e in let s = passes_some (λ (s : SpecReg). s.job == j) (live_spec k t) l.live in ap (passes (λ (s : SpecReg). true)) s.1
      live t (ByRequest r m) e = let a = move_asked t r m e in let s = waits_spec k t r a.waits in ap (passes (λ (s : SpecReg). true)) s.1
      live t (Straight m) e = ap (passes (λ (s : SpecReg). true)) (move_straight t m e).live

  asked_move : (r m : ℕ) → 1 ≤ count_by (goes_by r m) claim.moves → (t : ℕ) × Asked t r m
  asked_move r m some =
      let found = counted_member (goes_by r m) claim.moves some in
      let there = member_lookup nat_cmp nat_cmp_total nat_same found.0 claim.moves rises found.1 in
      (found.0.0, here found.0.0 found.0.1 there found.2)
    where
      here : (t : ℕ) (w : Way) → lookup nat_cmp t claim.moves ≡ Some w → goes_by r m (t, w) ≡ true → Asked t r m
      here t (ToJob j) e is = both_ways is refl
      here t (Straight p) e is = both_ways is refl
      here t (ByRequest q p) e is =
          let both = both_true (q == r) (p == m) is in
          let request = eqb-true q r both.0 in
          let machine = eqb-true p m both.1 in
          move_asked t r m (e ∙ (λ i. Some (ByRequest (request i) (machine i))))

  pub fit_moves : FitMoves k claim.moves
  fit_moves = record { may = may; room = room; slots = slots }
    where
      may : (t : ℕ) (w : Way) → lookup nat_cmp t claim.moves ≡ Some w → MayGo k t w
      may t (ToJob j) e = (move_left t j e).live
      may t (ByRequest r m) e = let a = move_asked t r m e in (a.waits, (a.capacity, r + load_of k m), a.room)
      may t (Straight m) e = let s = move_straight t m e in ((1, s.spec.request + load_of k m - s.credit), straight_arc t m s)

      room : (r m : ℕ) (v : ℕ × ℕ) → room_arc k r m ≡ Some v → count_by (goes_by r m) claim.moves ≤ v.0
      room r m v arc = elim (none_or_some (count_by (goes_by r m) claim.moves)) [
        | inl none ↦ omega (arith, none)
        | inr some ↦
            let a = asked_move r m some in
            let same : (a.1.capacity, r + load_of k m) ≡ v = some_is (sym a.1.room ∙ arc) in
            let capacity = ap (λ (x : ℕ × ℕ). x.0) same in
            let few = a.1.few in
            omega (arith, capacity, few)
      ]

      slots : (m : ℕ) (state : MachineReg) → open_state k m ≡ Some state → count_by (λ e. holds k m e.0) k.tasks + count_by (takes_slot m) claim.moves ≤ state.slots + count_by (λ w. holds k m w.0) claim.moves
      slots m state e = let enough = (fair_machine m state e).slots.enough in omega (arith, enough, counted.arriving m, counted.leaving m)

  -- what tasks cost

  abbrev cost : ℕ → ℕ
  cost t = cost_from k (price_of k claim) (offer_of claim) way (Task t)

  cost_along : (t : ℕ) (w : Way) → way t ≡ w → cost t ≡ arc_cost k (Task t) (first_node w) + cost_beyond k (price_of k claim) (offer_of claim) (first_node w)
  cost_along t w is = ap (λ x. arc_cost k (Task t) (first_node x) + cost_beyond k (price_of k claim) (offer_of claim) (first_node x)) is

  cost_straight : (t m : ℕ) → way t ≡ Straight m → (s : Straightly t m) → cost t ≡ s.spec.request + load_of k m - s.credit + rise_of claim m
  cost_straight t m is s =
      let arc : arc_cost k (Task t) (Machine m) ≡ s.spec.request + load_of k m - s.credit = ap (λ (o : Option (ℕ × ℕ)). or_else 0 (option_map (λ (v : ℕ × ℕ). v.1) o)) (straight_arc t m s) in
      omega (arith, cost_along t (Straight m) is, arc)

  cost_at_job : (t : ℕ) (s : SpecReg) (job : JobReg) → live_spec k t ≡ Some s → job_of k s.job ≡ Some job → way t ≡ ToJob s.job → cost t ≡ cond (is_held k t) job.preempt job.wait
  cost_at_job t s job live known is =
      let own : is_live_of k s.job t ≡ true = ap (passes (λ (x : SpecReg). x.job == s.job)) live ∙ eq-eqb s.job s.job refl in
      let arc : arc_of k (Task t) (Unscheduled s.job) ≡ Some (1, cond (is_held k t) job.preempt job.wait) = ap (λ b. cond b (option_map (λ (x : JobReg). (1, cond (is_held k t) x.preempt x.wait)) (job_of k s.job)) None) own ∙ ap (option_map (λ (x : JobReg). (1, cond (is_held k t) x.preempt x.wait))) known in
      let there : arc_cost k (Task t) (Unscheduled s.job) ≡ cond (is_held k t) job.preempt job.wait = ap (λ (o : Option (ℕ × ℕ)). or_else 0 (option_map (λ (v : ℕ × ℕ). v.1) o)) arc in
      omega (arith, cost_along t (ToJob s.job) is, there)

  cost_asked : (t r m : ℕ) → way t ≡ ByRequest r m → waits_for k r t ≡ true → cost t ≡ offer_of claim r + r
  cost_asked t r m is waits =
      let there : arc_cost k (Task t) (Request r) ≡ 0 = ap (λ b. or_else 0 (option_map (λ (v : ℕ × ℕ). v.1) (when b (1, 0)))) waits in
      omega (arith, cost_along t (ByRequest r m) is, there)

  cost_own : (t : ℕ) (s : SpecReg) (job : JobReg) → live_spec k t ≡ Some s → job_of k s.job ≡ Some job → is_held k t ≡ false → cost t ≤ own_cost tally claim (entry_of k t s job) s.prefer (lookup nat_cmp t claim.moves)
  cost_own t s job live known free = along (lookup nat_cmp t claim.moves) refl
    where
      along : (o : Option Way) → lookup nat_cmp t claim.moves ≡ o → cost t ≤ own_cost tally claim (entry_of k t s job) s.prefer o
      along None e =
          let rests : way t ≡ rest k t = ap (or_else (rest k t)) e in
          let at_job : all_at_jobs k t ≡ ToJob s.job = ap (λ o. ToJob (or_else 0 (option_map (λ (x : SpecReg). x.job) o))) live in
          omega (arith, cost_at_job t s job live known (rests ∙ free_rests t free ∙ at_job))
      along (Some (ToJob j)) e = let l = move_left t j e in both_ways (ap (passes (λ (x : ℕ). true)) l.held) free
      along (Some (ByRequest r m)) e = omega (arith, cost_asked t r m (ap (or_else (rest k t)) e) (move_asked t r m e).waits)
      along (Some (Straight m)) e =
          let g = move_straight t m e in
          let one : g.spec ≡ s = some_is (sym g.live ∙ live) in
          let credit : or_else 0 (lookup nat_cmp m s.prefer) ≡ g.credit = ap (or_else 0) (ap (λ (x : SpecReg). lookup nat_cmp m x.prefer) (sym one) ∙ g.preferred) in
          let request : g.spec.request ≡ s.request = ap (λ (x : SpecReg). x.request) one in
          let load = g.load in
          let same : g.spec.request + load_of k m - g.credit + rise_of claim m ≡ straight_cost tally claim s.request (m, or_else 0 (lookup nat_cmp m s.prefer)) = λ i. request i + sym load i - sym credit i + rise_of claim m in
          omega (arith, cost_straight t m (ap (or_else (rest k t)) e) g, same)

  -- the prices

  pub are_fair : AreFair k way (price_of k claim) (offer_of claim)
  are_fair = record {
    load = λ m state e. omega arith;
    free = λ m state e below. let f = (fair_machine m state e).slots in let total = slot_count k claim.moves can_be are_moves m in let none = f.free (omega (arith, below, total, counted.arriving m, counted.leaving m)) in omega (arith, none);
    more = more;
    less = λ r m v node arc some. let a = asked_move r m (let number = asked_count k claim.moves can_be are_moves r m in omega (arith, some, number)) in a.1.price;
    gone = gone;
    stays = stays;
    left = left;
    asks = λ t r j m job waits is live known. way_is t (ByRequest r m) _ is (λ _ rests. never_asks t r m _ rests) (λ e. (move_asked t r m e).pays j job live known);
    goes = goes;
    prefers = prefers;
  }
    where
      more : (r m : ℕ) (v : ℕ × ℕ) → IsTrue (is_node k (Request r)) → room_arc k r m ≡ Some v → count_by (goes_by r m) (ways_of k way) < v.0 → offer_of claim r ≤ price_of k claim m
      more r m v node arc below =
          let room = room_from k r m v arc in
          let f = fair_machine m room.state room.opened in
          elim (lookup nat_cmp r claim.offers) as (λ o. lookup nat_cmp r claim.offers ≡ o → or_else 0 o ≤ price_of k claim m) [
            | None ↦ λ _. omega arith
            | Some q ↦ λ e.
                let fair = all_at (IsFairOffer claim counts m (open_of k m room.state)) claim.offers f.more r q e in
                let left = spare_left k m room.state room.opened room.within in
                let number = asked_count k claim.moves can_be are_moves r m in
                let capacity = ap (λ (x : ℕ × ℕ). x.0) room.value in
                fair (record { spare = room.state.nic - load_of k m; left = left; room = room.room; few = omega (arith, below, number, capacity, counted.pairs r m) })
          ] refl

      gone : (t m j : ℕ) (job : JobReg) → holder_of k t ≡ Some m → way t ≡ ToJob j → job_of k j ≡ Some job → job.preempt ≤ price_of k claim m - load_of k m
      gone t m j job held is known = way_is t (ToJob j) _ is
          (λ _ rests. job_straight (sym rests ∙ held_rests t m held))
          (λ e. let l = move_left t j e in let same : l.machine ≡ m = some_is (sym l.held ∙ held) in let rise = ap (rise_of claim) same in let cheap = l.cheap job known in omega (arith, rise, cheap))

      stays : (t m j p : ℕ) (job : JobReg) → holder_of k t ≡ Some m → way t ≡ Straight p → IsTrue (is_live_of k j t) → job_of k j ≡ Some job → price_of k claim m - load_of k m ≤ job.preempt
      stays t m j p job held is live known = way_is t (Straight p) _ is
          (λ e _.
          let s = passes_some (λ (s : SpecReg). s.job == j) (live_spec k t) live in
          let own = eqb-true s.0.job j s.2 in
          let x = in_tally k t s.0 job s.1 (ap (job_of k) own ∙ known) in
          let fair = (fair_task t (entry_of k t s.0 job) x).rests e in
          let here : rise_of claim m ≤ cond (is_held k t) job.preempt job.wait = subst (IsFairAtRest claim (entry_of k t s.0 job)) held fair in
          let is_held_here : is_held k t ≡ true = ap (passes (λ (x : ℕ). true)) held in
          let price : cond (is_held k t) job.preempt job.wait ≡ job.preempt = ap (λ b. cond b job.preempt job.wait) is_held_here in
          omega (arith, here, price))
          (λ e. both_ways (ap (passes (λ (x : ℕ). true)) held) (move_straight t p e).free)

      goes : (t r j m : ℕ) (job : JobReg) → IsTrue (waits_for k r t) → way t ≡ Straight m → IsTrue (is_live_of k j t) → job_of k j ≡ Some job → cost t ≤ min job.wait (offer_of claim r + r)
      goes t r j m job waits is live known = way_is t (Straight m) _ is
          (λ _ rests. job_straight (sym (free_rests t (not_held k t r waits)) ∙ rests))
          (λ e.
          let g = move_straight t m e in
          let s = passes_some (λ (s : SpecReg). s.job == j) (live_spec k t) live in
          let one : g.spec ≡ s.0 = some_is (sym g.live ∙ s.1) in
          let own : g.spec.job ≡ j = ap (λ (x : SpecReg). x.job) one ∙ eqb-true s.0.job j s.2 in
          let q = waits_spec k t r waits in
          let other : g.spec ≡ q.0 = some_is (sym g.live ∙ q.1) in
          let request : g.spec.request ≡ r = ap (λ (x : SpecReg). x.request) other ∙ q.2 in
          let paid : offer_of claim g.spec.request + g.spec.request ≡ offer_of claim r + r = ap (λ x. offer_of claim x + x) request in
          let below = g.below_waiting job (ap (job_of k) own ∙ known) in
          let pays = g.below_request in
          omega (arith, cost_straight t m is g, below, pays, paid))

      left : (t r j : ℕ) (job : JobReg) → IsTrue (waits_for k r t) → way t ≡ ToJob j → job_of k j ≡ Some job → job.wait ≤ offer_of claim r + r
      left t r j job waits is known = way_is t (ToJob j) _ is
          (λ e rests.
          let s = waits_spec k t r waits in
          let free = not_held k t r waits in
          let at_job : all_at_jobs k t ≡ ToJob j = sym (free_rests t free) ∙ rests in
          let own_way : all_at_jobs k t ≡ ToJob s.0.job = ap (λ o. ToJob (or_else 0 (option_map (λ (x : SpecReg). x.job) o))) s.1 in
          let same : ToJob s.0.job ≡ ToJob j = sym own_way ∙ at_job in
          let own : s.0.job ≡ j = cc in
          let x = in_tally k t s.0 job s.1 (ap (job_of k) own ∙ known) in
          let fair = (fair_task t (entry_of k t s.0 job) x).rests e in
          let none : holder_of k t ≡ None = no_holder t free in
          let here : cond (is_held k t) job.preempt job.wait ≤ offer_of claim s.0.request + s.0.request = subst (IsFairAtRest claim (entry_of k t s.0 job)) none fair in
          let price : cond (is_held k t) job.preempt job.wait ≡ job.wait = ap (λ b. cond b job.preempt job.wait) free in
          let pays : offer_of claim s.0.request + s.0.request ≡ offer_of claim r + r = ap (λ q. offer_of claim q + q) s.2 in
          omega (arith, here, price, pays))
          (λ e. let l = move_left t j e in both_ways (ap (passes (λ (x : ℕ). true)) l.held) (not_held k t r waits))

      prefers : (t m : ℕ) (s : SpecReg) (v : ℕ × ℕ) → IsTrue (waits_for k s.request t) → live_spec k t ≡ Some s → preferred_arc k s m ≡ Some v → cost t ≤ v.1 + (price_of k claim m - load_of k m)
      prefers t m s v waits live arc =
          let free = not_held k t s.request waits in
          let job = live_job k t s live in
          let x = in_tally k t s job.0 live job.1 in
          let found = came_from (λ credit. option_map (λ (a : ℕ × ℕ). (1, a.1 - credit)) (room_arc k s.request m)) (lookup nat_cmp m s.prefer) v arc in
          let a = mapped_from (λ (a : ℕ × ℕ). (1, a.1 - found.0)) (room_arc k s.request m) v found.2 in
          let room = room_from k s.request m a.0 a.1 in
          let fair = (fair_task t (entry_of k t s job.0) x).preferred (no_holder t free) (some_preferred s.prefer m found.0 found.1) s live in
          let own = own_cost tally claim (entry_of k t s job.0) s.prefer (lookup nat_cmp t claim.moves) in
          let here = all_at (IsNoCheaper tally claim s.request own) s.prefer fair m found.0 found.1 in
          let open_there = is_for.machines m ∙ open_in_tally k m room.state room.opened in
          let no_cheaper = here (record { machine = open_of k m room.state; open_there = open_there; spare = room.state.nic - load_of k m; left = spare_left k m room.state room.opened room.within; room = room.room }) in
          let load = load_is m room.state room.opened in
          let there : straight_cost tally claim s.request (m, found.0) ≡ s.request + load_of k m - found.0 + rise_of claim m = λ i. s.request + load i - found.0 + rise_of claim m in
          let value : a.0.1 - found.0 ≡ v.1 = ap (λ (y : ℕ × ℕ). y.1) a.2 in
          let full : s.request + load_of k m ≡ a.0.1 = ap (λ (y : ℕ × ℕ). y.1) room.value in
          let less : s.request + load_of k m - found.0 ≡ v.1 = ap (λ n. n - found.0) full ∙ value in
          omega (arith, cost_own t s job.0 live job.1 free, no_cheaper, there, less)

  pub go_in_turn : InTurn k way
  go_in_turn t u r m n live_t live_u is_t is_u less =
      way_is t (ByRequest r m) _ is_t (λ _ rests. never_asks t r m _ rests) (λ e.
      way_is u (ByRequest r n) _ is_u (λ _ rests. never_asks u r n _ rests) (λ f.
      in_turn (λ q. None) claim.moves tested.turns rises t u r m n (entry_member nat_cmp nat_same t (ByRequest r m) claim.moves e) (entry_member nat_cmp nat_same u (ByRequest r n) claim.moves f) less))
