-- Where prices are fair, no task has a cheaper way.
use Rattle.std.proofs.Common.{◌≡◌, ◌∙◌, ap, sym, refl, ℕ, ◌+◌, ◌-◌, ◌≤◌, Bool, true, false, cond, not, ◌==◌, ◌&&◌, Some, None, IsTrue, eq-eqb, eqb-true, arith}
use Rattle.fm_records.specs.declared.records.SpecReg.{SpecReg}
use Rattle.fm_records.specs.declared.records.JobReg.{JobReg}
use Rattle.fm_records.proofs.LookupLaws.{both_true, when_is_true}
use Rattle.fm_records.proofs.RangeLaws.{when_value}
use Rattle.fm_records.specs.Options.{when, and_then, passes}
use Rattle.fm_records.specs.Table.{Table}
use Rattle.fm_records.specs.Facts.{job_of, live_spec, is_live, holder_of, holds, load_of}
use Rattle.fm_net.specs.declared.node.Node.{Node}
use Rattle.fm_net.specs.declared.node.Node.TheVariants.{Sink, Unscheduled, Request, Machine, Task}
use Rattle.fm_net.specs.Network.{is_held, is_live_of, waits_for, preferred_arc, arc_of}
use Rattle.fm_net.proofs.NetworkLaws.{passes_some, mapped_from, where_true, came_from, ends_of}
use Rattle.fm_paths.specs.TaskPaths.{Way, ToJob, ByRequest, Straight, MayGo}
use Rattle.fm_paths.specs.Prices.{first_node, cost_beyond, cost_from, AreCheapest, AreFair}
use Rattle.fm_paths.proofs.Stands.{job_arc}
use Rattle.fm_paths.proofs.Cheapest.{own_cost}

no_some : {A P : Type 0} {a : A} → None ≡ Some a → P
no_some e = absurd (let no : ⊥ = cc in no)

both_ways : {P : Type 0} (b : Bool) → b ≡ true → not b ≡ true → P
both_ways true e f = absurd (let no : ⊥ = cc in no)
both_ways false e f = absurd (let no : ⊥ = cc in no)

module _ (k : Table) where
  -- a live task has one job and, where it waits, one request
  pub one_job : (t i j : ℕ) → is_live_of k i t ≡ true → is_live_of k j t ≡ true → i ≡ j
  one_job t i j a b =
      let p = passes_some (λ (s : SpecReg). s.job == i) (live_spec k t) a in
      let q = passes_some (λ (s : SpecReg). s.job == j) (live_spec k t) b in
      let both : Some p.0 ≡ Some q.0 = sym p.1 ∙ q.1 in
      let same : p.0 ≡ q.0 = cc in
      sym (eqb-true p.0.job i p.2) ∙ ap (λ (s : SpecReg). s.job) same ∙ eqb-true q.0.job j q.2

  pub waits_spec : (t r : ℕ) → waits_for k r t ≡ true → (s : SpecReg) × (live_spec k t ≡ Some s) × (s.request ≡ r)
  waits_spec t r w =
      let p = passes_some (λ (s : SpecReg). s.request == r) (live_spec k t) (both_true _ _ w).0 in
      (p.0, p.1, eqb-true p.0.request r p.2)

  one_request : (t q r : ℕ) → waits_for k q t ≡ true → waits_for k r t ≡ true → q ≡ r
  one_request t q r a b =
      let p = waits_spec t q a in
      let s = waits_spec t r b in
      let both : Some p.0 ≡ Some s.0 = sym p.1 ∙ s.1 in
      let same : p.0 ≡ s.0 = cc in
      sym p.2 ∙ ap (λ (x : SpecReg). x.request) same ∙ s.2

  pub waits_of : (t : ℕ) (s : SpecReg) → live_spec k t ≡ Some s → is_held k t ≡ false → waits_for k s.request t ≡ true
  waits_of t s e h = (λ i. passes (λ (x : SpecReg). x.request == s.request) (e i) && not (h i)) ∙ ap (λ b. b && true) (eq-eqb s.request s.request refl)

  pub not_held : (t r : ℕ) → waits_for k r t ≡ true → is_held k t ≡ false
  not_held t r w = elim (is_held k t) as (λ b. is_held k t ≡ b → b ≡ false) [ true ↦ λ h. both_ways (is_held k t) h (both_true _ _ w).1 | false ↦ λ _. refl ] refl

  held_by : (t m : ℕ) → holds k m t ≡ true → holder_of k t ≡ Some m
  held_by t m e = let h = passes_some (λ (x : ℕ). x == m) (holder_of k t) e in h.1 ∙ ap (λ (x : ℕ). Some x) (eqb-true h.0 m h.2)

  one_holder : (t m p : ℕ) → holder_of k t ≡ Some m → holder_of k t ≡ Some p → m ≡ p
  one_holder t m p a b = let both : Some m ≡ Some p = sym a ∙ b in cc

  -- the arc of a held task to a machine
  held_arc : (t m : ℕ) (v : ℕ × ℕ) → is_held k t ≡ true → arc_of k (Task t) (Machine m) ≡ Some v → (holder_of k t ≡ Some m) × (0 ≡ v.1)
  held_arc t m v held arc =
      let there : when (holds k m t) (1, 0) ≡ Some v = sym (ap (λ b. cond b (when (holds k m t) (1, 0)) (and_then (λ s. preferred_arc k s m) (live_spec k t))) held) ∙ arc in
      (held_by t m (when_is_true _ _ v there), ap (λ (w : ℕ × ℕ). w.1) (when_value (holds k m t) (1, 0) v there))

  -- and of one that waits
  free_arc : (t m : ℕ) (v : ℕ × ℕ) → is_held k t ≡ false → arc_of k (Task t) (Machine m) ≡ Some v → (s : SpecReg) × (live_spec k t ≡ Some s) × (preferred_arc k s m ≡ Some v)
  free_arc t m v held arc =
      let there : and_then (λ s. preferred_arc k s m) (live_spec k t) ≡ Some v = sym (ap (λ b. cond b (when (holds k m t) (1, 0)) (and_then (λ s. preferred_arc k s m) (live_spec k t))) held) ∙ arc in
      came_from (λ s. preferred_arc k s m) (live_spec k t) v there

  job_cost : (t j : ℕ) (v : ℕ × ℕ) → arc_of k (Task t) (Unscheduled j) ≡ Some v → (job : JobReg) × (job_of k j ≡ Some job) × (cond (is_held k t) job.preempt job.wait ≡ v.1) × (is_live_of k j t ≡ true)
  job_cost t j v arc =
      let both = where_true (is_live_of k j t) _ v arc in
      let job = mapped_from _ (job_of k j) v both.1 in
      (job.0, job.1, ap (λ (w : ℕ × ℕ). w.1) job.2, both.0)

module _ (k : Table) (way : ℕ → Way) (price offer : ℕ → ℕ) (may : (t : ℕ) → IsTrue (is_live k t) → MayGo k t (way t)) (fair : AreFair k way price offer) where
  abbrev costs : ℕ → ℕ
  costs t = cost_from k price offer way (Task t)

  abbrev Has : ℕ → Node → ℕ × ℕ → Type 0
  Has t to v = arc_of k (Task t) to ≡ Some v

  own : (t : ℕ) (w : Way) (to : Node) (v : ℕ × ℕ) → way t ≡ w → first_node w ≡ to → Has t to v → costs t ≡ v.1 + cost_beyond k price offer to
  own t w to v is first arc = own_cost k way price offer t to v arc (ap first_node is ∙ first)

  -- a held task goes to its job or stays; one that waits is left, asks or goes

  held_job : (t m j : ℕ) (v : ℕ × ℕ) → holder_of k t ≡ Some m → is_held k t ≡ true → Has t (Unscheduled j) v → (w : Way) → way t ≡ w → MayGo k t w → costs t ≤ v.1
  held_job t m j v holder held arc (ToJob i) is go =
      let job = job_cost k t j v arc in
      let same = one_job k t i j go job.3 in
      omega (arith, own t (ToJob i) (Unscheduled j) v is (ap Unscheduled same) arc)
  held_job t m j v holder held arc (ByRequest r p) is go = both_ways (is_held k t) held (both_true _ _ go.0).1
  held_job t m j v holder held arc (Straight p) is go =
      let job = job_cost k t j v arc in
      let price_is : job.0.preempt ≡ v.1 = ap (λ b. cond b job.0.preempt job.0.wait) (sym held) ∙ job.2 in
      let there = held_arc k t p go.0 held go.1 in
      let same = one_holder k t m p holder there.0 in
      let gap : price m - load_of k m ≡ price p - load_of k p = ap (λ x. price x - load_of k x) same in
      omega (arith, own t (Straight p) (Machine p) go.0 is refl go.1, fair.stays t m j p job.0 holder is job.3 job.1)

  held_machine : (t m : ℕ) (v : ℕ × ℕ) → holder_of k t ≡ Some m → is_held k t ≡ true → Has t (Machine m) v → (w : Way) → way t ≡ w → MayGo k t w → costs t ≤ v.1 + (price m - load_of k m)
  held_machine t m v holder held arc (ToJob i) is go =
      let a = job_arc k t i go in
      let job = job_cost k t i a.0 a.1 in
      let price_is : job.0.preempt ≡ a.0.1 = ap (λ b. cond b job.0.preempt job.0.wait) (sym held) ∙ job.2 in
      omega (arith, own t (ToJob i) (Unscheduled i) a.0 is refl a.1, fair.gone t m i job.0 holder is job.1)
  held_machine t m v holder held arc (ByRequest r p) is go = both_ways (is_held k t) held (both_true _ _ go.0).1
  held_machine t m v holder held arc (Straight p) is go =
      let there = held_arc k t p go.0 held go.1 in
      let same = one_holder k t p m there.0 holder in
      omega (arith, own t (Straight p) (Machine m) v is (ap Machine same) arc)

  ask_cost : (t r m : ℕ) → way t ≡ ByRequest r m → waits_for k r t ≡ true → costs t ≡ offer r + r
  ask_cost t r m is w = omega (arith, own t (ByRequest r m) (Request r) (1, 0) is refl (rw w refl))

  left_cost : (t i : ℕ) → way t ≡ ToJob i → is_held k t ≡ false → is_live_of k i t ≡ true → (job : JobReg) × (job_of k i ≡ Some job) × (costs t ≡ job.wait)
  left_cost t i is held go =
      let a = job_arc k t i go in
      let job = job_cost k t i a.0 a.1 in
      let price_is : job.0.wait ≡ a.0.1 = ap (λ b. cond b job.0.preempt job.0.wait) (sym held) ∙ job.2 in
      let cost = own t (ToJob i) (Unscheduled i) a.0 is refl a.1 in
      (job.0, job.1, omega arith)

  free_job : (t r j : ℕ) (v : ℕ × ℕ) → waits_for k r t ≡ true → is_held k t ≡ false → Has t (Unscheduled j) v → (w : Way) → way t ≡ w → MayGo k t w → costs t ≤ v.1
  free_job t r j v waits held arc (ToJob i) is go =
      let job = job_cost k t j v arc in
      let same = one_job k t i j go job.3 in
      omega (arith, own t (ToJob i) (Unscheduled j) v is (ap Unscheduled same) arc)
  free_job t r j v waits held arc (ByRequest q p) is go =
      let job = job_cost k t j v arc in
      let price_is : job.0.wait ≡ v.1 = ap (λ b. cond b job.0.preempt job.0.wait) (sym held) ∙ job.2 in
      omega (arith, ask_cost t q p is go.0, fair.asks t q j p job.0 go.0 is job.3 job.1)
  free_job t r j v waits held arc (Straight p) is go =
      let job = job_cost k t j v arc in
      let price_is : job.0.wait ≡ v.1 = ap (λ b. cond b job.0.preempt job.0.wait) (sym held) ∙ job.2 in
      let h = fair.goes t r j p job.0 waits is job.3 job.1 in
      omega arith

  free_request : (t r : ℕ) → waits_for k r t ≡ true → (w : Way) → way t ≡ w → MayGo k t w → costs t ≤ offer r + r
  free_request t r waits (ToJob i) is go =
      let c = left_cost t i is (not_held k t r waits) go in
      omega (arith, fair.left t r i c.0 waits is c.1, c.2)
  free_request t r waits (ByRequest q p) is go =
      let same = one_request k t q r go.0 waits in
      let e : offer q + q ≡ offer r + r = ap (λ x. offer x + x) same in
      omega (arith, ask_cost t q p is go.0)
  free_request t r waits (Straight p) is go =
      let s = waits_spec k t r waits in
      let own_job : is_live_of k s.0.job t ≡ true = rw s.1 (eq-eqb s.0.job s.0.job refl) in
      let a = job_arc k t s.0.job own_job in
      let job = job_cost k t s.0.job a.0 a.1 in
      let h = fair.goes t r s.0.job p job.0 waits is own_job job.1 in
      omega arith

  none_cheaper : (t : ℕ) (to : Node) (v : ℕ × ℕ) → Has t to v → costs t ≤ v.1 + cost_beyond k price offer to
  none_cheaper t Sink v arc = no_some arc
  none_cheaper t (Task u) v arc = no_some arc
  none_cheaper t (Request r) v arc =
      let waits = when_is_true (waits_for k r t) (1, 0) v arc in
      omega (arith, free_request t r waits (way t) refl (may t (ends_of k (Task t) (Request r) v arc).from))
  none_cheaper t (Unscheduled j) v arc =
      let live = (ends_of k (Task t) (Unscheduled j) v arc).from in
      let least : costs t ≤ v.1 = elim (is_held k t) as (λ b. is_held k t ≡ b → costs t ≤ v.1) [
        | true ↦ λ held. let m = passes_some (λ (x : ℕ). true) (holder_of k t) held in held_job t m.0 j v m.1 held arc (way t) refl (may t live)
        | false ↦ λ held. let s = passes_some (λ (x : SpecReg). true) (live_spec k t) live in free_job t s.0.request j v (waits_of k t s.0 s.1 held) held arc (way t) refl (may t live)
      ] refl in
      omega arith
  none_cheaper t (Machine m) v arc =
      let live = (ends_of k (Task t) (Machine m) v arc).from in
      elim (is_held k t) as (λ b. is_held k t ≡ b → costs t ≤ v.1 + (price m - load_of k m)) [
        | true ↦ λ held. held_machine t m v (held_arc k t m v held arc).0 held arc (way t) refl (may t live)
        | false ↦ λ held. let s = free_arc k t m v held arc in fair.prefers t m s.0 v (waits_of k t s.0 s.1 held) s.1 s.2
      ] refl

  pub fair_is_cheapest : AreCheapest k way price offer
  fair_is_cheapest = record { load = fair.load; free = fair.free; more = fair.more; less = fair.less; none_cheaper = none_cheaper }
