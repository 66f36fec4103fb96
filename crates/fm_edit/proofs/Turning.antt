-- The nodes that are touched may come or go.
use Rattle.std.proofs.Common.{◌≡◌, ◌∙◌, ◌⊎◌, ℕ, true, false, List, Option, Some, None, refl, sym, ap, subst, inl, inr}
use Rattle.std.specs.Prelude.{option_map}
use Rattle.fm_records.specs.declared.records.SpecReg.{SpecReg}
use Rattle.fm_records.specs.Table.{Table}
use Rattle.fm_records.specs.Facts.{spec_of, holder_of}
use Rattle.fm_net.specs.declared.node.Node.{Node}
use Rattle.fm_net.specs.declared.node.Node.TheVariants.{Unscheduled, Request, Machine}
use Rattle.fm_policy.specs.Changes.{Keys}
use Rattle.fm_edit.specs.declared.affected.Touched.{Touched}
use Rattle.fm_edit.specs.Dirty.{AreDirtyTasks, turned_in, dirty_task, job_of_task, request_of_task, EitherSays, MayTurn}
use Rattle.fm_edit.specs.CacheModel.{Sight, sight_of}
use Rattle.fm_edit.specs.inner.CachedNodes.{job_node_in, request_node_in, holder_node_in}
use Rattle.fm_edit.specs.inner.Affected.{has_touched, IsNodeOf, IsTaskEnd, IsEndOf, TouchesOnlyDirty}
use Rattle.fm_edit.proofs.Completed.{both_ways}

module _ (k after : Table) (keys : Keys) (ds : List ℕ) (are : AreDirtyTasks k after keys ds) where
  abbrev May : Node → Type 0
  May n = MayTurn k after keys (turned_in k after keys) n

  abbrev Said : (Table → ℕ → Option ℕ) → ℕ → ℕ → Type 0
  Said f t x = EitherSays k after keys (turned_in k after keys) f t x

  -- of one of the two tables
  module _ (l : Table) (says : (f : Table → ℕ → Option ℕ) (t x : ℕ) → f l t ≡ Some x → Said f t x) (t : ℕ) (dirty : dirty_task k after keys (turned_in k after keys) t ≡ true) where
    job_may : (n : Node) → job_node_in (sight_of l) t ≡ Some n → May n
    job_may n e =
        elim (spec_of l t) as (λ o. spec_of l t ≡ o → option_map (λ (s : SpecReg). Unscheduled s.job) o ≡ Some n → May n) [
          | None ↦ λ _ g. absurd (let wrong : ⊥ = cc in wrong)
          | Some s ↦ λ f g. let is : Unscheduled s.job ≡ n = cc in subst May is (inr (t, dirty, says job_of_task t s.job (ap (option_map (λ (r : SpecReg). r.job)) f)))
        ] refl e

    request_may : (n : Node) → request_node_in (sight_of l) t ≡ Some n → May n
    request_may n e =
        elim (spec_of l t) as (λ o. spec_of l t ≡ o → option_map (λ (s : SpecReg). Request s.request) o ≡ Some n → May n) [
          | None ↦ λ _ g. absurd (let wrong : ⊥ = cc in wrong)
          | Some s ↦ λ f g. let is : Request s.request ≡ n = cc in subst May is (t, dirty, says request_of_task t s.request (ap (option_map (λ (r : SpecReg). r.request)) f))
        ] refl e

    holder_may : (n : Node) → holder_node_in (sight_of l) t ≡ Some n → May n
    holder_may n e =
        elim (holder_of l t) as (λ o. holder_of l t ≡ o → option_map Machine o ≡ Some n → May n) [
          | None ↦ λ _ g. absurd (let wrong : ⊥ = cc in wrong)
          | Some m ↦ λ f g. let is : Machine m ≡ n = cc in subst May is (inr (t, dirty, says holder_of t m f))
        ] refl e

    end_may : (n : Node) → IsTaskEnd (sight_of l) t n → May n
    end_may n h = elim h [
      | inl is ↦ subst May is dirty
      | inr other ↦ elim other [
        | inl job ↦ job_may n job
        | inr last ↦ elim last [ inl request ↦ request_may n request | inr holder ↦ holder_may n holder ]
      ]
    ]

  ends_may : (l : Table) → ((f : Table → ℕ → Option ℕ) (t x : ℕ) → f l t ≡ Some x → Said f t x) → (n : Node) → IsEndOf (sight_of l) ds n → May n
  ends_may l says n h = end_may l says h.0 (sym (are.each h.0) ∙ h.1) n h.2

  module _ (s0 s1 : Sight) (e0 : s0 ≡ sight_of k) (e1 : s1 ≡ sight_of after) (t0 t1 t2 t3 t4 t5 : Touched) where
    pub only_turning : ((n : Node) → has_touched t0 n ≡ false)
        → ((n : Node) → has_touched t1 n ≡ true → (has_touched t0 n ≡ true) ⊎ IsNodeOf Unscheduled keys.jobs n)
        → ((n : Node) → has_touched t2 n ≡ true → (has_touched t1 n ≡ true) ⊎ IsNodeOf Machine keys.machines n)
        → ((n : Node) → has_touched t3 n ≡ true → (has_touched t2 n ≡ true) ⊎ IsEndOf s0 ds n)
        → ((n : Node) → has_touched t4 n ≡ true → (has_touched t3 n ≡ true) ⊎ IsEndOf s1 ds n)
        → ((n : Node) → has_touched t5 n ≡ true → has_touched t4 n ≡ true)
        → TouchesOnlyDirty k after keys t5
    only_turning none jobs machines before later same n h =
        elim (later n (same n h)) [
          | inr ends ↦ ends_may after (λ f t x e. inr e) n (subst (λ (s : Sight). IsEndOf s ds n) e1 ends)
          | inl in3 ↦ elim (before n in3) [
            | inr ends ↦ ends_may k (λ f t x e. inl e) n (subst (λ (s : Sight). IsEndOf s ds n) e0 ends)
            | inl in2 ↦ elim (machines n in2) [
              | inr machine ↦ subst May machine.2 (inl machine.1)
              | inl in1 ↦ elim (jobs n in1) [
                | inr job ↦ subst May job.2 (inl job.1)
                | inl in0 ↦ both_ways (has_touched t0 n) in0 (none n)
              ]
            ]
          ]
        ]
