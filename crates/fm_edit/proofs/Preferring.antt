-- The lists of the machines that a task prefers, one entry further.
use Rattle.std.proofs.Common.{◌≡◌, ◌∙◌, ℕ, ◌+◌, ◌<◌, Bool, true, false, cond, List, length, get_or, take, refl, sym, ap, subst, suc, add-one}
use Rattle.std.specs.Prelude.{◌&&◌, ◌||◌, not, is_some}
use Rattle.std.specs.Ordering.{nat_cmp, is_eq, ordering_then}
use Rattle.std.specs.declared.cmp.Ordering.{Ordering}
use Rattle.std.specs.declared.cmp.Ordering.TheVariants.{Less, Equal, Greater}
use Rattle.std.specs.Cmp.{Equal-is}
use Rattle.fm_lattice.specs.laws.ChainLaws.{nat_same}
use Rattle.fm_lattice.specs.Maps.{lookup}
use Rattle.fm_records.specs.Options.{passes}
use Rattle.fm_records.specs.laws.PreferenceLaws.{one_more_preferred}
use Rattle.fm_edit.specs.declared.record_cache.CachedTask.{CachedTask}
use Rattle.fm_edit.specs.CacheModel.{Sight, cached_live, prefers_in}
use Rattle.fm_edit.specs.inner.CachedNodes.{IsSeenTask}
use Rattle.fm_edit.specs.TaskIndex.{preferred_cmp}
use Rattle.fm_edit.proofs.Ranges.{swapped}

either : {P : Type 0} (a b : Bool) → (a || b) ≡ true → (a ≡ true → P) → (b ≡ true → P) → P
either true b h p q = p refl
either false b h p q = q h

-- what holds of the machines of the first entries and of the next one's
pub among_more : (es : List (ℕ × ℕ)) (i : ℕ) (e : ℕ × ℕ) → i < length es → e ≡ get_or es i e → (m : ℕ) (P : ℕ → Type 0) → (is_some (lookup nat_cmp m (take i es)) ≡ true → P m) → P e.0 → is_some (lookup nat_cmp m (take (suc i) es)) ≡ true → P m
among_more es i e here at m P before next h =
    either (is_eq (nat_cmp m e.0)) (is_some (lookup nat_cmp m (take i es))) (sym (one_more_preferred m es i e here at) ∙ h)
    (λ is. subst P (sym (nat_same m e.0 ((Equal-is (nat_cmp m e.0)).0 is))) next) before

pub both_equal : (o p : Ordering) → is_eq (ordering_then o p) ≡ (is_eq o && is_eq p)
both_equal Less p = refl
both_equal Equal p = refl
both_equal Greater p = refl

put : (b e f t old : Bool) → cond (e && t) b (cond (t && f) b old) ≡ cond (t && (e || f)) b old
put b true f true old = refl
put b true f false old = refl
put b false f t old = refl

pub one_more : (b : Bool) (es : List (ℕ × ℕ)) (i : ℕ) (e : ℕ × ℕ) → i < length es → e ≡ get_or es i e → (m t task : ℕ) (first old new : Bool)
    → old ≡ cond (is_eq (nat_cmp task t) && is_some (lookup nat_cmp m (take i es))) b first
    → new ≡ cond (is_eq (preferred_cmp (e.0, task) (m, t))) b old
    → new ≡ cond (is_eq (nat_cmp task t) && is_some (lookup nat_cmp m (take (i + 1) es))) b first
one_more b es i e here at m t task first old new so_far step =
    let among = is_some (lookup nat_cmp m (take i es)) in
    step
    ∙ (λ j. cond (both_equal (nat_cmp e.0 m) (nat_cmp task t) j) b (so_far j))
    ∙ put b (is_eq (nat_cmp e.0 m)) among (is_eq (nat_cmp task t)) first
    ∙ ap (λ x. cond (is_eq (nat_cmp task t) && (x || among)) b first) (swapped e.0 m)
    ∙ ap (λ x. cond (is_eq (nat_cmp task t) && x) b first) (sym (one_more_preferred m es i e here at) ∙ ap (λ n. is_some (lookup nat_cmp m (take n es))) (sym (add-one i)))

where_equal : (e f g : Bool) → (e ≡ true → f ≡ g) → (e && f) ≡ (e && g)
where_equal true f g same = same refl
where_equal false f g same = refl

-- a task in the lists of the machines that it prefers, by what was seen of it
pub listed_as_seen : (b : Bool) (s : Sight) (task : ℕ) (x : CachedTask) → IsSeenTask s task x → (m t : ℕ) (among old new : Bool)
    → among ≡ (passes (λ r. is_some (lookup nat_cmp m r.prefer)) x.live && not (passes (λ h. true) x.holder))
    → new ≡ cond (is_eq (nat_cmp task t) && among) b old
    → new ≡ cond (is_eq (nat_cmp task t) && prefers_in s m t) b old
listed_as_seen b s task x is m t among old new by_fields step =
    step
    ∙ ap (λ y. cond y b old)
    (where_equal (is_eq (nat_cmp task t)) among (prefers_in s m t)
    (λ j. by_fields
    ∙ ap (λ l. passes (λ r. is_some (lookup nat_cmp m r.prefer)) l && not (passes (λ h. true) x.holder)) is.live
    ∙ ap (λ o. passes (λ r. is_some (lookup nat_cmp m r.prefer)) (cached_live s task) && not (passes (λ h. true) o)) is.holder
    ∙ ap (λ q. prefers_in s m q) (nat_same task t ((Equal-is (nat_cmp task t)).0 j))))
