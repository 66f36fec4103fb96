-- The orders of records are total, and only a record and itself are equal in them.
use Rattle.std.specs.Prelude.{◌≡◌, ℕ, Bool, true, false, [], ◌∷◌, refl}
use Rattle.std.specs.Ordering.{nat_cmp, bool_cmp, ordering_then, on}
use Rattle.std.specs.Cmp.{IsTotalOrder, nat_cmp_total, bool_cmp_total}
use Rattle.std.specs.declared.cmp.Ordering.{Ordering}
use Rattle.std.specs.declared.cmp.Ordering.TheVariants.{Less, Equal, Greater}
use Rattle.std.proofs.Common.{sym, subst}
use Rattle.std.proofs.lemmas.Cmp.{then_total, on_total}
use Rattle.fm_lattice.specs.Chains.{TellsApart}
use Rattle.fm_lattice.specs.laws.ChainLaws.{nat_same}
use Rattle.fm_records.specs.declared.ops.Phase.{Phase}
use Rattle.fm_records.specs.declared.ops.Phase.TheVariants.{Pending, Running, Done}
use Rattle.fm_records.specs.declared.records.JobReg.{JobReg}
use Rattle.fm_records.specs.declared.records.SpecReg.{SpecReg}
use Rattle.fm_records.specs.declared.records.Progress.{Progress}
use Rattle.fm_records.specs.declared.records.MachineReg.{MachineReg}
use Rattle.fm_records.specs.declared.records.Report.{Report}
use Rattle.fm_records.specs.declared.records.Spot.{Spot}
use Rattle.fm_records.specs.Preferences.{credit_cmp, preferences_cmp}
use Rattle.fm_records.specs.laws.PreferenceLaws.{total_preferences}
use Rattle.fm_records.specs.Orders.{phase_place, phase_cmp, job_cmp, spec_cmp, progress_cmp, machine_cmp, report_cmp, spot_cmp, attempt_cmp}

pub total_job : IsTotalOrder job_cmp
total_job = then_total (on_total (λ (r : JobReg). r.version) nat_cmp_total) (then_total (on_total (λ (r : JobReg). r.writer) nat_cmp_total) (then_total (on_total (λ (r : JobReg). r.withdrawn) bool_cmp_total) (then_total (on_total (λ (r : JobReg). r.wait) nat_cmp_total) (on_total (λ (r : JobReg). r.preempt) nat_cmp_total))))

pub total_spec : IsTotalOrder spec_cmp
total_spec = then_total (on_total (λ (r : SpecReg). r.version) nat_cmp_total) (then_total (on_total (λ (r : SpecReg). r.writer) nat_cmp_total) (then_total (on_total (λ (r : SpecReg). r.withdrawn) bool_cmp_total) (then_total (on_total (λ (r : SpecReg). r.job) nat_cmp_total) (then_total (on_total (λ (r : SpecReg). r.request) nat_cmp_total) (on_total (λ (r : SpecReg). r.prefer) total_preferences)))))

pub total_machine : IsTotalOrder machine_cmp
total_machine = then_total (on_total (λ (r : MachineReg). r.version) nat_cmp_total) (then_total (on_total (λ (r : MachineReg). r.writer) nat_cmp_total) (then_total (on_total (λ (r : MachineReg). r.up) bool_cmp_total) (then_total (on_total (λ (r : MachineReg). r.slots) nat_cmp_total) (on_total (λ (r : MachineReg). r.nic) nat_cmp_total))))

pub total_report : IsTotalOrder report_cmp
total_report = then_total (on_total (λ (r : Report). r.number) nat_cmp_total) (on_total (λ (r : Report). r.used) nat_cmp_total)

pub total_spot : IsTotalOrder spot_cmp
total_spot = then_total (on_total (λ (s : Spot). s.machine) nat_cmp_total) (on_total (λ (s : Spot). s.incarnation) nat_cmp_total)

pub total_attempt : IsTotalOrder attempt_cmp
total_attempt = then_total (on_total (λ (k : ℕ × ℕ). k.0) nat_cmp_total) (on_total (λ (k : ℕ × ℕ). k.1) nat_cmp_total)

same_bool : (x y : Bool) → bool_cmp x y ≡ Equal → x ≡ y
same_bool true true e = refl
same_bool false false e = refl
same_bool true false e = cc
same_bool false true e = cc

pub by_place : (x y : Phase) → phase_cmp x y ≡ nat_cmp (phase_place x) (phase_place y)
by_place Pending Pending = refl
by_place Pending Running = refl
by_place Pending Done = refl
by_place Running Pending = refl
by_place Running Running = refl
by_place Running Done = refl
by_place Done Pending = refl
by_place Done Running = refl
by_place Done Done = refl

total_phase : IsTotalOrder phase_cmp
total_phase = let same : phase_cmp ≡ on phase_place nat_cmp = λ i x y. by_place x y i in subst IsTotalOrder (sym same) (on_total phase_place nat_cmp_total)

same_phase : (x y : Phase) → phase_cmp x y ≡ Equal → x ≡ y
same_phase Pending Pending e = refl
same_phase Pending Running e = let none : Less ≡ Equal = e in cc
same_phase Pending Done e = let none : Less ≡ Equal = e in cc
same_phase Running Pending e = let none : Greater ≡ Equal = e in cc
same_phase Running Running e = refl
same_phase Running Done e = let none : Less ≡ Equal = e in cc
same_phase Done Pending e = let none : Greater ≡ Equal = e in cc
same_phase Done Running e = let none : Greater ≡ Equal = e in cc
same_phase Done Done e = refl

pub total_progress : IsTotalOrder progress_cmp
total_progress = then_total (on_total (λ (p : Progress). p.attempt) nat_cmp_total) (on_total (λ (p : Progress). p.phase) total_phase)

both_equal : (r s : Ordering) → ordering_then r s ≡ Equal → (r ≡ Equal) × (s ≡ Equal)
both_equal Less s e = cc
both_equal Equal s e = (refl, e)
both_equal Greater s e = cc

five : (a b c d f : Ordering) → ordering_then a (ordering_then b (ordering_then c (ordering_then d f))) ≡ Equal → (a ≡ Equal) × (b ≡ Equal) × (c ≡ Equal) × (d ≡ Equal) × (f ≡ Equal)
five a b c d f e =
    let p = both_equal a _ e in
    let q = both_equal b _ p.1 in
    let r = both_equal c _ q.1 in
    let s = both_equal d f r.1 in
    (p.0, q.0, r.0, s.0, s.1)

pub same_job : TellsApart job_cmp
same_job x y e =
    let p = five _ _ _ _ _ e in
    let a = nat_same x.version y.version p.0 in
    let b = nat_same x.writer y.writer p.1 in
    let c = same_bool x.withdrawn y.withdrawn p.2 in
    let d = nat_same x.wait y.wait p.3 in
    let f = nat_same x.preempt y.preempt p.4 in
    λ i. record { version = a i; writer = b i; withdrawn = c i; wait = d i; preempt = f i }

same_credit : TellsApart credit_cmp
same_credit x y e =
    let p = both_equal _ _ e in
    let a = nat_same x.0 y.0 p.0 in
    let b = nat_same x.1 y.1 p.1 in
    λ i. (a i, b i)

pub same_preferences : TellsApart preferences_cmp
same_preferences [] [] e = refl
same_preferences [] (y ∷ ys) e = let none : Less ≡ Equal = e in cc
same_preferences (x ∷ xs) [] e = let none : Greater ≡ Equal = e in cc
same_preferences (x ∷ xs) (y ∷ ys) e =
    let p = both_equal (credit_cmp x y) _ e in
    let a = same_credit x y p.0 in
    let b = same_preferences xs ys p.1 in
    λ i. a i ∷ b i

pub same_spec : TellsApart spec_cmp
same_spec x y e =
    let p = five _ _ _ _ _ e in
    let a = nat_same x.version y.version p.0 in
    let b = nat_same x.writer y.writer p.1 in
    let c = same_bool x.withdrawn y.withdrawn p.2 in
    let d = nat_same x.job y.job p.3 in
    let q = both_equal _ _ p.4 in
    let f = nat_same x.request y.request q.0 in
    let g = same_preferences x.prefer y.prefer q.1 in
    λ i. record { version = a i; writer = b i; withdrawn = c i; job = d i; request = f i; prefer = g i }

pub same_machine : TellsApart machine_cmp
same_machine x y e =
    let p = five _ _ _ _ _ e in
    let a = nat_same x.version y.version p.0 in
    let b = nat_same x.writer y.writer p.1 in
    let c = same_bool x.up y.up p.2 in
    let d = nat_same x.slots y.slots p.3 in
    let f = nat_same x.nic y.nic p.4 in
    λ i. record { version = a i; writer = b i; up = c i; slots = d i; nic = f i }

pub same_report : TellsApart report_cmp
same_report x y e =
    let p = both_equal _ _ e in
    let a = nat_same x.number y.number p.0 in
    let b = nat_same x.used y.used p.1 in
    λ i. record { number = a i; used = b i }

pub same_progress : TellsApart progress_cmp
same_progress x y e =
    let p = both_equal _ _ e in
    let a = nat_same x.attempt y.attempt p.0 in
    let b = same_phase x.phase y.phase p.1 in
    λ i. record { attempt = a i; phase = b i }

pub same_spot : TellsApart spot_cmp
same_spot x y e =
    let p = both_equal _ _ e in
    let a = nat_same x.machine y.machine p.0 in
    let b = nat_same x.incarnation y.incarnation p.1 in
    λ i. record { machine = a i; incarnation = b i }

pub same_attempt : TellsApart attempt_cmp
same_attempt x y e =
    let p = both_equal _ _ e in
    let a = nat_same x.0 y.0 p.0 in
    let b = nat_same x.1 y.1 p.1 in
    λ i. (a i, b i)
