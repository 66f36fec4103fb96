use Rattle.std.proofs.Common.{◌≡◌, ◌∙◌, ℕ, List, take, ap, subst, le_refl, arith, rules}
use Rattle.std.specs.Option.{option_map}
use Rattle.std.proofs.lemmas.Result.{err_from_is_err_and}
use Rattle.fm_store.specs.Stores.{IsRecovery, IsCauseOf}
use Rattle.fm_store.proofs.Opening.{damaged_found}
use Rattle.fm_store.proofs.Cutting.{keeps_same, keeps_cut, holds_same, holds_cut}
use Rattle.fm_store.proofs.store.read_store.Goals as goal
use Rattle.fm_store.proofs.store.read_store.Goals.{then-whole-len+in_ok-cut, else-whole-len}

pub returns-in_err-whole-clause-damaged : goal.returns-in_err-whole-clause-damaged
returns-in_err-whole-clause-damaged g c =
    let head = c.args.head.now in
    let p = err_from_is_err_and c.from_residual-in_err-whole.result c.from_residual-in_err-whole.ensures.1 in
    let cause = subst (λ (l : List ℕ). IsCauseOf head c.in_err-whole.field-0.0 l) c.deref.ensures.value c.in_err-whole.ensures.err in
    rw (p.1, p.2) (λ place named.
    (damaged_found head (g.D.Device.content c.args.device.now) c.in_ok-bytes.bytes.items c.in_err-whole.field-0.0 place c.in_ok-bytes.ensures.bytes cause named, c.read.ensures.same, c.read.ensures.synced))

pub returns-in_err-cut-clause-err : goal.returns-in_err-cut-clause-err
returns-in_err-cut-clause-err g c = λ other.
    let head = c.args.head.now in
    let found = c.in_ok-whole.ensures.ok in
    let p = err_from_is_err_and c.from_residual-in_err-cut.result c.from_residual-in_err-cut.ensures.1 in
    let recovery = subst (λ (l : List ℕ). IsRecovery head found.0 c.in_ok-whole.whole l) c.deref.ensures.value found.2 in
    let some : c.in_ok-whole.whole ≡ 0 → ⊥ = λ zero. omega (arith, c.if-whole-eq0.false, zero) in
    let left = c.in_err-cut.ensures.err in
    rw p.1 (keeps_cut head other (g.D.Device.content c.args.device.now) (g.D.Device.content c.cut.new.self) c.in_ok-bytes.bytes.items found.0 c.in_ok-whole.whole left.0
    c.in_ok-bytes.ensures.bytes recovery some left.1 (left.2 ∙ ap (option_map (take left.0)) c.read.ensures.same))

pub returns-in_err-bring_onto_disk-clause-err : goal.returns-in_err-bring_onto_disk-clause-err
returns-in_err-bring_onto_disk-clause-err g c = λ other.
    let head = c.args.head.now in
    let found = c.in_ok-whole.ensures.ok in
    let old = g.D.Device.content c.args.device.now in
    let new = g.D.Device.content c.bring_onto_disk.new.device in
    let bytes = c.in_ok-bytes.bytes.items in
    let p = err_from_is_err_and c.from_residual-in_err-bring_onto_disk.result c.from_residual-in_err-bring_onto_disk.ensures.1 in
    let recovery = subst (λ (l : List ℕ). IsRecovery head found.0 c.in_ok-whole.whole l) c.deref.ensures.value found.2 in
    let some : c.in_ok-whole.whole ≡ 0 → ⊥ = λ zero. omega (arith, c.if-whole-eq0.false, zero) in
    rw p.1 (elim c.if-whole-len.branch [
      | then-whole-len+in_ok-cut w ↦
          let mid = g.D.Device.content c.if-whole-len.device in
          let cut : mid ≡ option_map (take c.in_ok-whole.whole) old = ap g.D.Device.content w.device-is ∙ w.in_ok-cut.ensures.ok ∙ ap (option_map (take c.in_ok-whole.whole)) c.read.ensures.same in
          let kept : c.if-whole-len.kept.now ≡ take c.in_ok-whole.whole bytes = search (rules, w.kept-is) in
          let same : new ≡ mid = c.in_err-bring_onto_disk.ensures.same (holds_cut old mid bytes c.if-whole-len.kept.now c.in_ok-whole.whole cut c.in_ok-bytes.ensures.bytes kept) in
          keeps_cut head other old new bytes found.0 c.in_ok-whole.whole c.in_ok-whole.whole c.in_ok-bytes.ensures.bytes recovery some (le_refl c.in_ok-whole.whole) (same ∙ cut)
      | else-whole-len w ↦
          let mid = g.D.Device.content c.if-whole-len.device in
          let is : mid ≡ old = ap g.D.Device.content w.device-is ∙ c.read.ensures.same in
          let kept : c.if-whole-len.kept.now ≡ bytes = search (rules, w.kept-is) in
          let same : new ≡ mid = c.in_err-bring_onto_disk.ensures.same (holds_same old mid bytes c.if-whole-len.kept.now is c.in_ok-bytes.ensures.bytes kept) in
          keeps_same other old new (same ∙ is)
    ])
